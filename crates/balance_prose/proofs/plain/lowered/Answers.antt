use Rattle.balance_prose.proofs.Known.{lowered-known}
use Rattle.balance_prose.proofs.plain.lowered.Goals as goal

pub known-requires : goal.known-requires
known-requires c = rw (c.once_each-white.ensures, c.once_each-black.ensures, c.takes.ensures.value, c.takes-2.ensures.value) (lowered-known c.args.prices.now c.takes.ensures.range)
