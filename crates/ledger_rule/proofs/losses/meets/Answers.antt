use Rattle.std.proofs.Common.{arith}
use Rattle.ledger_rule.proofs.Told.{meets-made}
use Rattle.ledger_rule.proofs.losses.meets.Goals as goal

pub returns : goal.returns
returns c = meets-made c.args.a c.args.b c.both.result c.next_from.result c.both.ensures (λ s low. c.next_from.ensures.none s (omega arith) low) c.next_from.ensures.found
