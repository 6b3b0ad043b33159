use Rattle.capture_prices.proofs.Stored.{IsStored-known}
use Rattle.capture_prices.proofs.prices.Prices.known.Goals as goal

pub invariant_of-result : goal.invariant_of-result
invariant_of-result c = IsStored-known c.args.white.now c.args.black.now c.args.gates.now c.copy_from_slice.new.self c.copy_from_slice.ensures.after c.requires
