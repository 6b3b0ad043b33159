use Rattle.std.proofs.Common.{ℕ, ◌<◌, subst}
use Rattle.std.specs.Prelude.{SomeIff}
use Rattle.sketch_walk.proofs.ways.origin.Goals as goal

pub returns : goal.returns
returns c = subst (λ (n : ℕ). SomeIff c.new.result (n < 64) n) c.origin_number.ensures c.new.ensures
