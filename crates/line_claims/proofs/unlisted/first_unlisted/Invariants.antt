use Rattle.std.proofs.Common.{◌≡◌, ◌+◌, take}
use Rattle.unmove_gen.specs.Predecessor.{left_by}
use Rattle.line_claims.specs.Listing.{AreListed}
use Rattle.line_claims.proofs.unlisted.first_unlisted.Given as goal

abbrev pub invariant-loop-step : goal.invariant-loop-step
invariant-loop-step l = record {
  number : l.number ≡ l.step-index + 1;
  left : l.left ≡ left_by l.fn.query (take l.step-index l.steps);
  listed : AreListed l.fn.query (take l.step-index l.steps);
}
