use Rattle.std.proofs.Common.{◌≡◌, ◌++◌, drop, true}
use Rattle.line_claims.specs.Listing.{AreListed}
use Rattle.dossier_prose.specs.Claims.{moves_words}
use Rattle.dossier_prose.proofs.claims.push_moves.Given as goal

abbrev pub invariant-loop-step : goal.invariant-loop-step
invariant-loop-step l = record {
  words : l.out.items ++ moves_words l.first l.left (drop l.step-index l.steps) ≡ l.fn.out.items ++ moves_words true l.fn.query l.steps;
  listed : AreListed l.left (drop l.step-index l.steps);
}
