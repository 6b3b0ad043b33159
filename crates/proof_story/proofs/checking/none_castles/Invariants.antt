use Rattle.std.proofs.Common.{take}
use Rattle.std.specs.List.{All}
use Rattle.std.specs.Prelude.{◌≡◌, false}
use Rattle.proof_story.specs.Rendering.{castles_from}
use Rattle.proof_story.proofs.checking.none_castles.Given as goal

abbrev pub invariant-loop-from : goal.invariant-loop-from
invariant-loop-from l = All (λ s. castles_from l.board l.way s ≡ false) (take l.from-index l.origins)
