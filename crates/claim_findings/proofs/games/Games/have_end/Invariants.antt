use Rattle.std.proofs.Common.{take}
use Rattle.std.specs.List.{All}
use Rattle.claim_findings.specs.SearchEnds.{IsEndedBy}
use Rattle.claim_findings.proofs.games.Games.have_end.Given as goal

abbrev pub invariant-loop-game : goal.invariant-loop-game
invariant-loop-game l = All (λ g. IsEndedBy g l.u.mv l.before → ⊥) (take l.game-index l.found)
