use Rattle.std.proofs.Common.{take}
use Rattle.std.specs.List.{All}
use Rattle.query_base.specs.Reach.{Reaches}
use Rattle.claim_findings.proofs.games.Games.have_one.Given as goal

abbrev pub invariant-loop-game : goal.invariant-loop-game
invariant-loop-game l = All (λ g. Reaches g l.query → ⊥) (take l.game-index l.found)
