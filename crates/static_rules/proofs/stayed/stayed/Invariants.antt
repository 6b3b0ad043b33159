use Rattle.std.proofs.Common.{ℕ, cond}
use Rattle.std.specs.Prelude.{None}
use Rattle.board_base.specs.Board.{at}
use Rattle.cage_rules.proofs.Filling.{Filled}
use Rattle.static_rules.specs.Left.{has_stayed}
use Rattle.static_rules.proofs.stayed.stayed.Given as goal

abbrev pub invariant-loop-i : goal.invariant-loop-i
invariant-loop-i l = Filled (λ (s : ℕ). cond (has_stayed l.first l.board s) (at l.first s) None) None l.left l.i
