use Rattle.std.proofs.Common.{ℕ, cond}
use Rattle.std.specs.Prelude.{None}
use Rattle.board_base.specs.Board.{at}
use Rattle.static_rules.specs.Left.{may_live}
use Rattle.cage_rules.proofs.Filling.{Filled}
use Rattle.static_rules.proofs.living_homes.living.Given as goal

abbrev pub invariant-loop-i : goal.invariant-loop-i
invariant-loop-i l = Filled (λ (s : ℕ). cond (may_live l.side l.first l.board l.set s) (at l.first s) None) None l.left l.i
