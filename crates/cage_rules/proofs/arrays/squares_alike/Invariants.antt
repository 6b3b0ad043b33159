use Rattle.std.proofs.Common.{ℕ, false}
use Rattle.board_base.specs.Board.{at, same_place}
use Rattle.cage_rules.proofs.Filling.{Filled}
use Rattle.cage_rules.proofs.arrays.squares_alike.Given as goal

abbrev pub invariant-loop-i : goal.invariant-loop-i
invariant-loop-i l = Filled (λ (s : ℕ). same_place (at l.board s) (at l.first s)) false l.alike l.i
