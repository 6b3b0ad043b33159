use Rattle.std.proofs.Common.{ℕ}
use Rattle.board_base.specs.Board.{at, is_of}
use Rattle.general_lemmas.proofs.Rows.{AreMade}
use Rattle.balance_rule.proofs.men.squares_of_men.Given as goal

abbrev pub invariant-loop-i : goal.invariant-loop-i
invariant-loop-i l = AreMade (λ s. is_of l.side (at l.board s)) (λ (s : ℕ). s) 64 16 l.i l.men.items
