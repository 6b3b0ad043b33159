use Rattle.std.proofs.Common.{ℕ, cond}
use Rattle.std.specs.Prelude.{None}
use Rattle.board_base.specs.Board.{at, is_in}
use Rattle.cage_rules.proofs.Filling.{Filled}
use Rattle.proof_sentences.proofs.lessening.kept_men.Given as goal

abbrev pub invariant-loop-i : goal.invariant-loop-i
invariant-loop-i l = Filled (λ (s : ℕ). cond (is_in l.set s) (at l.board s) None) None l.left l.i
