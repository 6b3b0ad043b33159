use Rattle.std.proofs.Common.{ℕ, ◌<◌, IsTrue}
use Rattle.board_base.specs.Board.{is_in}
use Rattle.proof_story.proofs.checking.are_noted.Given as goal

abbrev pub invariant-loop-i : goal.invariant-loop-i
invariant-loop-i l = (k : ℕ) → k < l.i → IsTrue (is_in l.needed k)
