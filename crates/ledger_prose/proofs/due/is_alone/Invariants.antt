use Rattle.std.proofs.Common.{◌≡◌, ◌-◌, ◌==◌, ℕ, not}
use Rattle.std.specs.Prelude.{◌&&◌}
use Rattle.std.specs.List.{list_all, range_with_len}
use Rattle.board_base.specs.Board.{is_in}
use Rattle.ledger_prose.specs.Sentences.{is_alone}
use Rattle.ledger_prose.proofs.due.is_alone.Given as goal

abbrev pub invariant-loop-i : goal.invariant-loop-i
invariant-loop-i l = list_all (λ (s : ℕ). not (is_in l.set s && not (s == l.h))) (range_with_len l.i (64 - l.i)) ≡ is_alone l.h l.set
