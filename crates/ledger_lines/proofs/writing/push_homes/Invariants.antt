use Rattle.std.proofs.Common.{◌≡◌, ◌++◌, ℕ}
use Rattle.std.specs.List.{flat_map, list_any, range_with_len}
use Rattle.board_base.specs.Board.{is_in}
use Rattle.ledger_lines.specs.LineTexts.{home_word}
use Rattle.ledger_lines.proofs.writing.push_homes.Given as goal

abbrev pub invariant-loop-i : goal.invariant-loop-i
invariant-loop-i l = record {
  text : l.out.items ≡ l.fn.out.items ++ flat_map (λ (h : ℕ). home_word (is_in l.homes h) (list_any (is_in l.homes) (range_with_len 0 h)) h) (range_with_len 0 l.i);
  before : l.several ≡ list_any (is_in l.homes) (range_with_len 0 l.i);
}
