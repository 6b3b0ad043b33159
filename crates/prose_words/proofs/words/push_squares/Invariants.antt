use Rattle.std.proofs.Common.{◌≡◌, ◌++◌}
use Rattle.std.specs.List.{flat_map, range_with_len}
use Rattle.board_base.specs.Board.{is_in}
use Rattle.prose_words.specs.Words.{square_if}
use Rattle.prose_words.proofs.words.push_squares.Given as goal

abbrev pub invariant-loop-i : goal.invariant-loop-i
invariant-loop-i l = l.out.items ≡ l.fn.out.items ++ flat_map (square_if (is_in l.set)) (range_with_len 0 l.i)
