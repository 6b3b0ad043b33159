use Rattle.std.proofs.Common.{◌≡◌}
use Rattle.std.specs.List.{flat_map, range_with_len}
use Rattle.proof_sentences.specs.Sentences.{is_kept}
use Rattle.prose_words.specs.Words.{square_if}
use Rattle.proof_sentences.proofs.unmoved.kept_squares.Given as goal

abbrev pub invariant-loop-i : goal.invariant-loop-i
invariant-loop-i l = l.list.items ≡ flat_map (square_if (is_kept l.query l.set)) (range_with_len 0 l.i)
