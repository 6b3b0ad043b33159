use Rattle.std.proofs.Common.{◌≡◌}
use Rattle.std.specs.List.{flat_map, range_with_len}
use Rattle.proof_sentences.specs.Sentences.{is_gone}
use Rattle.prose_words.specs.Words.{square_if}
use Rattle.proof_sentences.proofs.pawn_facts.gone_squares.Given as goal

abbrev pub invariant-loop-i : goal.invariant-loop-i
invariant-loop-i l = l.list.items ≡ flat_map (square_if (is_gone l.query l.side l.set)) (range_with_len 0 l.i)
