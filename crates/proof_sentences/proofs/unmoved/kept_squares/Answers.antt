use Rattle.std.proofs.Common.{◌∙◌, [], arith}
use Rattle.proof_sentences.specs.Sentences.{is_kept}
use Rattle.prose_words.specs.Words.{square_if, squares_words}
use Rattle.prose_words.proofs.Squares.{flat_more, flat_whole}
use Rattle.proof_sentences.proofs.unmoved.kept_squares.Goals as goal

pub loop-i-preserved : goal.loop-i-preserved
loop-i-preserved c =
    rw (c.is_kept.ensures, c.known-s.ensures) at c.in_ok-push_square_if.ensures
    ∙ flat_more (square_if (is_kept c.args.query.now c.args.set)) [] _ _ c.loop-i.invariant

pub returns : goal.returns
unfolding squares_words
returns c = flat_whole (square_if (is_kept c.args.query.now c.args.set)) [] _ _ 64 c.loop-i.invariant (omega arith)
