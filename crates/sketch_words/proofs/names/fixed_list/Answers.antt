use Rattle.std.proofs.Common.{◌∙◌, [], arith}
use Rattle.figures.specs.Figures.{is_fixed_on}
use Rattle.prose_words.proofs.Squares.{flat_more, flat_whole}
use Rattle.prose_words.specs.Words.{square_if, squares_words}
use Rattle.sketch_words.proofs.names.fixed_list.Goals as goal

pub loop-i-preserved : goal.loop-i-preserved
loop-i-preserved c =
    rw (c.is_fixed_on.ensures, c.known-s.ensures) at c.in_ok-push_square_if.ensures
    ∙ flat_more (square_if (λ s. is_fixed_on s c.args.figure.now)) [] _ _ c.loop-i.invariant

pub returns : goal.returns
unfolding squares_words
returns c = flat_whole (square_if (λ s. is_fixed_on s c.args.figure.now)) [] _ _ 64 c.loop-i.invariant (omega arith)
