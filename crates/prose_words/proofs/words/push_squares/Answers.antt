use Rattle.std.proofs.Common.{◌∙◌, arith}
use Rattle.prose_words.specs.Words.{squares_words, square_if}
use Rattle.board_base.specs.Board.{is_in}
use Rattle.prose_words.proofs.Squares.{flat_more, flat_whole}
use Rattle.prose_words.proofs.words.push_squares.Goals as goal

pub loop-i-preserved : goal.loop-i-preserved
loop-i-preserved c = rw (c.has.ensures.member, c.known-s.ensures) at c.in_ok-push_square_if.ensures ∙ flat_more (square_if (is_in c.args.set)) _ _ _ c.loop-i.invariant

pub returns : goal.returns
unfolding squares_words
returns c = flat_whole (square_if (is_in c.args.set)) _ _ _ 64 c.loop-i.invariant (omega arith)
