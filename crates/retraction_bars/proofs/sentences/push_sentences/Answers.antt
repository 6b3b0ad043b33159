use Rattle.std.proofs.Common.{◌∙◌, arith}
use Rattle.prose_words.proofs.Squares.{flat_more, flat_whole}
use Rattle.retraction_bars.specs.Sentences.{sentence_words, sentences_words}
use Rattle.retraction_bars.proofs.sentences.push_sentences.Goals as goal

pub loop-n-preserved : goal.loop-n-preserved
loop-n-preserved c = c.in_ok-push_sentence_if.ensures ∙ flat_more (sentence_words c.args.query.now c.args.cs.now) _ _ _ c.loop-n.invariant

pub returns : goal.returns
unfolding sentences_words
returns c = flat_whole (sentence_words c.args.query.now c.args.cs.now) _ _ _ 146 c.loop-n.invariant (omega arith)
