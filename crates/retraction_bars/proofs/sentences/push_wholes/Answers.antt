use Rattle.std.proofs.Common.{◌∙◌, arith}
use Rattle.prose_words.proofs.Squares.{flat_more, flat_whole}
use Rattle.retraction_bars.specs.Sentences.{whole_words, wholes_words}
use Rattle.retraction_bars.proofs.sentences.push_wholes.Goals as goal

pub loop-i-preserved : goal.loop-i-preserved
loop-i-preserved c = rw c.known.ensures at c.in_ok-push_whole_if.ensures ∙ flat_more (whole_words c.args.query.now c.args.cs.now c.args.n) _ _ _ c.loop-i.invariant

pub returns : goal.returns
unfolding wholes_words
returns c = flat_whole (whole_words c.args.query.now c.args.cs.now c.args.n) _ _ _ 64 c.loop-i.invariant (omega arith)
