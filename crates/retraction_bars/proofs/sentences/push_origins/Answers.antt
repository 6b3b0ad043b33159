use Rattle.std.proofs.Common.{◌∙◌, arith}
use Rattle.retraction_bars.specs.Sentences.{origin_words, origins_words}
use Rattle.prose_words.proofs.Squares.{flat_more, flat_whole}
use Rattle.retraction_bars.proofs.sentences.push_origins.Goals as goal

pub loop-i-preserved : goal.loop-i-preserved
loop-i-preserved c = rw c.known.ensures at c.in_ok-push_origin.ensures ∙ flat_more (origin_words c.args.cs.now c.args.t c.args.manner c.args.n) _ _ _ c.loop-i.invariant

pub returns : goal.returns
unfolding origins_words
returns c = flat_whole (origin_words c.args.cs.now c.args.t c.args.manner c.args.n) _ _ _ 64 c.loop-i.invariant (omega arith)
