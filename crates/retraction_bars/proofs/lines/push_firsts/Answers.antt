use Rattle.std.proofs.Common.{◌∙◌, arith}
use Rattle.prose_words.proofs.Squares.{flat_more, flat_whole}
use Rattle.retraction_bars.specs.Lines.{is_first, label_if, labels_words}
use Rattle.retraction_bars.proofs.lines.push_firsts.Goals as goal

pub loop-i-preserved : goal.loop-i-preserved
loop-i-preserved c = rw (c.is_first.ensures, c.known-t.ensures) at c.in_ok-push_label_if.ensures ∙ flat_more (label_if c.args.query.now (is_first c.args.query.now)) _ _ _ c.loop-i.invariant

pub returns : goal.returns
unfolding labels_words
returns c = flat_whole (label_if c.args.query.now (is_first c.args.query.now)) _ _ _ 64 c.loop-i.invariant (omega arith)
