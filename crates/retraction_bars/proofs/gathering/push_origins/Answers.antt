use Rattle.std.proofs.Common.{◌∙◌, arith}
use Rattle.retraction_bars.specs.Clauses.{clauses_from}
use Rattle.prose_words.proofs.Squares.{flat_more, flat_whole}
use Rattle.retraction_bars.proofs.gathering.push_origins.Goals as goal

pub loop-i-preserved : goal.loop-i-preserved
loop-i-preserved c = rw c.known.ensures at c.in_ok-push_from.ensures ∙ flat_more (clauses_from c.args.query.now c.args.ways.now c.args.to) _ _ _ c.loop-i.invariant

pub returns : goal.returns
returns c = flat_whole (clauses_from c.args.query.now c.args.ways.now c.args.to) _ _ _ 64 c.loop-i.invariant (omega arith)
