use Rattle.std.proofs.Common.{[], ◌∙◌, arith}
use Rattle.prose_words.proofs.Squares.{flat_more, flat_whole}
use Rattle.retraction_bars.specs.Clauses.{clauses, clauses_to}
use Rattle.retraction_bars.proofs.gathering.clauses.Goals as goal

pub loop-i-preserved : goal.loop-i-preserved
loop-i-preserved c = rw c.known.ensures at c.in_ok-push_to.ensures ∙ flat_more (clauses_to c.args.query.now) [] _ _ c.loop-i.invariant

pub returns : goal.returns
unfolding clauses
returns c = flat_whole (clauses_to c.args.query.now) [] _ _ 64 c.loop-i.invariant (omega arith)
