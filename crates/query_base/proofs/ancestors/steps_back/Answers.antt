use Rattle.std.proofs.Common.{reverse}
use Rattle.query_base.proofs.Nearest.{none-nearer}
use Rattle.query_base.proofs.ancestors.steps_back.Goals as goal

pub returns-then-is_covered : goal.returns-then-is_covered
returns-then-is_covered c = record {
  covers = c.is_covered.ensures.0 c.if-is_covered.true;
  nearest = none-nearer c.args.query.now (reverse c.args.ancestors.now) c.loop-i.i c.loop-i.invariant;
}
