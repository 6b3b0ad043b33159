use Rattle.std.proofs.Common.{◌∙◌, map, sym}
use Rattle.sketch_body.specs.Seen.{line_of}
use Rattle.sketch_prose.proofs.Ending.{closed-ends, split-ends, steps-ends, void-ends}
use Rattle.sketch_prose.proofs.ends.push_end.Goals as goal
use Rattle.sketch_prose.specs.Bases.{setting_with}

pub returns-in_ok-push_void-in-Void : goal.returns-in_ok-push_void-in-Void
returns-in_ok-push_void-in-Void c = λ prices r rest e lines holds fit.
    void-ends r (setting_with c.args.base.now prices) c.args.base.now.diagram c.args.spot c.args.sketch.now c.args.out.now.items c.push_void.new.out.items (sym c.in-Void.is ∙ e) holds (c.in_ok-push_void-in-Void.ensures prices)

pub returns-in_ok-say-in-Closed : goal.returns-in_ok-say-in-Closed
returns-in_ok-say-in-Closed c = λ prices r rest e lines holds fit.
    closed-ends r _ (setting_with c.args.base.now prices) c.args.base.now.diagram c.args.spot c.args.sketch.now c.args.out.now.items c.say.new.out.items (sym c.in-Closed.is ∙ e) holds c.in_ok-say-in-Closed.ensures

pub returns-in_ok-below-in-Steps : goal.returns-in_ok-below-in-Steps
returns-in_ok-below-in-Steps c = λ prices r rest e lines holds fit.
    steps-ends r c.in-Steps.count (setting_with c.args.base.now prices) c.args.base.now.diagram c.args.spot c.args.sketch.now c.in_ok-below-in-Steps.below c.args.out.now.items c.push_steps.new.out.items (map line_of c.args.lines.now) rest (sym c.in-Steps.is ∙ e) lines holds fit (c.in_ok-below-in-Steps.ensures prices)

pub returns-in_ok-below-in-Split : goal.returns-in_ok-below-in-Split
returns-in_ok-below-in-Split c = λ prices r rest e lines holds fit.
    split-ends r c.in-Split.s (setting_with c.args.base.now prices) c.args.base.now.diagram c.args.spot c.args.sketch.now c.in_ok-below-in-Split.below c.args.out.now.items c.push_split.new.out.items (map line_of c.args.lines.now) rest (sym c.in-Split.is ∙ e) lines holds fit (c.in_ok-below-in-Split.ensures prices)
