use Rattle.std.proofs.Common.{◌<◌, ◌≤◌, length, arith}
use Rattle.sketch_prose.proofs.Marking.{marks-begin, marks-end, marks-on}
use Rattle.sketch_prose.proofs.marks.push_lines.Goals as goal
use Rattle.sketch_prose.specs.Bases.{setting_with}

pub loop-i-init : goal.loop-i-init
loop-i-init c = λ ms more e size forced. marks-begin (setting_with c.args.base.now c.args.prices.now) c.args.base.now.diagram ms c.args.sketch c.args.out.now.items forced

pub loop-i-preserved : goal.loop-i-preserved
loop-i-preserved c = λ ms more e size forced.
    let less : c.loop-i.i < c.args.count = c.loop-i-test.true in
    let low : c.loop-i.i < length c.args.lines.now = omega arith in
    marks-on (setting_with c.args.base.now c.args.prices.now) c.args.base.now.diagram ms c.args.sketch c.loop-i.i c.args.count c.loop-i.last c.in_ok-last.last c.args.lines.now c.index-lines-i.result more c.args.out.now.items c.loop-i.out.items c.push_line.new.out.items (c.loop-i.invariant ms more e size forced) less size low c.index-lines-i.is e c.in_ok-last.ensures

pub returns : goal.returns
returns c = λ ms more e size forced.
    let few : length ms ≤ c.loop-i.i = omega (arith, size, c.loop-i-test.false) in
    marks-end (setting_with c.args.base.now c.args.prices.now) c.args.base.now.diagram ms c.args.sketch c.loop-i.i c.loop-i.last c.args.out.now.items c.loop-i.out.items (c.loop-i.invariant ms more e size forced) few
