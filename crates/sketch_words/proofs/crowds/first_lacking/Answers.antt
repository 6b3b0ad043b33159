use Rattle.std.proofs.Common.{◌≤◌, ◌∙◌, length, sym, arith}
use Rattle.sketch_words.proofs.Crowding.{crowd-end, crowd-here, crowd-on, none-past}
use Rattle.sketch_words.proofs.crowds.first_lacking.Goals as goal

pub returns-in_default : goal.returns-in_default
returns-in_default c = crowd-end c.args.lack c.args.odds c.args.sketch.now c.loop-i.i (none-past c.args.sketch.now c.loop-i.i (sym c.in_default.ensures)) c.loop-i.invariant

pub returns-then-lacks_it : goal.returns-then-lacks_it
returns-then-lacks_it c = crowd-here c.args.lack c.args.odds c.args.sketch.now c.loop-i.i c.in-Some.figure c.array_of-first.result c.array_of-first.ensures (sym c.in-Some.ensures) (sym c.lacks_it.ensures ∙ c.if-lacks_it.true) c.loop-i.invariant

pub loop-i-preserved : goal.loop-i-preserved
loop-i-preserved c = crowd-on c.args.lack c.args.odds c.args.sketch.now c.loop-i.i c.in-Some.figure c.array_of-first.result c.array_of-first.ensures (sym c.in-Some.ensures) (sym c.lacks_it.ensures ∙ c.if-lacks_it.false) c.loop-i.invariant

pub returns : goal.returns
returns c = crowd-end c.args.lack c.args.odds c.args.sketch.now c.loop-i.i (let past : length c.args.sketch.now ≤ c.loop-i.i = omega arith in past) c.loop-i.invariant
