use Rattle.std.proofs.Common.{map, refl, ◌∙◌, subst, arith}
use Rattle.sketch_body.specs.Seen.{line_of}
use Rattle.sketch_checker.specs.Proofs.{Setting}
use Rattle.sketch_checker.specs.LineWalk.{OnLine, going, stopped}
use Rattle.cert_checker.specs.SketchLines.{AreDue}
use Rattle.cert_checker.proofs.SketchDue.{leads-end, leads-next, leads-stop, line-comes, lines-next}
use Rattle.cert_checker.proofs.sketch_walking.take_all_lines.Goals as goal
use Rattle.sketch_checker.proofs.Finishing.{next-line, no-line-left}

pub loop-line-init : goal.loop-line-init
loop-line-init c = record { due = c.requires.due; setting = refl; place = omega arith; walked = λ last walks. walks }

pub take_sketch_line-requires : goal.take_sketch_line-requires
take_sketch_line-requires c =
    let left = next-line c.args.lines.now c.loop-line.line-index c.line-item.result c.loop-line-test.true c.line-item.is in
    line-comes c.loop-line.walk.opened c.loop-line.walk.frames (line_of c.line-item.result) _ (subst (AreDue c.loop-line.walk.opened c.loop-line.walk.frames) left c.loop-line.invariant.due)

pub loop-line-preserved : goal.loop-line-preserved
loop-line-preserved c =
    let left = next-line c.args.lines.now c.loop-line.line-index c.line-item.result c.loop-line-test.true c.line-item.is in
    let due = subst (AreDue c.loop-line.walk.opened c.loop-line.walk.frames) left c.loop-line.invariant.due in
    let on = subst (λ (g : Setting). OnLine g c.loop-line.walk.opened c.loop-line.walk.frames c.loop-line.number (line_of c.line-item.result) (going c.take_sketch_line.new.walk.opened c.take_sketch_line.new.walk.frames)) c.loop-line.invariant.setting c.in-Ok.ensures.walk in
    record {
      due = lines-next _ c.loop-line.walk.opened c.loop-line.walk.frames c.loop-line.number (line_of c.line-item.result) _ c.take_sketch_line.new.walk.opened c.take_sketch_line.new.walk.frames due on;
      setting = c.in-Ok.ensures.setting ∙ c.loop-line.invariant.setting;
      place = omega (arith, c.loop-line.invariant.place);
      walked = leads-next _ (going c.args.walk.now.opened c.args.walk.now.frames) _ c.args.first c.loop-line.number _ _ (map line_of c.args.lines.now) c.loop-line.walk.opened c.loop-line.walk.frames (line_of c.line-item.result) left on c.loop-line.invariant.walked;
    }

pub returns-in-Err-clause-walk : goal.returns-in-Err-clause-walk
returns-in-Err-clause-walk c =
    let left = next-line c.args.lines.now c.loop-line.line-index c.line-item.result c.loop-line-test.true c.line-item.is in
    let is = c.in-Err.ensures.walk in
    let on = subst (λ (g : Setting). OnLine g c.loop-line.walk.opened c.loop-line.walk.frames c.loop-line.number (line_of c.line-item.result) (stopped c.in-Err.fault.line is.0)) c.loop-line.invariant.setting is.2 in
    (is.0, is.1, leads-stop _ (going c.args.walk.now.opened c.args.walk.now.frames) c.args.first c.loop-line.number c.in-Err.fault.line is.0 _ _ (map line_of c.args.lines.now) c.loop-line.walk.opened c.loop-line.walk.frames (line_of c.line-item.result) left on c.loop-line.invariant.walked)

pub returns-clause-walk : goal.returns-clause-walk
returns-clause-walk c =
    leads-end _ (going c.args.walk.now.opened c.args.walk.now.frames) c.args.first c.loop-line.number _ (map line_of c.args.lines.now) c.loop-line.walk.opened c.loop-line.walk.frames (no-line-left c.args.lines.now c.loop-line.line-index (omega arith)) c.loop-line.invariant.due c.loop-line.invariant.walked
