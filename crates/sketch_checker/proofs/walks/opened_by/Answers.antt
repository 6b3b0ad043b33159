use Rattle.std.proofs.Common.{◌≡◌, ap, ◌∙◌, false}
use Rattle.std.specs.Prelude.{None, Option, Some}
use Rattle.sketch_checker.specs.Walks.{Opened}
use Rattle.sketch_body.specs.Seen.{line_of}
use Rattle.sketch_checker.specs.Placed.{may_come}
use Rattle.sketch_body.specs.declared.lines.SketchLine.{SketchLine}
use Rattle.sketch_checker.proofs.Coming.{misplaced}
use Rattle.sketch_checker.proofs.walks.opened_by.Goals as goal

pub returns-in-Marks-clause-refused : goal.returns-in-Marks-clause-refused
returns-in-Marks-clause-refused c = λ lines it.
    let bar : may_come c.args.opened c.args.frames.now (line_of c.args.line.now) ≡ false = ap (λ (o : Option Opened). may_come o c.args.frames.now (line_of c.args.line.now)) c.in-None.is ∙ ap (λ (l : SketchLine). may_come None c.args.frames.now (line_of l)) c.in-Marks.is in
    misplaced c.args.setting.now.odds c.args.setting.now c.args.opened c.args.frames.now (line_of c.args.line.now) lines c.requires bar it

pub returns-in-Node-line-clause-refused : goal.returns-in-Node-line-clause-refused
returns-in-Node-line-clause-refused c = λ lines it.
    let bar : may_come c.args.opened c.args.frames.now (line_of c.args.line.now) ≡ false = ap (λ (o : Option Opened). may_come o c.args.frames.now (line_of c.args.line.now)) c.in-Some.is ∙ ap (λ (l : SketchLine). may_come (Some c.in-Some.opened) c.args.frames.now (line_of l)) c.in-Node-line.is in
    misplaced c.args.setting.now.odds c.args.setting.now c.args.opened c.args.frames.now (line_of c.args.line.now) lines c.requires bar it
