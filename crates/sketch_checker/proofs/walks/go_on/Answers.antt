use Rattle.std.proofs.Common.{List, subst, sym}
use Rattle.sketch_text.specs.Trees.{Line}
use Rattle.sketch_checker.specs.Walks.{CompletesOpened, Opened}
use Rattle.sketch_checker.proofs.Steering.{all-read, err-anyway}
use Rattle.sketch_checker.proofs.walks.go_on.Goals as goal

pub returns-in_err-close-clause-refused : goal.returns-in_err-close-clause-refused
returns-in_err-close-clause-refused c =
    let same = all-read c.args.opened c.opened.inside.line c.opened.inside.marks c.opened.inside.end c.opened.inside.sketch c.if-opened-gt0.false c.opened.view_is in
    let refused : (lines : List Line) → CompletesOpened c.args.setting.now c.args.opened c.args.frames.now lines → ⊥ = λ lines it. c.in_err-close.ensures.refused lines (subst (λ (o : Opened). CompletesOpened c.args.setting.now o c.args.frames.now lines) (sym same) it) in
    err-anyway c.from_residual.result _ refused
