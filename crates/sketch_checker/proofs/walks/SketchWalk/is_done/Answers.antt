use Rattle.std.proofs.Common.{◌≡◌, [], None, true, subst}
use Rattle.sketch_checker.specs.Walks.{Finishes, Walk}
use Rattle.sketch_checker.specs.LineWalk.{going}
use Rattle.sketch_checker.proofs.Settling.{over-nothing}
use Rattle.sketch_checker.proofs.Steering.{over-told}
use Rattle.sketch_checker.proofs.walks.SketchWalk.is_done.Goals as goal

pub returns-clause-done : goal.returns-clause-done
returns-clause-done c =
    subst (λ (w : Walk). (c.is_over.result ≡ true → Finishes w []) × (Finishes w [] → c.is_over.result ≡ true)) c.self.view_is
    (over-told c.self.inside.setting.odds c.self.inside.setting c.self.inside.opened c.self.inside.frames c.is_over.result c.is_over.ensures c.self.invariant)

pub returns-clause-nothing : goal.returns-clause-nothing
returns-clause-nothing c =
    subst (λ (w : Walk). (c.is_over.result ≡ true → going w.opened w.frames ≡ going None []) × (going w.opened w.frames ≡ going None [] → c.is_over.result ≡ true)) c.self.view_is
    (over-nothing c.self.inside.opened c.self.inside.frames c.is_over.result c.is_over.ensures)
