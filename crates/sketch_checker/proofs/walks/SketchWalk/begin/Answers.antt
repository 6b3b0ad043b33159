use Rattle.std.proofs.Common.{◌↔◌, [], ◌∷◌, List, ap, ◌∙◌, sym, subst}
use Rattle.sketch_text.specs.declared.labels.Label.TheVariants.{Now}
use Rattle.sketch_proof.specs.Proofs.{Proves}
use Rattle.sketch_checker.specs.Beginning.{CanBegin}
use Rattle.sketch_checker.specs.Walks.{Completes, Frame, Walk}
use Rattle.sketch_checker.proofs.Completing.{frame}
use Rattle.sketch_checker.proofs.Steering.{first-proves, first-ready}
use Rattle.sketch_checker.proofs.walks.SketchWalk.begin.Goals as goal

pub invariant_of-self : goal.invariant_of-self
invariant_of-self c =
    first-ready c.self.inside.setting.odds c.push.new.self c.args.sketch
    (c.push.ensures ∙ ap (λ (fs : List Frame). frame 0 1 (record { label = Now; sketch = c.args.sketch } ∷ []) ∷ fs) c.clear.ensures)
    (subst (λ (w : Walk). CanBegin w.setting.odds c.args.sketch) (sym c.self.view_is) c.requires)

pub returns-clause-walk : goal.returns-clause-walk
returns-clause-walk c = λ lines.
    subst (λ (w : Walk). Completes c.self.inside.setting c.push.new.self lines ↔ Proves w.setting c.args.sketch lines) c.self.view_is
    (subst (λ (fs : List Frame). Completes c.self.inside.setting fs lines ↔ Proves c.self.inside.setting c.args.sketch lines)
    (sym (c.push.ensures ∙ ap (λ (fs : List Frame). frame 0 1 (record { label = Now; sketch = c.args.sketch } ∷ []) ∷ fs) c.clear.ensures))
    (first-proves c.self.inside.setting c.args.sketch lines))
