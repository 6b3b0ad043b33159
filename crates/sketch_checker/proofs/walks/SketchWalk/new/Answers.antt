use Rattle.std.proofs.Common.{◌↔◌, [], ◌∷◌, List, ap, refl, ◌∙◌, sym, subst}
use Rattle.sketch_text.specs.declared.labels.Label.TheVariants.{Now}
use Rattle.sketch_proof.specs.Proofs.{Proves, Setting}
use Rattle.sketch_checker.specs.Beginning.{CanBegin}
use Rattle.sketch_checker.specs.Walks.{Completes, Frame}
use Rattle.sketch_checker.proofs.Completing.{frame}
use Rattle.sketch_checker.proofs.Steering.{first-proves, first-ready}
use Rattle.sketch_checker.proofs.walks.SketchWalk.new.Goals as goal

pub returns-clause-walk : goal.returns-clause-walk
returns-clause-walk c = λ lines.
    subst (λ (fs : List Frame). Completes c.args.setting fs lines ↔ Proves c.args.setting c.args.sketch lines)
    (sym (c.push.ensures ∙ ap (λ (fs : List Frame). frame 0 1 (record { label = Now; sketch = c.args.sketch } ∷ []) ∷ fs) c.new-frames.ensures))
    (first-proves c.args.setting c.args.sketch lines)

pub invariant_of-result : goal.invariant_of-result
invariant_of-result c =
    first-ready c.args.setting.odds c.push.new.self c.args.sketch
    (c.push.ensures ∙ ap (λ (fs : List Frame). frame 0 1 (record { label = Now; sketch = c.args.sketch } ∷ []) ∷ fs) c.new-frames.ensures)
    (subst (λ (g : Setting). CanBegin g.odds c.args.sketch) c.setting.view_is (c.can_begin.ensures.0 c.if-not-can_begin.false))

pub returns-clause-begun : goal.returns-clause-begun
returns-clause-begun c = (λ some. subst (λ (g : Setting). CanBegin g.odds c.args.sketch) c.setting.view_is (c.can_begin.ensures.0 c.if-not-can_begin.false), λ can. refl)
