use Rattle.std.proofs.Common.{◌≡◌, ◌∙◌, ℕ, List, ap, map, subst, sym}
use Rattle.std.specs.Prelude.{Some}
use Rattle.figures.specs.Figures.{Sketch}
use Rattle.sketch_checker.proofs.Below.{steps-can}
use Rattle.sketch_checker.specs.DueNodes.{Due, due_of}
use Rattle.sketch_checker.specs.Walks.{AreDue}
use Rattle.sketch_list.specs.Listed.{Earlier, earlier}
use Rattle.sketch_proof.proofs.Least.{least-one}
use Rattle.sketch_proof.specs.Proofs.{Setting}
use Rattle.sketch_prose.proofs.Ending.{one-array, steps-text}
use Rattle.sketch_prose.proofs.ends.push_steps.Goals as goal
use Rattle.sketch_prose.specs.Bases.{setting_with}
use Rattle.sketch_prose.specs.Children.{AreChildren}
use Rattle.sketch_prose.specs.Ending.{level_of}

pub returns-in_default : goal.returns-in_default
returns-in_default c = λ prices T ns rest least no_array fit many lines due.
    absurd (one-array c.args.base.now.odds c.args.base.now.held c.args.base.now.exact c.args.sketch.now T c.in_default.ensures.0 fit least no_array c.in_default.ensures.1 c.in_default.ensures.2)

pub returns-in_default-new : goal.returns-in_default-new
returns-in_default-new c = λ prices T ns rest least no_array fit many lines due.
    absurd (c.in_default-new.ensures (steps-can (setting_with c.args.base.now prices) c.args.sketch.now c.in-Some.wide fit.able c.in-Some.ensures.0))

pub returns-in_default-new-2 : goal.returns-in_default-new-2
returns-in_default-new-2 c = λ prices T ns rest least no_array fit many lines due.
    absurd (c.in_default-new-2.ensures (steps-can (setting_with c.args.base.now prices) c.args.sketch.now c.in-Some.wide fit.able c.in-Some.ensures.0))

pub returns : goal.returns
returns c = λ prices T ns rest least no_array fit many lines due.
    let g : Setting = setting_with c.args.base.now prices in
    let listed : List Earlier → List Due = λ es. map due_of es in
    let wide : Sketch = c.in-Some.wide in
    let same : wide ≡ T = least-one g.held g.exact c.args.sketch.now wide T fit.able.somewhere c.in-Some.ensures.0 least in
    let there : AreDue ns g (listed (earlier g.odds g.exact wide)) = subst (λ (U : Sketch). AreDue ns g (listed (earlier g.odds g.exact U))) (sym same) due in
    let denied = c.in_ok-push_denied_of.ensures prices ns rest many lines (subst (λ (es : List Earlier). AreDue ns g (listed es)) (sym c.in-Some-new-2.ensures.1) there) in
    record {
      wide = wide;
      children = denied.0;
      least = c.in-Some.ensures.0;
      no_array = c.in-Some.ensures.1;
      level = ap (λ (es : List Earlier). Some (level_of c.args.spot c.args.count (listed es))) c.in-Some-new.ensures.1 ∙ ap (λ (n : ℕ). Some (level_of c.args.spot n (listed (earlier g.odds g.exact wide)))) (sym many);
      are = subst (λ (es : List Earlier). AreChildren ns g (listed es) denied.0) c.in-Some-new-2.ensures.1 denied.1;
      text = steps-text g c.args.base.now.diagram c.args.spot c.args.sketch.now wide c.args.count denied.0 ns many c.args.out.now.items _ _ (rw c.is_top.ensures at c.in_ok-push_before.ensures) denied.2;
    }
