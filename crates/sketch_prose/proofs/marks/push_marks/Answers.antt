use Rattle.std.proofs.Common.{◌≡◌, ◌∷◌, [], Bool, List, subst}
use Rattle.std.specs.Prelude.{None, Some}
use Rattle.figures.specs.Figures.{Sketch}
use Rattle.sketch_grounds.specs.FrozenSets.{greatest_frozen}
use Rattle.sketch_proof.specs.Nodes.{marked_with}
use Rattle.sketch_proof.specs.Proofs.{Setting}
use Rattle.sketch_prose.proofs.Adding.{adds-append, adds-one}
use Rattle.sketch_prose.proofs.marks.push_marks.Goals as goal
use Rattle.sketch_prose.specs.Bases.{setting_with}
use Rattle.sketch_prose.specs.Sentences.{marked, unmoved}
use Rattle.sketch_prose.specs.Telling.{Adds}

same-some : (S T : Sketch) → Some S ≡ Some T → S ≡ T
same-some S T e = cc

no-some : (T : Sketch) → None ≡ Some T → ⊥
no-some T e = cc

pub returns-in-Some : goal.returns-in-Some
returns-in-Some c = λ forced.
    let g : Setting = setting_with c.args.base.now c.args.prices.now in
    let D : Sketch = c.args.base.now.diagram in
    let S : Sketch = c.args.sketch in
    let more : c.in-Some.more ≡ marked_with c.args.marks.now.figures S = same-some _ _ (c.in-Some.ensures forced) in
    let known : c.greatest_frozen-known.result ≡ greatest_frozen g.held S = c.greatest_frozen-known.ensures.value in
    let text = rw (c.as_slice.ensures.value, c.as_slice-2.ensures.value, c.in_ok-officers.ensures, c.in_ok-pawns.ensures, c.figures.ensures.value, c.figures-2.ensures.value) at c.in_ok-push_marked.ensures in
    let later = subst (λ (T : Sketch). Adds g D (unmoved c.greatest_frozen-known.result T ∷ []) c.push_marked.new.out.items c.push_unmoved.new.out.items) more (c.in_ok-push_unmoved-in-Some.ensures.told c.args.prices.now) in (
      more,
      adds-append g D (marked c.args.marks.now S ∷ []) (unmoved (greatest_frozen g.held S) (marked_with c.args.marks.now.figures S) ∷ []) c.args.out.now.items c.push_marked.new.out.items c.push_unmoved.new.out.items
          (adds-one g D (marked c.args.marks.now S) c.args.out.now.items c.push_marked.new.out.items forced text)
          (subst (λ (l : List Bool). Adds g D (unmoved l (marked_with c.args.marks.now.figures S) ∷ []) c.push_marked.new.out.items c.push_unmoved.new.out.items) known later),
    )

pub returns : goal.returns
returns c = λ forced. absurd (no-some _ (c.in-None.ensures forced))
