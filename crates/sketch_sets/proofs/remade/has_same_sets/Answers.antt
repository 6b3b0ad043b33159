use Rattle.std.proofs.Common.{◌≡◌, List, Bool, [], length, get_or, refl, ap, sym, ◌∙◌, arith, map}
use Rattle.std.proofs.lemmas.Bool.{both_ways}
use Rattle.figures.specs.Figures.{Sketch}
use Rattle.sketch_sets.specs.Remade.{set_of}
use Rattle.sketch_sets.proofs.Made.{map-at}
use Rattle.sketch_sets.proofs.remade.has_same_sets.Goals as goal

pub returns-then-not-is_same : goal.returns-then-not-is_same
returns-then-not-is_same c = (
  λ h. absurd (both_ways _ refl h),
  λ e.
      let la : length c.figures-figure-items.result.now ≡ length c.figures-others.result.now = ap length c.figures-figure-items.ensures.value ∙ c.requires ∙ sym (ap length c.figures-others.ensures.value) in
      let ea : set_of c.figure-item.result ≡ get_or (map set_of c.args.a.now) c.loop-i.i [] = sym (map-at set_of c.figures-figure-items.result.now c.loop-i.i c.figure-item.result [] c.loop-i-test.true c.figure-item.is) ∙ ap (λ (T : Sketch). get_or (map set_of T) c.loop-i.i []) c.figures-figure-items.ensures.value in
      let eb : get_or (map set_of c.args.b.now) c.loop-i.i [] ≡ set_of c.index-others-i.result = ap (λ (T : Sketch). get_or (map set_of T) c.loop-i.i []) (sym c.figures-others.ensures.value) ∙ map-at set_of c.figures-others.result.now c.loop-i.i c.index-others-i.result [] (omega arith) c.index-others-i.is in
      let same : c.figure.inside.squares ≡ c.other.inside.squares = ap set_of c.figure.view_is ∙ ea ∙ ap (λ (l : List (List Bool)). get_or l c.loop-i.i []) e ∙ eb ∙ sym (ap set_of c.other.view_is) in
      absurd (both_ways _ c.if-not-is_same.true (c.is_same.ensures.1 same)),
)
