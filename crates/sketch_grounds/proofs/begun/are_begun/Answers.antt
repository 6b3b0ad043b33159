use Rattle.std.proofs.Common.{◌≡◌, ◌<◌, ◌+◌, ◌∙◌, ◌++◌, ◌∷◌, [], ℕ, inl, inr, false, true, get_or, length, take, ap, sym, subst, refl, arith}
use Rattle.std.proofs.lemmas.Bool.{both_ways}
use Rattle.std.proofs.lemmas.List.{take_all, take_more}
use Rattle.std.proofs.lemmas.List.Elements.{Contains-append_cases}
use Rattle.std.specs.List.{Contains}
use Rattle.board_base.specs.Board.{Places, array_of}
use Rattle.figures.specs.Figures.{Figure, Sketch}
use Rattle.sketch_grounds.specs.Begun.{is_begun}
use Rattle.sketch_grounds.proofs.Beginning.{begun-tells, begun-told}
use Rattle.sketch_grounds.proofs.Freezing.{figure-in, last-is, number-of}
use Rattle.sketch_grounds.proofs.begun.are_begun.Goals as goal

pub returns-then-not-is_begun : goal.returns-then-not-is_begun
returns-then-not-is_begun c =
    let S : Sketch = c.args.sketch.now in
    let f : Figure = c.figure-item.result in
    let i : ℕ = c.loop-figure.figure-index in
    let value : c.figures-figure-items.result.now ≡ S = c.figures-figure-items.ensures.value in
    let low : i < length S = omega (arith, c.loop-figure-test.true, ap (λ (l : Sketch). length l) value) in
    let member : Contains S f = (i, low, ap (λ (l : Sketch). get_or l i f) (sym value) ∙ sym c.figure-item.is) in
    let number = number-of S f member in
    let answer : c.is_begun.result ≡ false = cc in (
      λ h. absurd (both_ways false refl h),
      λ begun. absurd (both_ways c.is_begun.result answer (c.is_begun.ensures.begun ∙ ap (λ (first : Places). is_begun first c.args.set f) c.array_of-first.ensures ∙ begun-tells c.args.odds c.args.set f (λ s there fixed. begun s number.0 f there number.1 fixed))),
    )

pub loop-figure-preserved : goal.loop-figure-preserved
loop-figure-preserved c =
    let S : Sketch = c.args.sketch.now in
    let f : Figure = c.figure-item.result in
    let i : ℕ = c.loop-figure.figure-index in
    let value : c.figures-figure-items.result.now ≡ S = c.figures-figure-items.ensures.value in
    let low : i < length S = omega (arith, c.loop-figure-test.true, ap (λ (l : Sketch). length l) value) in
    let more : take (i + 1) S ≡ take i S ++ f ∷ [] = take_more S i f low ∙ ap (λ (x : Figure). take i S ++ x ∷ []) (ap (λ (l : Sketch). get_or l i f) (sym value) ∙ sym c.figure-item.is) in
    let answer : c.is_begun.result ≡ true = cc in
    let here : is_begun (array_of c.args.odds) c.args.set f ≡ true = sym (c.is_begun.ensures.begun ∙ ap (λ (first : Places). is_begun first c.args.set f) c.array_of-first.ensures) ∙ answer in
    record {
      whole = λ g h. elim (Contains-append_cases (take i S) (f ∷ []) g (subst (λ (l : Sketch). Contains l g) more h)) [
        | inl before ↦ c.loop-figure.invariant.whole g before
        | inr last ↦ let same : f ≡ g = last-is f g last in ap (λ (x : Figure). length x.squares) (sym same) ∙ c.is_begun.ensures.size
      ];
      begun = λ g h. elim (Contains-append_cases (take i S) (f ∷ []) g (subst (λ (l : Sketch). Contains l g) more h)) [
        | inl before ↦ c.loop-figure.invariant.begun g before
        | inr last ↦ let same : f ≡ g = last-is f g last in ap (is_begun (array_of c.args.odds) c.args.set) (sym same) ∙ here
      ];
    }

pub returns : goal.returns
returns c =
    let S : Sketch = c.args.sketch.now in
    let value : c.figures-figure-items.result.now ≡ S = c.figures-figure-items.ensures.value in
    let all : take c.loop-figure.figure-index S ≡ S = take_all c.loop-figure.figure-index S (omega (arith, c.loop-figure-test.false, ap (λ (l : Sketch). length l) value)) in (
      λ h s i f member there fixed.
          let at_it : Contains (take c.loop-figure.figure-index S) f = subst (λ (l : Sketch). Contains l f) (sym all) (figure-in S i f there) in
          begun-told c.args.odds c.args.set f s (c.loop-figure.invariant.whole f at_it) (c.loop-figure.invariant.begun f at_it) member fixed,
      λ begun. refl,
    )
