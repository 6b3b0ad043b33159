-- Figures who aren't the array's men.
use Rattle.std.proofs.Common.{◌≡◌, ℕ, zero, suc, ◌<◌, ◌≤◌, ◌+◌, Bool, true, false, ◌&&◌, not, List, [], ◌∷◌, arith, below_more, get_or, length, refl, ap, sym, ◌∙◌, subst}
use Rattle.std.proofs.lemmas.Bool.{both_ways}
use Rattle.std.specs.Prelude.{Some}
use Rattle.board_base.specs.Board.{Places, array_of, at, is_in}
use Rattle.figures.proofs.Numbered.{at-some}
use Rattle.figures.specs.Figures.{Figure, Sketch, figure_at, is_fixed_on}
use Rattle.sketch_grounds.proofs.Freezing.{fixed-once}
use Rattle.sketch_grounds.specs.Begun.{begins_on}
use Rattle.sketch_grounds.specs.Frozen.{AreBegun, IsBegun}
use Rattle.sketch_grounds.specs.FrozenSets.{greatest_frozen}
use Rattle.sketch_proof.specs.Proofs.{Setting}
use Rattle.sketch_prose.specs.Fixed.{IsBegunOn, IsForeignOn}
use Rattle.sketch_prose.specs.Foreigners.{AreBegunBefore, IsForeignIn}
use Rattle.sketch_prose.specs.Sentences.{IsForeign}
use Rattle.sketch_grounds.proofs.Beginning.{begins-tells, begins-told}

-- ONE FIGURE

-- the square on which he is fixed tells of all
pub begun-on : (first : Places) (set : List Bool) (f : Figure) (s : ℕ) (there begins : Bool) → length f.squares ≡ 64 → is_fixed_on s f ≡ true → there ≡ is_in set s → begins ≡ begins_on (at first s) f → (there && not begins) ≡ false → IsBegunOn first set f
begun-on first set f s there begins size fixed is_there is_begun so t member on =
    let same : t ≡ s = fixed-once f t s size on fixed in
    let here : there ≡ true = is_there ∙ ap (is_in set) (sym same) ∙ member in
    ap (λ (u : ℕ). begins_on (at first u) f) same ∙ sym is_begun ∙ by_begins begins (ap (λ (b : Bool). b && not begins) (sym here) ∙ so)
  where
    by_begins : (b : Bool) → (true && not b) ≡ false → b ≡ true
    by_begins true e = refl
    by_begins false e = absurd (both_ways _ e refl)

-- ALL

pub at-number : (S items : Sketch) (i : ℕ) (f : Figure) → items ≡ S → i < length items → f ≡ get_or items i f → figure_at S i ≡ Some f
at-number S items i f same low is = ap (λ (l : Sketch). figure_at l i) (sym same) ∙ sym (at-some items i f low (sym is))

pub begun-more : (o : List Bool) (S : Sketch) (set : List Bool) (i : ℕ) (f : Figure) (first : Places) → first ≡ array_of o → figure_at S i ≡ Some f → AreBegunBefore o S set i → IsBegunOn first set f → AreBegunBefore o S set (i + 1)
begun-more o S set i f first same found before on =
    below_more (λ j. (g : Figure) → figure_at S j ≡ Some g → (s : ℕ) → is_in set s ≡ true → is_fixed_on s g ≡ true → IsBegun o s g) i before
    (λ g at_it s member fixed.
    let figure : f ≡ g = cc in
    subst (λ (x : Figure). IsBegun o s x) figure (begins-told o s f (at (array_of o) s) refl (ap (λ (b : Places). begins_on (at b s) f) (sym same) ∙ on s member (ap (is_fixed_on s) figure ∙ fixed))))

number-low : (S : Sketch) (i : ℕ) (f : Figure) → figure_at S i ≡ Some f → i < length S
number-low [] i f e = cc
number-low (g ∷ S) zero f e = omega arith
number-low (g ∷ S) (suc i) f e = let low : i < length S = number-low S i f e in omega (arith, low)

pub all-begun : (o : List Bool) (S items : Sketch) (set : List Bool) (n : ℕ) → items ≡ S → length items ≤ n → AreBegunBefore o S set n → AreBegun o S set
all-begun o S items set n same past before s i f member there fixed =
    let low : i < length S = number-low S i f there in
    let size : length items ≡ length S = ap (λ (l : Sketch). length l) same in
    before i (omega (arith, low, size, past)) f there s member fixed

pub foreign-in : (o : List Bool) (S : Sketch) (set : List Bool) (i : ℕ) (f : Figure) (s : ℕ) (first : Places) → first ≡ array_of o → figure_at S i ≡ Some f → AreBegunBefore o S set i → IsForeignOn first set f s → IsForeignIn o S set s
foreign-in o S set i f s first same found before on = record {
  there = on.0;
  number = i;
  figure = f;
  found = found;
  fixed = on.1;
  other = λ begun. both_ways _ (ap (λ (b : Places). begins_on (at b s) f) (sym same) ∙ on.2) (begins-tells o s f begun);
  first = before;
}

-- such a square of the greatest frozen set
pub foreign-there : (g : Setting) (S : Sketch) (set : List Bool) (s : ℕ) → set ≡ greatest_frozen g.held S → IsForeignIn g.odds S set s → IsForeign g S s
foreign-there g S set s same it = subst (λ (l : List Bool). IsForeignIn g.odds S l s) same it
