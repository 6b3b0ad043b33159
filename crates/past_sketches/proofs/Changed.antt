-- Sketches whose figures are changed by their numbers, or that have one more figure in front.
use Rattle.std.proofs.Common.{◌≡◌, ◌≢◌, ℕ, zero, suc, ◌+◌, ◌<◌, ◌≤◌, ◌==◌, max, inl, inr, Bool, true, false, List, [], ◌∷◌, refl, ap, sym, ◌∙◌, subst, arith}
use Rattle.std.specs.List.{list_any}
use Rattle.men_account.proofs.Labelled.{labels-apart}
use Rattle.board_base.specs.Game.{IsGame}
use Rattle.board_base.specs.Board.{file, rank}
use Rattle.std.proofs.lemmas.Bool.{both_ways, cases_Bool, cases_lt, eq-eqb, or_cases, or_left, or_right}
use Rattle.std.proofs.lemmas.Option.{same_Some}
use Rattle.std.specs.Prelude.{Some}
use Rattle.board_base.specs.declared.moves.Move.{Move}
use Rattle.past_sketches.specs.Figures.{Figure, Sketch, each_changed, figure_at}
use Rattle.past_sketches.specs.Steps.{is_next_place}
use Rattle.past_sketches.specs.Fits.{Fits, IsPawnOn, Stands}

pub changed-at : (h : ℕ → Figure → Figure) (k : ℕ) (T : Sketch) (i : ℕ) (g : Figure) → figure_at (each_changed h k T) i ≡ Some g → (f : Figure) × (figure_at T i ≡ Some f) × (h (k + i) f ≡ g)
changed-at h k [] i g e = cc
changed-at h k (f ∷ T) zero g e = let z : k + zero ≡ k = omega arith in (f, refl, ap (λ (n : ℕ). h n f) z ∙ same_Some _ _ e)
changed-at h k (f ∷ T) (suc i) g e =
    let more = changed-at h (suc k) T i g e in
    let z : k + suc i ≡ suc k + i = omega arith in
    (more.0, more.1, ap (λ (n : ℕ). h n more.0) z ∙ more.2)

at-changed : (h : ℕ → Figure → Figure) (k : ℕ) (T : Sketch) (i : ℕ) (f : Figure) → figure_at T i ≡ Some f → (g : Figure) × (figure_at (each_changed h k T) i ≡ Some g)
at-changed h k [] i f e = cc
at-changed h k (g ∷ T) zero f e = (h k g, refl)
at-changed h k (g ∷ T) (suc i) f e = at-changed h (suc k) T i f e

-- the labels of figures, with one more in front
label_more : ℕ → (ℕ → ℕ) → ℕ → ℕ
label_more l label zero = l
label_more l label (suc i) = label i

-- of two pawns on one file the changed figure of the one on the lower rank has the lower place
abbrev pub InOrder : List Bool → List Move → Sketch → (ℕ → ℕ) → (ℕ → Figure → Figure) → Type 0
InOrder o p T label h = (i j : ℕ) (f g : Figure) (s t : ℕ) → figure_at T i ≡ Some f → figure_at T j ≡ Some g → IsPawnOn o p (label i) s → IsPawnOn o p (label j) t → file s ≡ file t → rank s < rank t → (h i f).place < (h j g).place

changed-order : (o : List Bool) (p : List Move) (T : Sketch) (label : ℕ → ℕ) (h : ℕ → Figure → Figure) → InOrder o p T label h → (i j : ℕ) (f g : Figure) (s t : ℕ) → figure_at (each_changed h 0 T) i ≡ Some f → figure_at (each_changed h 0 T) j ≡ Some g → IsPawnOn o p (label i) s → IsPawnOn o p (label j) t → file s ≡ file t → rank s < rank t → f.place < g.place
changed-order o p T label h order i j f g s t e1 e2 a b level lower =
    let c = changed-at h 0 T i f e1 in
    let d = changed-at h 0 T j g e2 in
    let zi : i ≡ 0 + i = omega arith in
    let zj : j ≡ 0 + j = omega arith in
    subst (λ (x : Figure). x.place < g.place) (ap (λ (n : ℕ). h n c.0) zi ∙ c.2) (subst (λ (y : Figure). (h i c.0).place < y.place) (ap (λ (n : ℕ). h n d.0) zj ∙ d.2) (order i j c.0 d.0 s t c.1 d.1 a b level lower))

pub fits-changed : (o : List Bool) (q p : List Move) (T : Sketch) (h : ℕ → Figure → Figure) (fits : Fits o q T) → ((i : ℕ) (f : Figure) → figure_at T i ≡ Some f → Stands o p (h i f) (fits.label i)) → InOrder o p T fits.label h → Fits o p (each_changed h 0 T)
fits-changed o q p T h fits stands order = record {
  label = fits.label;
  stand = λ i g e.
      let was = changed-at h 0 T i g e in
      let z : i ≡ 0 + i = omega arith in
      subst (λ (x : Figure). Stands o p x (fits.label i)) (ap (λ (n : ℕ). h n was.0) z ∙ was.2) (stands i was.0 was.1);
  apart = λ i j f g e1 e2 same. let a = changed-at h 0 T i f e1 in let b = changed-at h 0 T j g e2 in fits.apart i j a.0 b.0 a.1 b.1 same;
  kings = λ l king. let k = fits.kings l king in let g = at-changed h 0 T k.0 k.1 k.2 in (k.0, g.0, g.1, k.3);
  order = changed-order o p T fits.label h order;
}

stand-more : (o : List Bool) (p : List Move) (v : Figure) (l : ℕ) (S : Sketch) (fits : Fits o p S) → Stands o p v l → (i : ℕ) (f : Figure) → figure_at (v ∷ S) i ≡ Some f → Stands o p f (label_more l fits.label i)
unfolding label_more
stand-more o p v l S fits here zero f e = subst (λ (x : Figure). Stands o p x l) (same_Some _ _ e) here
stand-more o p v l S fits here (suc i) f e = fits.stand i f e

apart-more : (o : List Bool) (p : List Move) (v : Figure) (l : ℕ) (S : Sketch) (fits : Fits o p S) → ((i : ℕ) (f : Figure) → figure_at S i ≡ Some f → fits.label i ≢ l) → (i j : ℕ) (f g : Figure) → figure_at (v ∷ S) i ≡ Some f → figure_at (v ∷ S) j ≡ Some g → label_more l fits.label i ≡ label_more l fits.label j → i ≡ j
unfolding label_more
apart-more o p v l S fits new zero zero f g e1 e2 same = refl
apart-more o p v l S fits new zero (suc j) f g e1 e2 same = absurd (new j g e2 (sym same))
apart-more o p v l S fits new (suc i) zero f g e1 e2 same = absurd (new i f e1 same)
apart-more o p v l S fits new (suc i) (suc j) f g e1 e2 same = ap suc (fits.apart i j f g e1 e2 same)

-- the place of one figure more
pub record Between (o : List Bool) (p : List Move) (S : Sketch) (label : ℕ → ℕ) (h : ℕ → Figure → Figure) (v : Figure) (l : ℕ) : Type 0 where
  pub below : (i : ℕ) (f : Figure) (s t : ℕ) → figure_at S i ≡ Some f → IsPawnOn o p (label i) s → IsPawnOn o p l t → file s ≡ file t → rank s < rank t → (h i f).place < v.place
  pub above : (i : ℕ) (f : Figure) (s t : ℕ) → figure_at S i ≡ Some f → IsPawnOn o p (label i) s → IsPawnOn o p l t → file s ≡ file t → rank t < rank s → v.place < (h i f).place

order-more : (o : List Bool) (p : List Move) (v : Figure) (l : ℕ) (S : Sketch) (fits : Fits o p S) → IsGame o p → Between o p S fits.label (λ i f. f) v l → (i j : ℕ) (f g : Figure) (s t : ℕ) → figure_at (v ∷ S) i ≡ Some f → figure_at (v ∷ S) j ≡ Some g → IsPawnOn o p (label_more l fits.label i) s → IsPawnOn o p (label_more l fits.label j) t → file s ≡ file t → rank s < rank t → f.place < g.place
unfolding label_more
order-more o p v l S fits game between zero zero f g s t e1 e2 a b level lower =
    let same : s ≡ t = labels-apart o p game s t l a.label b.label in
    let ranks : rank s ≡ rank t = ap rank same in
    absurd (omega (arith, ranks, lower))
order-more o p v l S fits game between zero (suc j) f g s t e1 e2 a b level lower = subst (λ (x : Figure). x.place < g.place) (same_Some _ _ e1) (between.above j g t s e2 b a (sym level) lower)
order-more o p v l S fits game between (suc i) zero f g s t e1 e2 a b level lower = subst (λ (x : Figure). f.place < x.place) (same_Some _ _ e2) (between.below i f s t e1 a b level lower)
order-more o p v l S fits game between (suc i) (suc j) f g s t e1 e2 a b level lower = fits.order i j f g s t e1 e2 a b level lower

-- one figure more, whose man is none of the others'
fits-more : (o : List Bool) (p : List Move) (v : Figure) (l : ℕ) (S : Sketch) (fits : Fits o p S) → IsGame o p → Stands o p v l → ((i : ℕ) (f : Figure) → figure_at S i ≡ Some f → fits.label i ≢ l) → Between o p S fits.label (λ i f. f) v l → Fits o p (v ∷ S)
unfolding label_more
fits-more o p v l S fits game here new between = record {
  label = label_more l fits.label;
  stand = stand-more o p v l S fits here;
  apart = apart-more o p v l S fits new;
  kings = λ h king. let k = fits.kings h king in (suc k.0, k.1, k.2, k.3);
  order = order-more o p v l S fits game between;
}

changed-between : (o : List Bool) (p : List Move) (T : Sketch) (label : ℕ → ℕ) (h : ℕ → Figure → Figure) (v : Figure) (l : ℕ) → Between o p T label h v l → Between o p (each_changed h 0 T) label (λ i f. f) v l
changed-between o p T label h v l between = record {
  below = λ i f s t e a b level lower. subst (λ (x : Figure). x.place < v.place) (was i f e).2 (between.below i (was i f e).0 s t (was i f e).1 a b level lower);
  above = λ i f s t e a b level lower. subst (λ (x : Figure). v.place < x.place) (was i f e).2 (between.above i (was i f e).0 s t (was i f e).1 a b level lower);
}
  where
    was : (i : ℕ) (g : Figure) → figure_at (each_changed h 0 T) i ≡ Some g → (f : Figure) × (figure_at T i ≡ Some f) × (h i f ≡ g)
    was i g e = let c = changed-at h 0 T i g e in let z : i ≡ 0 + i = omega arith in (c.0, c.1, ap (λ (n : ℕ). h n c.0) z ∙ c.2)

-- both at once
pub fits-with : (o : List Bool) (q p : List Move) (T : Sketch) (h : ℕ → Figure → Figure) (fits : Fits o q T) → ((i : ℕ) (f : Figure) → figure_at T i ≡ Some f → Stands o p (h i f) (fits.label i)) → InOrder o p T fits.label h → IsGame o p → (v : Figure) (l : ℕ) → Stands o p v l → ((i : ℕ) (f : Figure) → figure_at T i ≡ Some f → fits.label i ≢ l) → Between o p T fits.label h v l → Fits o p (v ∷ each_changed h 0 T)
unfolding fits-changed
fits-with o q p T h fits stands order game v l here new between =
    fits-more o p v l (each_changed h 0 T) (fits-changed o q p T h fits stands order) game here (λ i g e. let was = changed-at h 0 T i g e in new i was.0 was.1) (changed-between o p T fits.label h v l between)

-- a number above the places of the figures that pass a test, and no higher than any such number
pub record LeastAbove (T : Sketch) (passes : ℕ → Bool) : Type 0 where
  pub number : ℕ
  pub above : (i : ℕ) (f : Figure) → figure_at T i ≡ Some f → passes i ≡ true → f.place < number
  pub next : is_next_place T number ≡ true
  pub least : (b : ℕ) → ((i : ℕ) (f : Figure) → figure_at T i ≡ Some f → passes i ≡ true → f.place < b) → number ≤ b

pub next-rest : (f : Figure) (T : Sketch) (n : ℕ) → is_next_place T n ≡ true → is_next_place (f ∷ T) n ≡ true
next-rest f T n h = elim (or_cases (n == 0) (list_any (λ g. n == g.place + 1) T) h) [
  | inl none ↦ or_left _ _ none
  | inr some ↦ or_right (n == 0) _ (or_right (n == f.place + 1) _ some)
]

next-max : (f : Figure) (T : Sketch) (n : ℕ) → is_next_place T n ≡ true → is_next_place (f ∷ T) (max n (f.place + 1)) ≡ true
next-max f T n h = elim (cases_lt n (f.place + 1)) [
  | inl low ↦ let e : max n (f.place + 1) ≡ f.place + 1 = omega arith in subst (λ (k : ℕ). is_next_place (f ∷ T) k ≡ true) (sym e) (or_right (f.place + 1 == 0) _ (or_left _ _ (eq-eqb (f.place + 1) (f.place + 1) refl)))
  | inr high ↦ let e : max n (f.place + 1) ≡ n = omega arith in subst (λ (k : ℕ). is_next_place (f ∷ T) k ≡ true) (sym e) (next-rest f T n h)
]

pub least-above : (T : Sketch) (passes : ℕ → Bool) → LeastAbove T passes
least-above [] passes = record { number = 0; above = λ i f e h. cc; next = refl; least = λ b all. omega arith }
least-above (f ∷ T) passes =
    let rest = least-above T (λ i. passes (suc i)) in
    elim (cases_Bool (passes 0)) [
      | inl first ↦ record {
        number = max rest.number (f.place + 1);
        above = above-max f T passes rest;
        next = next-max f T rest.number rest.next;
        least = λ b all. let one = all 0 f refl first in let more = rest.least b (λ i g e h. all (suc i) g e h) in omega (arith, one, more);
      }
      | inr none ↦ record {
        number = rest.number;
        above = above-rest f T passes rest none;
        next = next-rest f T rest.number rest.next;
        least = λ b all. rest.least b (λ i g e h. all (suc i) g e h);
      }
    ]
  where
    above-max : (f : Figure) (T : Sketch) (passes : ℕ → Bool) (rest : LeastAbove T (λ i. passes (suc i))) (i : ℕ) (g : Figure) → figure_at (f ∷ T) i ≡ Some g → passes i ≡ true → g.place < max rest.number (f.place + 1)
    above-max f T passes rest zero g e h = let same = ap (λ (x : Figure). x.place) (same_Some _ _ e) in omega (arith, same)
    above-max f T passes rest (suc i) g e h = let low = rest.above i g e h in omega (arith, low)

    above-rest : (f : Figure) (T : Sketch) (passes : ℕ → Bool) (rest : LeastAbove T (λ i. passes (suc i))) → passes 0 ≡ false → (i : ℕ) (g : Figure) → figure_at (f ∷ T) i ≡ Some g → passes i ≡ true → g.place < rest.number
    above-rest f T passes rest none zero g e h = absurd (both_ways _ none h)
    above-rest f T passes rest none (suc i) g e h = rest.above i g e h
