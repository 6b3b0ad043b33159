-- The lowest place above some figures, figure by figure.
use Rattle.std.proofs.Common.{◌≡◌, ℕ, ◌+◌, ◌<◌, ◌≤◌, max, Bool, true, false, cond, [], ◌∷◌, length, get_or, drop, refl, ap, sym, ◌∙◌, arith}
use Rattle.std.proofs.lemmas.List.{drop_more}
use Rattle.figures.specs.Figures.{Figure, Sketch}
use Rattle.sketch_list.specs.Listed.{next_above}
use Rattle.sketch_sets.proofs.Clashing.{drop-all}

next-cons : (p : Figure → Bool) (f : Figure) (T : Sketch) → next_above p (f ∷ T) ≡ max (cond (p f) (f.place + 1) 0) (next_above p T)
unfolding next_above
next-cons p f T = refl

next-none : (p : Figure → Bool) → next_above p [] ≡ 0
unfolding next_above
next-none p = refl

pub raised-start : (p : Figure → Bool) (T : Sketch) → max 0 (next_above p (drop 0 T)) ≡ next_above p T
raised-start p T = omega arith

pub raised-more : (p : Figure → Bool) (T : Sketch) (i : ℕ) (f : Figure) (place more : ℕ) (under : Bool) → i < length T → f ≡ get_or T i f → under ≡ p f → more ≡ max place (cond under (f.place + 1) 0) → max place (next_above p (drop i T)) ≡ next_above p T → max more (next_above p (drop (i + 1) T)) ≡ next_above p T
raised-more p T i f place more under low there pass made before =
    let first : drop i T ≡ f ∷ drop (i + 1) T = drop_more T i f low ∙ ap (λ (x : Figure). x ∷ drop (i + 1) T) (sym there) in
    let here : next_above p (drop i T) ≡ max (cond (p f) (f.place + 1) 0) (next_above p (drop (i + 1) T)) = ap (next_above p) first ∙ next-cons p f (drop (i + 1) T) in
    let told : more ≡ max place (cond (p f) (f.place + 1) 0) = made ∙ ap (λ (b : Bool). max place (cond b (f.place + 1) 0)) pass in
    omega (arith, here, told, before)

pub raised-end : (p : Figure → Bool) (T : Sketch) (i place : ℕ) → length T ≤ i → max place (next_above p (drop i T)) ≡ next_above p T → place ≡ next_above p T
raised-end p T i place past before =
    let none : next_above p (drop i T) ≡ 0 = ap (next_above p) (drop-all T i past) ∙ next-none p in
    omega (arith, none, before)

pub raised-low : (place n : ℕ) (under : Bool) → place < 128 → n < 127 → max place (cond under (n + 1) 0) < 128
raised-low place n under low small = elim under as (λ b. max place (cond b (n + 1) 0) < 128) [ true ↦ omega arith | false ↦ omega arith ]
