-- Lists made item by item from the numbers of a range that pass a test, and arrays that are filled to their end.
use Rattle.std.proofs.Common.{◌≡◌, ℕ, suc, ◌+◌, ◌-◌, ◌<◌, ◌≤◌, Bool, true, false, cond, List, [], ◌∷◌, ◌++◌, length, map, take, drop, sym, ap, ◌∙◌, arith, length-append}
use Rattle.std.specs.Prelude.{replicate}
use Rattle.std.specs.List.{filter, range_with_len}
use Rattle.std.proofs.lemmas.List.{append_assoc, append-nil, length-map, length-take-le, take-append-drop}

-- the items of the numbers from i to below n that pass the test
unfoldable pub items_from : {A : Type 0} → (ℕ → Bool) → (ℕ → A) → ℕ → ℕ → List A
items_from p f n i = map f (filter p (range_with_len i (n - i)))

next : {A : Type 0} (p : ℕ → Bool) (f : ℕ → A) (n i : ℕ) (b : Bool) → i < n → p i ≡ b
    → items_from p f n i ≡ map f (cond b (i ∷ filter p (range_with_len (i + 1) (n - (i + 1)))) (filter p (range_with_len (i + 1) (n - (i + 1)))))
unfolding items_from
next {A} p f n i b lt is =
    let e : n - i ≡ suc (n - (i + 1)) = omega arith in
    let rest : List ℕ = filter p (range_with_len (i + 1) (n - (i + 1))) in
    ap (λ (m : ℕ). map f (filter p (range_with_len i m))) e
    ∙ ap (λ (b : Bool). map f (cond b (i ∷ rest) rest)) is

pub items_from-takes : {A : Type 0} (p : ℕ → Bool) (f : ℕ → A) (n i : ℕ) → i < n → p i ≡ true → items_from p f n i ≡ f i ∷ items_from p f n (i + 1)
unfolding items_from
items_from-takes p f n i lt is = next p f n i true lt is

pub items_from-skips : {A : Type 0} (p : ℕ → Bool) (f : ℕ → A) (n i : ℕ) → i < n → p i ≡ false → items_from p f n i ≡ items_from p f n (i + 1)
unfolding items_from
items_from-skips p f n i lt is = next p f n i false lt is

pub items_from-end : {A : Type 0} (p : ℕ → Bool) (f : ℕ → A) (n i : ℕ) → n ≤ i → items_from p f n i ≡ []
unfolding items_from
items_from-end p f n i past =
    let e : n - i ≡ 0 = omega arith in
    ap (λ (m : ℕ). map f (filter p (range_with_len i m))) e

-- the items that were made, for which there was room, and those still to make
pub record AreMade {A : Type 0} (p : ℕ → Bool) (f : ℕ → A) (n room i : ℕ) (made : List A) : Type 0 where
  pub size : length made ≤ room
  pub whole : made ++ items_from p f n i ≡ map f (filter p (range_with_len 0 n))

pub AreMade-none : {A : Type 0} (p : ℕ → Bool) (f : ℕ → A) (n room : ℕ) (made : List A) → made ≡ [] → AreMade p f n room 0 made
unfolding items_from
AreMade-none {A} p f n room made e =
    let whole : n - 0 ≡ n = omega arith in
    record {
      size = omega (arith, ap (λ (l : List A). length l) e);
      whole = ap (λ (l : List A). l ++ map f (filter p (range_with_len 0 (n - 0)))) e ∙ ap (λ (m : ℕ). map f (filter p (range_with_len 0 m))) whole;
    }

pub AreMade-takes : {A : Type 0} (p : ℕ → Bool) (f : ℕ → A) (n room i : ℕ) (made new : List A) → AreMade p f n room i made → i < n → p i ≡ true → length made < room
    → new ≡ made ++ f i ∷ [] → AreMade p f n room (i + 1) new
AreMade-takes {A} p f n room i made new h lt is fits e = record {
  size = omega (arith, ap (λ (l : List A). length l) e, length-append made (f i ∷ []));
  whole = ap (λ (l : List A). l ++ items_from p f n (i + 1)) e ∙ append_assoc made (f i ∷ []) (items_from p f n (i + 1))
      ∙ ap (λ (l : List A). made ++ l) (sym (items_from-takes p f n i lt is)) ∙ h.whole;
}

pub AreMade-skips : {A : Type 0} (p : ℕ → Bool) (f : ℕ → A) (n room i : ℕ) (made new : List A) → AreMade p f n room i made → i < n → p i ≡ false → new ≡ made → AreMade p f n room (i + 1) new
AreMade-skips {A} p f n room i made new h lt is e = record {
  size = omega (arith, ap (λ (l : List A). length l) e, h.size);
  whole = ap (λ (l : List A). l ++ items_from p f n (i + 1)) e ∙ ap (λ (l : List A). made ++ l) (sym (items_from-skips p f n i lt is)) ∙ h.whole;
}

-- one more passes than there is room for
pub AreMade-too-many : {A : Type 0} (p : ℕ → Bool) (f : ℕ → A) (n room i : ℕ) (made : List A) → AreMade p f n room i made → i < n → p i ≡ true → length made ≡ room
    → length (filter p (range_with_len 0 n)) ≤ room → ⊥
AreMade-too-many {A} p f n room i made h lt is full few =
    let rest = items_from p f n (i + 1) in
    let all : length made + length (f i ∷ rest) ≡ length (filter p (range_with_len 0 n)) =
    sym (length-append made (f i ∷ rest)) ∙ ap (λ (l : List A). length (made ++ l)) (sym (items_from-takes p f n i lt is)) ∙ ap (λ (l : List A). length l) h.whole ∙ length-map (filter p (range_with_len 0 n)) f in
    omega arith

pub AreMade-all : {A : Type 0} (p : ℕ → Bool) (f : ℕ → A) (n room i : ℕ) (made : List A) → AreMade p f n room i made → n ≤ i → (length (filter p (range_with_len 0 n)) ≤ room) × (made ≡ map f (filter p (range_with_len 0 n)))
AreMade-all {A} p f n room i made h past =
    let whole : made ≡ map f (filter p (range_with_len 0 n)) = sym (append-nil made) ∙ ap (λ (l : List A). made ++ l) (sym (items_from-end p f n i past)) ∙ h.whole in
    let size : length made ≡ length (filter p (range_with_len 0 n)) = ap (λ (l : List A). length l) whole ∙ length-map (filter p (range_with_len 0 n)) f in
    (omega (arith, h.size), whole)

-- an array whose first items are in use, and which is filled with another behind them, is told by those
pub filled-again : {A : Type 0} (x : A) (size count : ℕ) (items : List A) → count ≤ size → length items ≡ size → drop count items ≡ replicate (size - count) x
    → take count items ++ replicate (size - length (take count items)) x ≡ items
filled-again {A} x size count items few long rest =
    let within : count ≤ length items = omega arith in
    let used : length (take count items) ≡ count = length-take-le count items within in
    ap (λ (n : ℕ). take count items ++ replicate (size - n) x) used ∙ ap (λ (l : List A). take count items ++ l) (sym rest) ∙ take-append-drop count items
