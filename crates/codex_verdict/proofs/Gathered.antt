-- What is gathered file by file is what the candidates give that pass the test.
use Rattle.std.proofs.Common.{◌≡◌, ℕ, suc, ◌+◌, ◌-◌, ◌<◌, ◌≤◌, Bool, List, [], ◌∷◌, ◌++◌, map, sym, ap, ◌∙◌, arith, append_assoc, append-nil}
use Rattle.std.proofs.lemmas.List.{map-append}
use Rattle.std.proofs.lemmas.List.Elements.{filter-append}
use Rattle.std.specs.List.{filter, flat_map, range_with_len}

-- what f makes of those that pass p
abbrev pub made : {A B : Type 0} → (A → B) → (A → Bool) → List A → List B
made f p xs = map f (filter p xs)

pub made-append : {A B : Type 0} (f : A → B) (p : A → Bool) (xs ys : List A) → made f p (xs ++ ys) ≡ made f p xs ++ made f p ys
made-append f p xs ys = ap (map f) (filter-append p xs ys) ∙ map-append f (filter p xs) (filter p ys)

-- four, one after another
pub made-four : {A B : Type 0} (f : A → B) (p : A → Bool) (w x y z : A) (a b c d : List B) → a ≡ [] ++ made f p (w ∷ []) → b ≡ a ++ made f p (x ∷ []) → c ≡ b ++ made f p (y ∷ []) → d ≡ c ++ made f p (z ∷ [])
    → d ≡ made f p (w ∷ x ∷ y ∷ z ∷ [])
made-four f p w x y z a b c d ha hb hc hd =
    let two : b ≡ made f p (w ∷ x ∷ []) = hb ∙ ap (λ (l : List _). l ++ made f p (x ∷ [])) ha ∙ sym (made-append f p (w ∷ []) (x ∷ [])) in
    let three : c ≡ made f p (w ∷ x ∷ y ∷ []) = hc ∙ ap (λ (l : List _). l ++ made f p (y ∷ [])) two ∙ sym (made-append f p (w ∷ x ∷ []) (y ∷ [])) in
    hd ∙ ap (λ (l : List _). l ++ made f p (z ∷ [])) three ∙ sym (made-append f p (w ∷ x ∷ y ∷ []) (z ∷ []))

-- what is left to gather from the number k on, of n
abbrev pub left_from : {A B : Type 0} → (A → B) → (A → Bool) → (ℕ → List A) → ℕ → ℕ → List B
left_from f p each k n = made f p (flat_map each (range_with_len k (n - k)))

pub left-step : {A B : Type 0} (f : A → B) (p : A → Bool) (each : ℕ → List A) (k n : ℕ) (old new whole : List B) → k < n → new ≡ old ++ made f p (each k) → old ++ left_from f p each k n ≡ whole → new ++ left_from f p each (k + 1) n ≡ whole
left-step f p each k n old new whole below is so_far =
    let e : n - k ≡ suc (n - (k + 1)) = omega arith in
    let rest = left_from f p each (k + 1) n in
    ap (λ (l : List _). l ++ rest) is
    ∙ append_assoc old (made f p (each k)) rest
    ∙ ap (λ (l : List _). old ++ l) (sym (made-append f p (each k) (flat_map each (range_with_len (k + 1) (n - (k + 1))))))
    ∙ ap (λ (m : ℕ). old ++ made f p (flat_map each (range_with_len k m))) (sym e)
    ∙ so_far

pub left-end : {A B : Type 0} (f : A → B) (p : A → Bool) (each : ℕ → List A) (k n : ℕ) (done whole : List B) → n ≤ k → done ++ left_from f p each k n ≡ whole → done ≡ whole
left-end f p each k n done whole past so_far =
    let e : 0 ≡ n - k = omega arith in
    sym (append-nil done) ∙ ap (λ (m : ℕ). done ++ made f p (flat_map each (range_with_len k m))) e ∙ so_far
