-- Sketches whose figures are changed by their numbers.
use Rattle.std.proofs.Common.{◌≡◌, ℕ, suc, ◌+◌, ◌<◌, ◌≤◌, List, [], ◌∷◌, ◌++◌, length, length-take-le, get_or, take, refl, ap, sym, ◌∙◌, arith}
use Rattle.std.proofs.lemmas.List.{take_all, take_more}
use Rattle.figures.specs.Figures.{Figure, Sketch, each_changed}

each-push : (h : ℕ → Figure → Figure) (k : ℕ) (S : Sketch) (f : Figure) → each_changed h k (S ++ f ∷ []) ≡ each_changed h k S ++ h (k + length S) f ∷ []
each-push h k [] f = ap (λ (n : ℕ). h n f ∷ []) (let e : k ≡ k + 0 = omega arith in e)
each-push h k (g ∷ S) f = ap (λ (l : Sketch). h k g ∷ l) (each-push h (suc k) S f ∙ ap (λ (n : ℕ). each_changed h (suc k) S ++ h n f ∷ []) (let e : suc k + length S ≡ k + suc (length S) = omega arith in e))

-- one figure more
pub each-next : (h : ℕ → Figure → Figure) (S : Sketch) (i : ℕ) (f g : Figure) (made more : Sketch) → i < length S → f ≡ get_or S i f → g ≡ h i f → made ≡ each_changed h 0 (take i S) → more ≡ made ++ g ∷ [] → more ≡ each_changed h 0 (take (i + 1) S)
each-next h S i f g made more low there new before e =
    let size : length (take i S) ≡ i = length-take-le i S (omega arith) in
    let front : take (i + 1) S ≡ take i S ++ f ∷ [] = take_more S i f low ∙ ap (λ (y : Figure). take i S ++ y ∷ []) (sym there) in
    let at_i : 0 + length (take i S) ≡ i = omega (arith, size) in
    let pushed : each_changed h 0 (take (i + 1) S) ≡ each_changed h 0 (take i S) ++ g ∷ [] = ap (each_changed h 0) front ∙ each-push h 0 (take i S) f ∙ ap (λ (n : ℕ). each_changed h 0 (take i S) ++ h n f ∷ []) at_i ∙ ap (λ (y : Figure). each_changed h 0 (take i S) ++ y ∷ []) (sym new) in
    e ∙ ap (λ (l : Sketch). l ++ g ∷ []) before ∙ sym pushed

pub each-end : (h : ℕ → Figure → Figure) (S : Sketch) (i : ℕ) (made : Sketch) → length S ≤ i → made ≡ each_changed h 0 (take i S) → made ≡ each_changed h 0 S
each-end h S i made past e = e ∙ ap (each_changed h 0) (take_all i S past)

-- changed twice
pub each-twice : (g h : ℕ → Figure → Figure) (k : ℕ) (S : Sketch) → each_changed g k (each_changed h k S) ≡ each_changed (λ n f. g n (h n f)) k S
each-twice g h k [] = refl
each-twice g h k (f ∷ S) = ap (λ (l : Sketch). g k (h k f) ∷ l) (each-twice g h (suc k) S)

-- unchanged
pub each-same : (h : ℕ → Figure → Figure) (k : ℕ) (S : Sketch) → ((n : ℕ) (f : Figure) → h n f ≡ f) → each_changed h k S ≡ S
each-same h k [] same = refl
each-same h k (f ∷ S) same = ap (λ (x : Figure). x ∷ each_changed h (suc k) S) (same k f) ∙ ap (λ (l : Sketch). f ∷ l) (each-same h (suc k) S same)

-- changed alike
pub each-alike : (g h : ℕ → Figure → Figure) (k : ℕ) (S : Sketch) → ((n : ℕ) (f : Figure) → g n f ≡ h n f) → each_changed g k S ≡ each_changed h k S
each-alike g h k [] same = refl
each-alike g h k (f ∷ S) same = ap (λ (x : Figure). x ∷ each_changed g (suc k) S) (same k f) ∙ ap (λ (l : Sketch). h k f ∷ l) (each-alike g h (suc k) S same)
