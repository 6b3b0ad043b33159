-- How many squares the figures of a sketch have in all.
use Rattle.std.proofs.Common.{◌≡◌, ℕ, zero, suc, ◌+◌, ◌*◌, ◌<◌, ◌≤◌, ◌⊎◌, inl, inr, List, [], ◌∷◌, Bool, true, length, map, refl, ap, sym, ◌∙◌, subst, arith}
use Rattle.general_lemmas.proofs.Rounds.{count, count-le, fewer}
use Rattle.general_lemmas.proofs.Lists.{same_first, same_rest}
use Rattle.board_base.specs.Board.{is_in}
use Rattle.figures.proofs.Filling.{in-that, length-that}
use Rattle.figures.specs.Figures.{Figure, Sketch, each_changed}
use Rattle.figures.specs.Trimmed.{trimmed, trimmed_figure, trims}
use Rattle.sketch_sets.specs.Remade.{AreWhole, set_of}
use Rattle.std.proofs.lemmas.Bool.{and_parts}

unfoldable pub total : Sketch → ℕ
total [] = 0
total (f ∷ T) = count f.squares + total T

pub total-most : (T : Sketch) → AreWhole T → total T ≤ 64 * length T
unfolding total
total-most [] w = omega arith
total-most (f ∷ T) w =
    let rest : total T ≤ 64 * length T = total-most T w.1 in
    let here : count f.squares ≤ 64 = omega (arith, count-le f.squares, w.0) in
    omega (arith, rest, here)

-- the second sketch has the figures of the first, each with a set inside his
abbrev pub AreInside : Sketch → Sketch → Type 0
AreInside [] [] = Unit {0}
AreInside [] (g ∷ T) = ⊥
AreInside (f ∷ S) [] = ⊥
AreInside (f ∷ S) (g ∷ T) = ((g ≡ record f { squares = g.squares }) × ((s : ℕ) → is_in g.squares s ≡ true → is_in f.squares s ≡ true)) × AreInside S T

pub inside-length : (S T : Sketch) → AreInside S T → length T ≡ length S
inside-length [] [] h = refl
inside-length [] (g ∷ T) h = absurd h
inside-length (f ∷ S) [] h = absurd h
inside-length (f ∷ S) (g ∷ T) h = ap suc (inside-length S T h.1)

pub same-sets : (S T : Sketch) → AreInside S T → map set_of S ≡ map set_of T → T ≡ S
same-sets [] [] h e = refl
same-sets [] (g ∷ T) h e = absurd h
same-sets (f ∷ S) [] h e = absurd h
same-sets (f ∷ S) (g ∷ T) h e =
    let first : g ≡ f = h.0.0 ∙ ap (λ (l : List Bool). record f { squares = l }) (sym (same_first e)) in
    ap (λ (x : Figure). x ∷ T) first ∙ ap (λ (l : Sketch). f ∷ l) (same-sets S T h.1 (same_rest e))

total-same : (T S : Sketch) → map set_of T ≡ map set_of S → total T ≡ total S
unfolding total
total-same [] [] e = refl
total-same [] (g ∷ S) e = cc
total-same (f ∷ T) [] e = cc
total-same (f ∷ T) (g ∷ S) e = ap (λ (n : ℕ). n + total T) (ap count (same_first e)) ∙ ap (λ (n : ℕ). count g.squares + n) (total-same T S (same_rest e))

pub smaller : (S T : Sketch) → AreWhole S → AreWhole T → AreInside S T → (map set_of S ≡ map set_of T) ⊎ (total T < total S)
unfolding total
smaller [] [] ws wt h = inl refl
smaller [] (g ∷ T) ws wt h = absurd h
smaller (f ∷ S) [] ws wt h = absurd h
smaller (f ∷ S) (g ∷ T) ws wt h = elim (fewer g.squares f.squares (wt.0 ∙ sym ws.0) h.0.1) [
  | inl same ↦ elim (smaller S T ws.1 wt.1 h.1) [
    | inl rest ↦ inl (ap (λ (l : List Bool). l ∷ map set_of S) (sym same) ∙ ap (λ (l : List (List Bool)). g.squares ∷ l) rest)
    | inr less ↦ inr (let e : count g.squares ≡ count f.squares = ap count same in omega (arith, e, less))
  ]
  | inr less ↦ elim (smaller S T ws.1 wt.1 h.1) [
    | inl rest ↦ inr (let e : total T ≡ total S = total-same T S (sym rest) in omega (arith, e, less))
    | inr more ↦ inr (omega (arith, less, more))
  ]
]

-- trimmed once more
trimmed-from : (T S : Sketch) (k : ℕ) → AreInside S (each_changed (λ i f. trimmed_figure T f) k S)
trimmed-from T [] k = tt
trimmed-from T (f ∷ S) k = ((refl, λ s member. (and_parts _ _ (and_parts _ _ (in-that _ s member).1).0).0), trimmed-from T S (suc k))

pub trimmed-inside : (T : Sketch) → AreInside T (trimmed T)
unfolding trimmed
trimmed-inside T = trimmed-from T T 0

trimmed-each : (T S : Sketch) (k : ℕ) → AreWhole (each_changed (λ i f. trimmed_figure T f) k S)
trimmed-each T [] k = tt
trimmed-each T (f ∷ S) k = (length-that _, trimmed-each T S (suc k))

pub trimmed-whole : (T : Sketch) → AreWhole (trimmed T)
unfolding trimmed
trimmed-whole T = trimmed-each T T 0

pub trims-last : (n : ℕ) (S : Sketch) → trims (suc n) S ≡ trimmed (trims n S)
trims-last zero S = refl
trims-last (suc n) S = trims-last n (trimmed S)

-- a round of trimming that changes something leaves fewer squares
pub trimmed-less : (T less : Sketch) → AreWhole T → less ≡ trimmed T → (map set_of T ≡ map set_of less → ⊥) → total less < total T
trimmed-less T less whole e other = subst (λ (l : Sketch). total l < total T) (sym e) (elim (smaller T (trimmed T) whole (trimmed-whole T) (trimmed-inside T)) [
  | inl same ↦ absurd (other (same ∙ ap (map set_of) (sym e)))
  | inr fewer ↦ fewer
])

pub trimmed-end : (T less : Sketch) → less ≡ trimmed T → map set_of T ≡ map set_of less → trimmed T ≡ T
trimmed-end T less e same = same-sets T (trimmed T) (trimmed-inside T) (same ∙ ap (map set_of) e)

pub trims-more : (S T less : Sketch) → less ≡ trimmed T → (n : ℕ) × (T ≡ trims n S) → (n : ℕ) × (less ≡ trims n S)
trims-more S T less e (n, from) = (suc n, e ∙ ap trimmed from ∙ sym (trims-last n S))
