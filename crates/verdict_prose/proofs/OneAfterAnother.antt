-- Moves of which one was the last, one after another.
use Rattle.std.proofs.Common.{◌≡◌, ℕ, ◌+◌, ◌≤◌, ◌&&◌, inl, inr, Bool, true, false, List, ◌∷◌, ◌++◌, length, drop, sym, ap, ◌∙◌, subst, arith}
use Rattle.std.specs.Prelude.{Option, Some, None, slice_get}
use Rattle.std.specs.List.{list_all}
use Rattle.std.proofs.lemmas.List.{append-nil, append_assoc, drop_all, drop_more}
use Rattle.std.proofs.lemmas.Option.{get_or_from_slice_get, slice_get_cases, slice_get_within}
use Rattle.board_base.specs.Board.{Places}
use Rattle.board_base.specs.declared.unmoves.Unmove.{Unmove}
use Rattle.verdict_prose.specs.Choices.{choice_from, goes_on, is_again, one_words}

-- the moves from a place on that has one
pub left-at : (us : List Unmove) (i : ℕ) (u : Unmove) → slice_get us i ≡ Some u → drop i us ≡ u ∷ drop (i + 1) us
left-at us i u here = drop_more us i u (slice_get_within us i u here) ∙ ap (λ (v : Unmove). v ∷ drop (i + 1) us) (get_or_from_slice_get us i u u here)

-- one move more
pub choice-step : (word : List ℕ) (before : Option Unmove) (board : Places) (us : List Unmove) (i : ℕ) (u : Unmove) (done new o : List ℕ) → slice_get us i ≡ Some u → new ≡ done ++ one_words word before board u (drop (i + 1) us) → done ++ choice_from word before board (drop i us) ≡ o → new ++ choice_from word (Some u) board (drop (i + 1) us) ≡ o
choice-step word before board us i u done new o here more so_far =
    let rest : List Unmove = drop (i + 1) us in
    ap (λ (l : List ℕ). l ++ choice_from word (Some u) board rest) more
    ∙ append_assoc done (one_words word before board u rest) (choice_from word (Some u) board rest)
    ∙ ap (λ (l : List Unmove). done ++ choice_from word before board l) (sym (left-at us i u here))
    ∙ so_far

-- no move is left
pub choice-whole : (word : List ℕ) (before : Option Unmove) (board : Places) (us : List Unmove) (i : ℕ) (done o : List ℕ) → length us ≤ i → done ++ choice_from word before board (drop i us) ≡ o → done ≡ o
choice-whole word before board us i done o past so_far =
    sym (append-nil done) ∙ ap (λ (l : List Unmove). done ++ choice_from word before board l) (sym (drop_all i us past)) ∙ so_far

some_none : (v : Unmove) → Some v ≡ None → ⊥
some_none v same = cc

-- the first of no moves is none
pub goes_on-none : (u : Unmove) (us : List Unmove) (i : ℕ) → slice_get us i ≡ None → goes_on u (drop i us) ≡ false
goes_on-none u us i none = elim (slice_get_cases us i).1 [
  | inl (v, inside, is, got) ↦ absurd (some_none v (sym is ∙ none))
  | inr (past, left) ↦ ap (λ (l : List Unmove). goes_on u l) (drop_all i us past)
]

-- whether all moves from a place on are this one again, by the first of them
again-more : (u : Unmove) (us : List Unmove) (i : ℕ) (v : Unmove) → slice_get us i ≡ Some v → list_all (is_again u) (drop i us) ≡ (is_again u v && list_all (is_again u) (drop (i + 1) us))
again-more u us i v here = ap (λ (l : List Unmove). list_all (is_again u) l) (left-at us i v here)

pub again-stops : (u : Unmove) (us : List Unmove) (i : ℕ) (v : Unmove) (o : Bool) → slice_get us i ≡ Some v → is_again u v ≡ false → list_all (is_again u) (drop i us) ≡ o → false ≡ o
again-stops u us i v o here other so_far =
    sym (again-more u us i v here ∙ ap (λ (b : Bool). b && list_all (is_again u) (drop (i + 1) us)) other) ∙ so_far

pub again-step : (u : Unmove) (us : List Unmove) (i : ℕ) (v : Unmove) (o : Bool) → slice_get us i ≡ Some v → is_again u v ≡ true → list_all (is_again u) (drop i us) ≡ o → list_all (is_again u) (drop (i + 1) us) ≡ o
again-step u us i v o here again so_far =
    sym (again-more u us i v here ∙ ap (λ (b : Bool). b && list_all (is_again u) (drop (i + 1) us)) again) ∙ so_far

pub again-whole : (u : Unmove) (us : List Unmove) (i : ℕ) (o : Bool) → length us ≤ i → list_all (is_again u) (drop i us) ≡ o → true ≡ o
again-whole u us i o past so_far = sym (ap (λ (l : List Unmove). list_all (is_again u) l) (drop_all i us past)) ∙ so_far
