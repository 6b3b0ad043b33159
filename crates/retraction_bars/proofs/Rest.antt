-- What the sentence on the rest says is true of each way that no clause is told of by itself.
use Rattle.std.proofs.Common.{◌≡◌, ℕ, ◌<◌, ◌≤◌, Bool, true, false, not, length, List, [], ◌∷◌, inl, inr, sym, ap, ◌∙◌, subst, arith}
use Rattle.std.proofs.lemmas.Bool.{cases_Bool, cond-false, cond-true, lt-ltb}
use Rattle.std.specs.List.{Contains, filter}
use Rattle.general_lemmas.proofs.Lists.{contains-cases, contains-filter, contains-none}
use Rattle.board_base.proofs.EachCastle.{where_held}
use Rattle.board_base.specs.declared.unmoves.Unmove.{Unmove}
use Rattle.query_base.specs.Asked.{Asked}
use Rattle.unmove_gen.specs.Listed.{candidates, unmoves, unmoves_to}
use Rattle.retraction_bars.proofs.FirstBars.{each_passes}
use Rattle.retraction_bars.proofs.Places.{among}
use Rattle.retraction_bars.proofs.Whole.{whole}
use Rattle.retraction_bars.specs.Clauses.{clauses}
use Rattle.retraction_bars.specs.Exceptions.{bars_rest, exceptions, is_rest, main_of, rests, told_clauses}
use Rattle.retraction_bars.specs.Lines.{has_rest}
use Rattle.retraction_bars.specs.Scopes.{is_within}
use Rattle.retraction_bars.specs.Told.{Covers, IsTold}
use Rattle.retraction_bars.specs.Ways.{is_way}
use Rattle.retraction_bars.specs.declared.gathering.Clause.{Clause}

-- the tail of a filtered list, with its head or without
at_most : {A : Type 0} (p : A → Bool) (xs : List A) → length (filter p xs) ≤ length xs
at_most {A} p [] = omega arith
at_most {A} p (x ∷ xs) = let rest = at_most p xs in elim (cases_Bool (p x)) [
  | inl is ↦ let e = ap length (cond-true (p x) (x ∷ filter p xs) (filter p xs) is) in omega arith
  | inr fails ↦ let e = ap length (cond-false (p x) (x ∷ filter p xs) (filter p xs) fails) in omega arith
]

-- a filter that drops something makes a list shorter
shorter : {A : Type 0} (p : A → Bool) (xs : List A) (x : A) → Contains xs x → p x ≡ false → length (filter p xs) < length xs
shorter {A} p [] x there fails = absurd (contains-none x there)
shorter {A} p (y ∷ xs) x there fails = elim (contains-cases y xs x there) [
  | inl same ↦
      let e = ap length (cond-false (p y) (y ∷ filter p xs) (filter p xs) (ap p same ∙ fails)) in
      let rest = at_most p xs in
      omega arith
  | inr later ↦
      let rest = shorter p xs x later fails in
      elim (cases_Bool (p y)) [
        | inl is ↦ let e = ap length (cond-true (p y) (y ∷ filter p xs) (filter p xs) is) in omega arith
        | inr drops ↦ let e = ap length (cond-false (p y) (y ∷ filter p xs) (filter p xs) drops) in omega arith
      ]
]

-- a clause of the rest: the sentence on the rest is written, and true of each way of which the clause tells
rest_true : (q : Asked) (c : Clause) (u : Unmove) → Contains candidates u → is_way q u ≡ true → Covers c u → rests q (main_of q) c ≡ true → bars_rest q (main_of q) u ≡ true
rest_true q c u candidate way covers rest =
    let there = subst (λ (t : ℕ). Contains (filter (is_way q) (unmoves_to t)) u) (sym covers.0) (among q u candidate way) in
    where_held (is_within c.scope u) _ (each_passes (is_rest q (main_of q) c.scope) (filter (is_way q) (unmoves_to c.to)) u rest there) covers.1

rest_written : (q : Asked) (c : Clause) → Contains (clauses q) c → rests q (main_of q) c ≡ true → has_rest (clauses q) (told_clauses q) ≡ true
unfolding exceptions
rest_written q c there rest = lt-ltb _ _ (shorter (λ k. not (rests q (main_of q) k)) (clauses q) c there (ap not rest))

told_itself : (q : Asked) (c : Clause) → Contains (clauses q) c → rests q (main_of q) c ≡ false → Contains (told_clauses q) c
unfolding exceptions
told_itself q c there fails = contains-filter (λ k. not (rests q (main_of q) k)) (clauses q) c there (ap not fails)

-- each way is told by a clause, or belongs to the rest
pub untold : (q : Asked) (u : Unmove) → unmoves q ≡ [] → Contains candidates u → is_way q u ≡ true → IsTold q u
untold q u none candidate way =
    let w = whole q u none candidate way in
    elim (cases_Bool (rests q (main_of q) w.0)) [
      | inl rest ↦ inr (rest_written q w.0 w.1 rest, rest_true q w.0 u candidate way w.2 rest)
      | inr told ↦ inl (w.0, told_itself q w.0 w.1 told, w.2)
    ]
