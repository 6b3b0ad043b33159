-- Each step of a sketch is in the list of all steps.
use Rattle.std.proofs.Common.{◌≡◌, ℕ, zero, suc, ◌+◌, ◌<◌, ◌==◌, inl, inr, Bool, true, false, List, [], ◌∷◌, ◌++◌, length, refl, ap, sym, ◌∙◌, subst, arith}
use Rattle.std.proofs.lemmas.Bool.{and_parts, or_cases, both_ways, cases_Bool, cond-true, cond-false, eqb-true, ltb-true, not-true}
use Rattle.std.proofs.lemmas.List.Elements.{Contains-append_left, Contains-append_right}
use Rattle.std.specs.Prelude.{Option, Some, None, is_none, map}
use Rattle.std.specs.List.{Contains, flat_map, list_any, range_with_len}
use Rattle.general_lemmas.proofs.Lists.{contains-filter, contains-first, contains-flat_map, contains-later, contains-map, filter-contains}
use Rattle.general_lemmas.proofs.Ranges.{contains-range}
use Rattle.board_base.specs.declared.men.Colour.{Colour}
use Rattle.board_base.specs.declared.men.Kind.{Kind}
use Rattle.board_base.specs.declared.men.Kind.TheVariants.{Pawn, Knight, Bishop, Rook, Queen, King}
use Rattle.past_sketches.specs.Figures.{Figure, Sketch, figure_at}
use Rattle.past_sketches.specs.Steps.{Step, all_places, all_steps, all_taken, has_squares, is_next_place, is_step, made_by, may_have_gone, may_have_made, passes, steps_between, steps_of, takes}

-- the list has the figure with a number below its length
number-below : (T : Sketch) (i : ℕ) (f : Figure) → figure_at T i ≡ Some f → i < length T
number-below [] i f e = cc
number-below (g ∷ T) zero f e = omega arith
number-below (g ∷ T) (suc i) f e = let below = number-below T i f e in omega (arith, below)

own-place : (T : Sketch) (i : ℕ) (f : Figure) → figure_at T i ≡ Some f → Contains (map (λ g. g.place) T) f.place
own-place [] i f e = cc
own-place (g ∷ T) zero f e = subst (λ (n : ℕ). Contains (map (λ h. h.place) (g ∷ T)) n) (ap (λ (o : Option Figure). place_of o) e) (contains-first g.place (map (λ h. h.place) T))
  where
    place_of : Option Figure → ℕ
    place_of None = 0
    place_of (Some h) = h.place
own-place (g ∷ T) (suc i) f e = contains-later g.place (map (λ h. h.place) T) f.place (own-place T i f e)

next-place : (T : Sketch) (n : ℕ) → list_any (λ g. n == g.place + 1) T ≡ true → Contains (map (λ g. g.place + 1) T) n
next-place [] n h = absurd (both_ways false refl h)
next-place (g ∷ T) n h = elim (or_cases (n == g.place + 1) (list_any (λ x. n == x.place + 1) T) h) [
  | inl first ↦ subst (λ (k : ℕ). Contains (map (λ x. x.place + 1) (g ∷ T)) k) (sym (eqb-true n (g.place + 1) first)) (contains-first (g.place + 1) (map (λ x. x.place + 1) T))
  | inr later ↦ contains-later (g.place + 1) (map (λ x. x.place + 1) T) n (next-place T n later)
]

next-listed : (T : Sketch) (n : ℕ) → is_next_place T n ≡ true → Contains (all_places T) n
next-listed T n h = elim (or_cases (n == 0) (list_any (λ g. n == g.place + 1) T) h) [
  | inl none ↦ subst (λ (k : ℕ). Contains (all_places T) k) (sym (eqb-true n 0 none)) (contains-first 0 (map (λ g. g.place + 1) T ++ map (λ g. g.place) T))
  | inr some ↦ contains-later 0 (map (λ g. g.place + 1) T ++ map (λ g. g.place) T) n (Contains-append_left (map (λ g. g.place + 1) T) (map (λ g. g.place) T) n (next-place T n some))
]

own-listed : (T : Sketch) (i : ℕ) (f : Figure) → figure_at T i ≡ Some f → Contains (all_places T) f.place
own-listed T i f e = contains-later 0 (map (λ g. g.place + 1) T ++ map (λ g. g.place) T) f.place (Contains-append_right (map (λ g. g.place + 1) T) (map (λ g. g.place) T) f.place (own-place T i f e))

-- whom a pawn may have taken
taken-listed : (taken : Option Kind) → (taken ≡ Some King → ⊥) → Contains all_taken taken
taken-listed None other = (0, omega arith, refl)
taken-listed (Some Pawn) other = (1, omega arith, refl)
taken-listed (Some Knight) other = (2, omega arith, refl)
taken-listed (Some Bishop) other = (3, omega arith, refl)
taken-listed (Some Rook) other = (4, omega arith, refl)
taken-listed (Some Queen) other = (5, omega arith, refl)
taken-listed (Some King) other = absurd (other refl)

takes-no-king : (c : Colour) (s t : ℕ) (taken : Option Kind) → takes c s t taken ≡ true → taken ≡ Some King → ⊥
takes-no-king c s t None h e = cc
takes-no-king c s t (Some King) h e = both_ways _ (not-true _ (and_parts _ _ (and_parts _ _ h).0).1) refl
takes-no-king c s t (Some Pawn) h e = cc
takes-no-king c s t (Some Knight) h e = cc
takes-no-king c s t (Some Bishop) h e = cc
takes-no-king c s t (Some Rook) h e = cc
takes-no-king c s t (Some Queen) h e = cc

none-no-king : (taken : Option Kind) → is_none taken ≡ true → taken ≡ Some King → ⊥
none-no-king None h e = cc
none-no-king (Some k) h e = both_ways false refl h

-- what is known of a step
record Bounds (T : Sketch) (x : Step) : Type 0 where
  by : x.by < length T
  to : x.to < 64
  from : x.from < 64
  taken : x.taken ≡ Some King → ⊥
  place : Contains (all_places T) x.place

pub squares-within : (T : Sketch) (f : Figure) (x : Step) → has_squares T f x ≡ true → (x.to < 64) × (x.from < 64)
squares-within T f x h =
    let p3 = and_parts _ _ h in
    let p2 = and_parts _ _ p3.0 in
    let p1 = and_parts _ _ p2.0 in
    (ltb-true _ _ (and_parts _ _ p1.0).1, ltb-true _ _ p1.1)

bounds-made : (exact : List Bool) (T : Sketch) (x : Step) (f : Figure) → figure_at T x.by ≡ Some f → may_have_made T f x ≡ true → Bounds T x
bounds-made exact T x f found h =
    let p5 = and_parts _ _ h in
    let p4 = and_parts _ _ p5.0 in
    let p3 = and_parts _ _ p4.0 in
    let p2 = and_parts _ _ p3.0 in
    let on = squares-within T f x (and_parts _ _ p2.0).1 in
    record {
      by = number-below T x.by f found;
      to = on.0;
      from = on.1;
      taken = elim (cases_Bool x.passing) [
        | inl past ↦ none-no-king x.taken (and_parts _ _ (sym (cond-true x.passing (passes f.colour x.from x.to x.taken) (takes f.colour x.from x.to x.taken) past) ∙ p4.1)).1
        | inr plain ↦ takes-no-king f.colour x.from x.to x.taken (sym (cond-false x.passing (passes f.colour x.from x.to x.taken) (takes f.colour x.from x.to x.taken) plain) ∙ p4.1)
      ];
      place = next-listed T x.place (and_parts _ _ p5.1).0;
    }

bounds-gone : (exact : List Bool) (T : Sketch) (x : Step) (f : Figure) → figure_at T x.by ≡ Some f → may_have_gone exact T f x ≡ true → Bounds T x
bounds-gone exact T x f found h =
    let p5 = and_parts _ _ h in
    let p4 = and_parts _ _ p5.0 in
    let p3 = and_parts _ _ p4.0 in
    let p2 = and_parts _ _ p3.0 in
    let on = squares-within T f x (and_parts _ _ p2.0).1 in
    let k3 = and_parts _ _ p5.1 in
    let k2 = and_parts _ _ k3.0 in
    let k1 = and_parts _ _ k2.0 in
    record {
      by = number-below T x.by f found;
      to = on.0;
      from = on.1;
      taken = none-no-king x.taken k1.0;
      place = subst (Contains (all_places T)) (sym (eqb-true x.place f.place k2.1)) (own-listed T x.by f found);
    }

bounds : (exact : List Bool) (T : Sketch) (x : Step) (o : Option Figure) → figure_at T x.by ≡ o → made_by exact T o x ≡ true → Bounds T x
bounds exact T x None found h = absurd (both_ways false refl h)
bounds exact T x (Some f) found h = elim (or_cases (may_have_made T f x) (may_have_gone exact T f x) h) [
  | inl made ↦ bounds-made exact T x f found made
  | inr gone ↦ bounds-gone exact T x f found gone
]

either-way : (b : Bool) → Contains (true ∷ false ∷ []) b
either-way true = (0, omega arith, refl)
either-way false = (1, omega arith, refl)

in-all : (T : Sketch) (x : Step) → Bounds T x → Contains (all_steps T) x
in-all T x b =
    contains-flat_map (λ i. flat_map (λ s. flat_map (steps_between T i s) (range_with_len 0 64)) (range_with_len 0 64)) (range_with_len 0 (length T)) x.by x (contains-range 0 (length T) x.by (omega arith) (let h = b.by in omega (arith, h)))
    (contains-flat_map (λ s. flat_map (steps_between T x.by s) (range_with_len 0 64)) (range_with_len 0 64) x.from x (contains-range 0 64 x.from (omega arith) (let h = b.from in omega (arith, h)))
    (contains-flat_map (steps_between T x.by x.from) (range_with_len 0 64) x.to x (contains-range 0 64 x.to (omega arith) (let h = b.to in omega (arith, h)))
    (contains-flat_map (λ k. flat_map (λ passing. map (λ n. record { by = x.by; from = x.from; to = x.to; taken = k; passing = passing; place = n }) (all_places T)) (true ∷ false ∷ [])) all_taken x.taken x (taken-listed x.taken b.taken)
    (contains-flat_map (λ passing. map (λ n. record { by = x.by; from = x.from; to = x.to; taken = x.taken; passing = passing; place = n }) (all_places T)) (true ∷ false ∷ []) x.passing x (either-way x.passing)
    (contains-map (λ n. record { by = x.by; from = x.from; to = x.to; taken = x.taken; passing = x.passing; place = n }) (all_places T) x.place b.place)))))

pub step-listed : (exact : List Bool) (T : Sketch) (x : Step) → is_step exact T x ≡ true → Contains (steps_of exact T) x
unfolding steps_of is_step
step-listed exact T x h = contains-filter (λ y. made_by exact T (figure_at T y.by) y) (all_steps T) x (in-all T x (bounds exact T x (figure_at T x.by) refl h)) h

pub listed-step : (exact : List Bool) (T : Sketch) (x : Step) → Contains (steps_of exact T) x → is_step exact T x ≡ true
unfolding steps_of is_step
listed-step exact T x h = (filter-contains (λ y. made_by exact T (figure_at T y.by) y) (all_steps T) x h).1
