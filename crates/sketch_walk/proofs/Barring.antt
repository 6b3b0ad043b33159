-- Ways that are no open steps.
use Rattle.std.proofs.Common.{◌≡◌, ℕ, ◌<◌, ◌≤◌, ◌==◌, inl, inr, Bool, true, false, cond, ◌&&◌, not, List, [], ◌∷◌, refl, ap, sym, ◌∙◌, arith}
use Rattle.std.proofs.lemmas.Bool.{and_from, and_left, and_parts, and_right, both_ways, cases_Bool, cond-false, cond-true, false_from_ne_true, lt-ltb, ltb-true, ne_eqb, not-true, not_from_true, or_cases}
use Rattle.std.specs.Prelude.{Option, Some, nat_lt}
use Rattle.std.specs.List.{list_any}
use Rattle.board_base.specs.Board.{file, is_in}
use Rattle.board_base.specs.Legal.{is_officer}
use Rattle.board_base.specs.declared.men.Kind.TheVariants.{Pawn}
use Rattle.figures.specs.Figures.{Figure, Sketch, figure_at, may_be}
use Rattle.figures.specs.Steps.{Step, arrives, has_squares, is_step, made_by, may_have_gone, may_have_made}
use Rattle.sketch_steps.specs.Arrivals.{arrives_on}
use Rattle.sketch_list.specs.Listed.{Listed, count_from, is_advance, is_open, is_sound, may_be_above, may_take, sketch_before, step_for}
use Rattle.sketch_list.proofs.Listing.{by-told, inside-told}
use Rattle.sketch_walk.specs.Goings.{may_go}
use Rattle.sketch_walk.specs.Walks.{found_at, found_by, if_open, may_come, way_at}
use Rattle.sketch_walk.proofs.Going.{never-step, still-off}

-- a step that may have been made
made-squares : (T : Sketch) (f : Figure) (x : Step) → may_have_made T f x ≡ true → (has_squares T f x ≡ true) × (arrives f x.to ≡ true)
made-squares T f x h =
    let p5 = and_parts _ _ h in
    let p4 = and_parts _ _ p5.0 in
    let p3 = and_parts _ _ p4.0 in
    let p2 = and_parts _ _ p3.0 in
    let p1 = and_parts _ _ p2.0 in
    (p1.1, p3.1)

gone-squares : (exact : List Bool) (T : Sketch) (f : Figure) (x : Step) → may_have_gone exact T f x ≡ true → (has_squares T f x ≡ true) × (arrives f x.to ≡ true)
gone-squares exact T f x h =
    let p5 = and_parts _ _ h in
    let p4 = and_parts _ _ p5.0 in
    let p3 = and_parts _ _ p4.0 in
    let p2 = and_parts _ _ p3.0 in
    let p1 = and_parts _ _ p2.0 in
    (p1.1, ap (λ (b : Bool). cond b (list_any is_officer f.kinds) (may_be f Pawn)) (not-true _ p3.1) ∙ p2.1)

his-square : (T : Sketch) (f : Figure) (x : Step) → has_squares T f x ≡ true → is_in f.squares x.to ≡ true
his-square T f x h =
    let p3 = and_parts _ _ h in
    let p2 = and_parts _ _ p3.0 in
    let p1 = and_parts _ _ p2.0 in
    let p0 = and_parts _ _ p1.0 in
    p0.0

may-both : (T : Sketch) (f : Figure) (x : Step) → (has_squares T f x ≡ true) × (arrives f x.to ≡ true) → may_come f x.to ≡ true
unfolding may_come arrives_on
may-both T f x (squares, there) = and_from (is_in f.squares x.to) _ (his-square T f x squares) there

step-comes : (exact : List Bool) (T : Sketch) (f : Figure) (x : Step) → figure_at T x.by ≡ Some f → is_step exact T x ≡ true → may_come f x.to ≡ true
unfolding is_step
step-comes exact T f x found h = elim (or_cases (may_have_made T f x) (may_have_gone exact T f x) (sym (ap (λ (it : Option Figure). made_by exact T it x) found) ∙ h)) [
  | inl made ↦ may-both T f x (made-squares T f x made)
  | inr gone ↦ may-both T f x (gone-squares exact T f x gone)
]

step-parts : (T : Sketch) (f : Figure) (y : Listed) → ((step_for T f y).by ≡ y.by) × ((step_for T f y).from ≡ y.from) × ((step_for T f y).to ≡ y.to)
unfolding step_for
step-parts T f y = (refl, refl, refl)

module _ (o exact : List Bool) (T : Sketch) (f : Figure) where
  -- what is asked of an open step
  step-open : (y : Listed) → is_open o exact T f y ≡ true → is_step exact T (step_for T f y) ≡ true
  unfolding is_open
  step-open y h =
      let p3 = and_parts (may_be_above T f y && is_step exact T (step_for T f y) && may_take o T f y.victim) (is_sound (sketch_before T f y) f) h in
      let p2 = and_parts (may_be_above T f y && is_step exact T (step_for T f y)) (may_take o T f y.victim) p3.0 in
      (and_parts (may_be_above T f y) (is_step exact T (step_for T f y)) p2.0).1

  shut-above : (y : Listed) → may_be_above T f y ≡ false → is_open o exact T f y ≡ false
  unfolding is_open
  shut-above y none =
      and_left (may_be_above T f y && is_step exact T (step_for T f y) && may_take o T f y.victim) (is_sound (sketch_before T f y) f)
      (and_left (may_be_above T f y && is_step exact T (step_for T f y)) (may_take o T f y.victim) (and_left (may_be_above T f y) (is_step exact T (step_for T f y)) none))

  shut-taken : (y : Listed) → may_take o T f y.victim ≡ false → is_open o exact T f y ≡ false
  unfolding is_open
  shut-taken y none =
      and_left (may_be_above T f y && is_step exact T (step_for T f y) && may_take o T f y.victim) (is_sound (sketch_before T f y) f)
      (and_right (may_be_above T f y && is_step exact T (step_for T f y)) (may_take o T f y.victim) none)

  shut-unless : (y : Listed) → ((is_step exact T (step_for T f y) && is_sound (sketch_before T f y) f) ≡ true → ⊥) → is_open o exact T f y ≡ false
  unfolding is_open
  shut-unless y never = false_from_ne_true _ (λ h.
      let p3 = and_parts (may_be_above T f y && is_step exact T (step_for T f y) && may_take o T f y.victim) (is_sound (sketch_before T f y) f) h in
      let p2 = and_parts (may_be_above T f y && is_step exact T (step_for T f y)) (may_take o T f y.victim) p3.0 in
      never (and_from _ _ (and_parts (may_be_above T f y) (is_step exact T (step_for T f y)) p2.0).1 p3.1))

  open-if : (y : Listed) → may_be_above T f y ≡ true → may_take o T f y.victim ≡ true → (is_step exact T (step_for T f y) && is_sound (sketch_before T f y) f) ≡ true → is_open o exact T f y ≡ true
  unfolding is_open
  open-if y above taken both =
      let parts = and_parts (is_step exact T (step_for T f y)) (is_sound (sketch_before T f y) f) both in
      and_from (may_be_above T f y && is_step exact T (step_for T f y) && may_take o T f y.victim) (is_sound (sketch_before T f y) f)
      (and_from (may_be_above T f y && is_step exact T (step_for T f y)) (may_take o T f y.victim) (and_from (may_be_above T f y) (is_step exact T (step_for T f y)) above parts.0) taken) parts.1

  shut-square : (y : Listed) → figure_at T y.by ≡ Some f → may_come f y.to ≡ false → is_open o exact T f y ≡ false
  shut-square y found none = false_from_ne_true _ (λ h.
      let parts = step-parts T f y in
      both_ways _ none (ap (may_come f) (sym parts.2) ∙ step-comes exact T f (step_for T f y) (ap (figure_at T) parts.0 ∙ found) (step-open y h)))

  shut-origin : (y : Listed) → figure_at T y.by ≡ Some f → (y.from < 64 → ⊥) → is_open o exact T f y ≡ false
  shut-origin y found off = false_from_ne_true _ (λ h.
      let parts = step-parts T f y in
      let inside = inside-told exact T f (step_for T f y) (by-told exact T (step_for T f y) f (ap (figure_at T) parts.0 ∙ found) (step-open y h)) in
      let from : (step_for T f y).from < 64 = inside.1 in
      off (omega (arith, from, parts.1)))

  -- what is found of a way
  found-here : (i t w v n : ℕ) → figure_at T i ≡ Some f → found_at o exact T i t w v n ≡ if_open o exact T f (way_at i f t w v n)
  unfolding found_at
  found-here i t w v n found = ap (λ (it : Option Figure). found_by o exact T it i t w v n) found

  found-none : (y : Listed) → is_open o exact T f y ≡ false → if_open o exact T f y ≡ []
  unfolding if_open
  found-none y shut = cond-false (is_open o exact T f y) _ _ shut

  found-one : (y : Listed) → is_open o exact T f y ≡ true → if_open o exact T f y ≡ record { step = y; sketch = sketch_before T f y } ∷ []
  unfolding if_open
  found-one y open' = cond-true (is_open o exact T f y) _ _ open'

  pub no-square : (i t : ℕ) → figure_at T i ≡ Some f → may_come f t ≡ false → (w v n : ℕ) → found_at o exact T i t w v n ≡ []
  no-square i t found none w v n = found-here i t w v n found ∙ found-none (way_at i f t w v n) (shut-square (way_at i f t w v n) found none)

  pub no-origin : (i t w : ℕ) → figure_at T i ≡ Some f → ((way_at i f t w 0 0).from < 64 → ⊥) → (v n : ℕ) → found_at o exact T i t w v n ≡ []
  no-origin i t w found off v n = found-here i t w v n found ∙ found-none (way_at i f t w v n) (shut-origin (way_at i f t w v n) found off)

  pub no-victim : (i t w v : ℕ) → figure_at T i ≡ Some f → may_take o T f (way_at i f t w v 0).victim ≡ false → (n : ℕ) → found_at o exact T i t w v n ≡ []
  no-victim i t w v found none n = found-here i t w v n found ∙ found-none (way_at i f t w v n) (shut-taken (way_at i f t w v n) none)

  pub no-going : (i t w v m : ℕ) → figure_at T i ≡ Some f → may_go exact f (way_at i f t w v m) ≡ false → (n : ℕ) → found_at o exact T i t w v n ≡ []
  no-going i t w v m found off n =
      let y : Listed = way_at i f t w v n in
      found-here i t w v n found ∙ found-none y (shut-unless y (λ both. both_ways (is_step exact T (step_for T f y)) (never-step exact T f y found (still-off exact f (way_at i f t w v m) n off)) (and_parts (is_step exact T (step_for T f y)) (is_sound (sketch_before T f y) f) both).0))

  -- who can't be above n can't be above more
  none-higher : (y : Listed) (n : ℕ) → y.above ≤ n → may_be_above T f y ≡ false → may_be_above T f (record y { above = n }) ≡ false
  unfolding may_be_above is_advance
  none-higher y n high none = elim (cases_Bool (is_advance f y)) [
    | inl on ↦
        let first : (y.above == 0) ≡ false = sym (cond-true (is_advance f y) (y.above == 0) _ on) ∙ none in
        cond-true (is_advance f y) (n == 0) _ on ∙ ne_eqb n 0 (λ e. both_ways (y.above == 0) first (zero-too y.above n high e))
    | inr off ↦
        let first : not (nat_lt (count_from T (file y.from) 0) y.above) ≡ false = sym (cond-false (is_advance f y) _ _ off) ∙ none in
        let more : count_from T (file y.from) 0 < y.above = ltb-true _ _ (true-if (nat_lt (count_from T (file y.from) 0) y.above) first) in
        cond-false (is_advance f y) _ _ off ∙ not_from_true _ (lt-ltb (count_from T (file y.from) 0) n (omega (arith, more, high)))
  ]
    where
      zero-too : (a n : ℕ) → a ≤ n → n ≡ 0 → (a == 0) ≡ true
      zero-too a n low e = let same : a ≡ 0 = omega arith in ap (λ (m : ℕ). m == 0) same

      true-if : (b : Bool) → not b ≡ false → b ≡ true
      true-if true e = refl
      true-if false e = absurd (both_ways true e refl)

  pub no-higher : (i t w v m : ℕ) → figure_at T i ≡ Some f → may_be_above T f (way_at i f t w v m) ≡ false → (n : ℕ) → m ≤ n → found_at o exact T i t w v n ≡ []
  no-higher i t w v m found none n high = found-here i t w v n found ∙ found-none (way_at i f t w v n) (shut-above (way_at i f t w v n) (none-higher (way_at i f t w v m) n high none))

  pub no-step : (i t w v n : ℕ) → figure_at T i ≡ Some f → ((is_step exact T (step_for T f (way_at i f t w v n)) && is_sound (sketch_before T f (way_at i f t w v n)) f) ≡ true → ⊥) → found_at o exact T i t w v n ≡ []
  no-step i t w v n found never = found-here i t w v n found ∙ found-none (way_at i f t w v n) (shut-unless (way_at i f t w v n) never)

  pub one-step : (i t w v n : ℕ) → figure_at T i ≡ Some f → may_be_above T f (way_at i f t w v n) ≡ true → may_take o T f (way_at i f t w v n).victim ≡ true → (is_step exact T (step_for T f (way_at i f t w v n)) && is_sound (sketch_before T f (way_at i f t w v n)) f) ≡ true → found_at o exact T i t w v n ≡ record { step = way_at i f t w v n; sketch = sketch_before T f (way_at i f t w v n) } ∷ []
  one-step i t w v n found above taken both = found-here i t w v n found ∙ found-one (way_at i f t w v n) (open-if (way_at i f t w v n) above taken both)
