-- The listed step for a step of a sketch.
use Rattle.std.proofs.Common.{◌≡◌, ℕ, ◌+◌, ◌<◌, ◌≤◌, ◌==◌, ◌⊎◌, inl, inr, Bool, true, false, cond, ◌&&◌, ◌||◌, not, List, [], ◌∷◌, length, map, refl, ap, sym, ◌∙◌, subst, arith}
use Rattle.std.proofs.lemmas.Bool.{and_from, and_parts, both_ways, cases_Bool, cases_lt, cond-false, cond-true, eq-eqb, eqb-true, false_from_ne_true, le-ltb, lt-ltb, ltb-true, not-true, not_from_false, or_cases, or_left, or_right}
use Rattle.std.proofs.lemmas.List.Sums.{count_by-le-length}
use Rattle.std.specs.Prelude.{Option, Some, None, is_none, nat_lt}
use Rattle.std.specs.List.{Contains, flat_map, range_with_len}
use Rattle.general_lemmas.proofs.Lists.{contains-flat_map, contains-map}
use Rattle.general_lemmas.proofs.Ranges.{any-found, contains-range}
use Rattle.general_lemmas.proofs.Truth.{same_truth}
use Rattle.board_base.specs.Board.{file, is_in, rank}
use Rattle.board_base.specs.Attacks.{distance, files_apart, one_ahead, ranks_apart}
use Rattle.board_base.specs.Legal.{last_rank, pawn_rank}
use Rattle.board_base.specs.declared.men.Colour.{Colour}
use Rattle.board_base.specs.declared.men.Colour.TheVariants.{White, Black}
use Rattle.board_base.specs.declared.men.Kind.{Kind}
use Rattle.board_base.specs.declared.men.Kind.TheVariants.{Pawn, Knight, Bishop, Rook, Queen, King}
use Rattle.past_account.proofs.Tested.{any-told}
use Rattle.past_account.specs.Closed.{goes_straight}
use Rattle.past_account.specs.Figures.{Figure, Sketch, figure_at, may_be}
use Rattle.past_account.specs.FileOrder.{is_pawn_on, stands_above, stands_below}
use Rattle.past_account.specs.Steps.{Step, arrives, has_place, has_squares, is_next_place, is_step, leaves_place, made_by, may_have_gone, may_have_made, passes, takes}
use Rattle.past_account.proofs.Order.{pawn-file}
use Rattle.past_account.proofs.Sketches.{each-figure}
use Rattle.sketch_steps.proofs.Under.{all-figure}
use Rattle.sketch_list.specs.Listed.{Listed, all_victims, count_from, is_advance, is_from, is_on_file, is_passed, is_under, kind_taken, may_be_above, next_above, origins, place_before, step_for, ways_to}
use Rattle.sketch_list.specs.declared.steps.Victim.{Victim}
use Rattle.sketch_list.specs.declared.steps.Victim.TheVariants.{Nobody, TakenPawn, TakenBishop, TakenOther, PassedPawn}
use Rattle.sketch_list.proofs.Narrowed.{HaveKinds, pawn-may}
use Rattle.sketch_list.proofs.Placing.{count-fewer, next-place, place-over, place-under}
use Rattle.past_account.proofs.Listed.{squares-within}

unfoldable pub victim_for : Bool → Option Kind → Victim
victim_for true o = PassedPawn
victim_for false None = Nobody
victim_for false (Some Pawn) = TakenPawn
victim_for false (Some Bishop) = TakenBishop
victim_for false (Some Knight) = TakenOther
victim_for false (Some Rook) = TakenOther
victim_for false (Some Queen) = TakenOther
victim_for false (Some King) = TakenOther

abbrev pub advances : Figure → Step → Bool
advances f x = (file x.from == file x.to) && not (rank x.to == last_rank f.colour)

abbrev pub listed : Sketch → Figure → Step → Listed
listed T f x = record { by = x.by; from = x.from; to = x.to; victim = victim_for x.passing x.taken; above = cond (advances f x) 0 (count_from T (file x.from) x.place) }

pub passed-same : (b : Bool) (o : Option Kind) → is_passed (victim_for b o) ≡ b
unfolding victim_for
passed-same true o = refl
passed-same false None = refl
passed-same false (Some Pawn) = refl
passed-same false (Some Bishop) = refl
passed-same false (Some Knight) = refl
passed-same false (Some Rook) = refl
passed-same false (Some Queen) = refl
passed-same false (Some King) = refl

advance-told : (T : Sketch) (f : Figure) (x : Step) → is_advance f (listed T f x) ≡ advances f x
unfolding is_advance
advance-told T f x = refl

-- the place before it
place-kept : (T : Sketch) (f : Figure) (x : Step) → advances f x ≡ true → place_before T f (listed T f x) ≡ f.place
unfolding place_before is_advance
place-kept T f x on = cond-true (advances f x) f.place _ on

place-new : (T : Sketch) (f : Figure) (x : Step) → advances f x ≡ false → place_before T f (listed T f x) ≡ next_above (is_under T (file x.from) (count_from T (file x.from) x.place)) T
unfolding place_before is_advance
place-new T f x off =
    cond-false (advances f x) f.place _ off ∙ ap (λ (k : ℕ). next_above (is_under T (file x.from) k) T) (cond-false (advances f x) 0 (count_from T (file x.from) x.place) off)

-- so many can have been above him
pub above-due : (T : Sketch) (f : Figure) (x : Step) → may_be_above T f (listed T f x) ≡ true
unfolding may_be_above is_advance
above-due T f x = elim (cases_Bool (advances f x)) [
  | inl on ↦ cond-true (advances f x) _ _ on ∙ eq-eqb _ 0 (cond-true (advances f x) 0 _ on)
  | inr off ↦ cond-false (advances f x) _ _ off ∙ not_from_false _ (le-ltb _ _ (let k = cond-false (advances f x) 0 (count_from T (file x.from) x.place) off in let few = count-fewer T (file x.from) 0 x.place (omega arith) in omega (arith, k, few)))
]

above-few : (T : Sketch) (f : Figure) (x : Step) → (listed T f x).above ≤ length T
unfolding count_from
above-few T f x = elim (cases_Bool (advances f x)) [
  | inl on ↦ let k = cond-true (advances f x) 0 (count_from T (file x.from) x.place) on in omega (arith, k)
  | inr off ↦ let k = cond-false (advances f x) 0 (count_from T (file x.from) x.place) off in let few = count_by-le-length (is_from (file x.from) x.place) T in omega (arith, k, few)
]

-- A STEP AS A CAPTURE OR A PROMOTION

pub record Made (T : Sketch) (f : Figure) (x : Step) : Type 0 where
  pub free : f.marked ≡ false
  pub squares : has_squares T f x ≡ true
  pub up : one_ahead f.colour x.from x.to ≡ true
  pub arrival : arrives f x.to ≡ true
  pub deed : cond x.passing (passes f.colour x.from x.to x.taken) (takes f.colour x.from x.to x.taken) ≡ true
  pub place : has_place T x ≡ true

made-told : (T : Sketch) (f : Figure) (x : Step) → may_have_made T f x ≡ true → Made T f x
made-told T f x h =
    let p5 = and_parts _ _ h in
    let p4 = and_parts _ _ p5.0 in
    let p3 = and_parts _ _ p4.0 in
    let p2 = and_parts _ _ p3.0 in
    let p1 = and_parts _ _ p2.0 in
    record { free = not-true _ p1.0; squares = p1.1; up = p2.1; arrival = p3.1; deed = p4.1; place = p5.1 }

made-from : (T : Sketch) (f : Figure) (x : Step) → Made T f x → may_have_made T f x ≡ true
made-from T f x m = and_from _ _ (and_from _ _ (and_from _ _ (and_from _ _ (and_from _ _ (not_from_false _ m.free) m.squares) m.up) m.arrival) m.deed) m.place

same-file : (s t : ℕ) → (file s == file t) ≡ true → (files_apart s t == 1) ≡ true → ⊥
unfolding distance
same-file s t same apart = let a = eqb-true _ _ same in let b = eqb-true _ _ apart in omega (arith, a, b)

-- it goes to another file, or to be promoted
turns : (c : Colour) (s t : ℕ) (p : Bool) (o : Option Kind) → cond p (passes c s t o) (takes c s t o) ≡ true → ((files_apart s t == 1) ≡ true) ⊎ (((file s == file t) ≡ true) × ((rank t == last_rank c) ≡ true))
turns c s t true o h = inl (and_parts (files_apart s t == 1) _ (and_parts _ (is_none o) h).0).0
turns c s t false None h = inr (and_parts _ _ h)
turns c s t false (Some k) h = inl (and_parts (files_apart s t == 1) _ (and_parts _ _ h).0).0

made-turns : (T : Sketch) (f : Figure) (x : Step) → Made T f x → advances f x ≡ false
made-turns T f x m = false_from_ne_true _ (λ on.
    let parts = and_parts (file x.from == file x.to) (not (rank x.to == last_rank f.colour)) on in
    elim (turns f.colour x.from x.to x.passing x.taken m.deed) [
      | inl apart ↦ same-file x.from x.to parts.0 apart
      | inr both ↦ both_ways _ (not-true _ parts.1) both.1
    ])

-- whom the listed step takes the pawn may take so
taken-too : (c : Colour) (s t : ℕ) (p : Bool) (o : Option Kind) → cond p (passes c s t o) (takes c s t o) ≡ true → cond (is_passed (victim_for p o)) (passes c s t (kind_taken (victim_for p o))) (takes c s t (kind_taken (victim_for p o))) ≡ true
unfolding victim_for
taken-too c s t true o h = and_from _ _ (and_parts _ (is_none o) h).0 refl
taken-too c s t false None h = h
taken-too c s t false (Some Pawn) h = h
taken-too c s t false (Some Bishop) h = h
taken-too c s t false (Some Knight) h = h
taken-too c s t false (Some Rook) h = h
taken-too c s t false (Some Queen) h = h
taken-too c s t false (Some King) h = absurd (both_ways _ (not-true _ (and_parts _ _ (and_parts _ _ h).0).1) refl)

module _ (T : Sketch) (f : Figure) (x : Step) (kinds : HaveKinds T) (m : Made T f x) where
  turned : advances f x ≡ false
  turned = made-turns T f x m

  -- the same pawns of the file are below
  pub below-same : (i : ℕ) (g : Figure) → figure_at T i ≡ Some g → is_on_file (file x.from) g ≡ true → (g.place < x.place → g.place < place_before T f (listed T f x)) × (g.place < place_before T f (listed T f x) → g.place < x.place)
  below-same i g found on =
      let e = place-new T f x turned in
      (λ low. subst (λ (p : ℕ). g.place < p) (sym e) (place-over T (file x.from) x.place i g found on low), λ low. place-under T (file x.from) x.place i g found (subst (λ (p : ℕ). g.place < p) e low))

  tests-same : (i : ℕ) (g : Figure) → figure_at T i ≡ Some g → is_on_file (file x.from) g ≡ true → nat_lt g.place x.place ≡ nat_lt g.place (place_before T f (listed T f x))
  tests-same i g found on =
      let both = below-same i g found on in
      same_truth _ _ (λ h. lt-ltb _ _ (both.0 (ltb-true _ _ h))) (λ h. lt-ltb _ _ (both.1 (ltb-true _ _ h)))

  -- who leaves the old place leaves the new one
  on-file : (g : Figure) (k : Kind) (q : ℕ) → may_be g k ≡ true → q < 64 → is_in g.squares q ≡ true → is_pawn_on (file x.from) g ≡ true → is_on_file (file x.from) g ≡ true
  unfolding is_on_file
  on-file g k q may inside member pawn =
      let told = pawn-file g (file x.from) q inside member pawn in
      and_from _ _ (pawn-may g k may told.1) (any-found (λ s. is_in g.squares s && (file s == file x.from)) 0 64 q (omega arith) (omega (arith, inside)) (and_from _ _ member (eq-eqb _ _ told.0)))

  somewhere : (g : Figure) (low : Bool) → ((not low || stands_below x.from g) && (not (not low) || stands_above x.from g)) ≡ true → (q : ℕ) × (q < 64) × (is_in g.squares q ≡ true)
  somewhere g true h = let it = any-told (λ q. is_in g.squares q && nat_lt (rank q) (rank x.from)) 0 64 (and_parts (stands_below x.from g) true h).0 in (it.0, it.1, (and_parts _ _ it.2).0)
  somewhere g false h = let it = any-told (λ q. is_in g.squares q && nat_lt (rank x.from) (rank q)) 0 64 h in (it.0, it.1, (and_parts _ _ it.2).0)

  leaves-too : (i : ℕ) (g : Figure) → figure_at T i ≡ Some g → leaves_place x g ≡ true → leaves_place (step_for T f (listed T f x)) g ≡ true
  unfolding step_for
  leaves-too i g found h = elim (or_cases (not (is_pawn_on (file x.from) g)) ((not (nat_lt g.place x.place) || stands_below x.from g) && (not (not (nat_lt g.place x.place)) || stands_above x.from g)) h) [
    | inl off ↦ or_left _ _ off
    | inr sides ↦ elim (cases_Bool (is_pawn_on (file x.from) g)) [
      | inr off ↦ or_left _ _ (not_from_false _ off)
      | inl pawn ↦
          let kind = kinds i g found in
          let on = somewhere g (nat_lt g.place x.place) sides in
          let e = tests-same i g found (on-file g kind.0 on.0 kind.1 on.1 on.2 pawn) in
          or_right (not (is_pawn_on (file x.from) g)) _ (subst (λ (b : Bool). ((not b || stands_below x.from g) && (not (not b) || stands_above x.from g)) ≡ true) e sides)
    ]
  ]

  pub made-listed : may_have_made T f (step_for T f (listed T f x)) ≡ true
  unfolding step_for
  made-listed = made-from T f (step_for T f (listed T f x)) (record {
    free = m.free;
    squares = m.squares;
    up = m.up;
    arrival = m.arrival;
    deed = taken-too f.colour x.from x.to x.passing x.taken m.deed;
    place = and_from _ _ next (each-figure T (leaves_place (step_for T f (listed T f x))) (λ i g found. leaves-too i g found (all-figure T (leaves_place x) i g (and_parts _ _ m.place).1 found)));
  })
    where
      next : is_next_place T (place_before T f (listed T f x)) ≡ true
      next = ap (is_next_place T) (place-new T f x turned) ∙ next-place (is_under T (file x.from) (count_from T (file x.from) x.place)) T

-- A STEP STRAIGHT ON

pub record Gone (exact : List Bool) (T : Sketch) (f : Figure) (x : Step) : Type 0 where
  pub squares : has_squares T f x ≡ true
  pub short : (rank x.to == last_rank f.colour) ≡ false
  pub straight : goes_straight f.colour x.from x.to ≡ true
  pub nobody : x.taken ≡ None
  pub plain : x.passing ≡ false
  pub place : x.place ≡ f.place

gone-told : (exact : List Bool) (T : Sketch) (f : Figure) (x : Step) → may_have_gone exact T f x ≡ true → Gone exact T f x
gone-told exact T f x h =
    let p5 = and_parts _ _ h in
    let p4 = and_parts _ _ p5.0 in
    let p3 = and_parts _ _ p4.0 in
    let p2 = and_parts _ _ p3.0 in
    let p1 = and_parts _ _ p2.0 in
    let k3 = and_parts _ _ p5.1 in
    let k2 = and_parts _ _ k3.0 in
    let k1 = and_parts _ _ k2.0 in
    record { squares = p1.1; short = not-true _ p3.1; straight = p4.1; nobody = none x.taken k1.0; plain = not-true _ k1.1; place = eqb-true _ _ k2.1 }
  where
    none : (o : Option Kind) → is_none o ≡ true → o ≡ None
    none None e = refl
    none (Some k) e = absurd (both_ways false refl e)

gone-advances : (exact : List Bool) (T : Sketch) (f : Figure) (x : Step) → Gone exact T f x → advances f x ≡ true
gone-advances exact T f x g = and_from _ _ (and_parts (file x.from == file x.to) _ g.straight).0 (not_from_false _ g.short)

-- the listed step is this one
pub gone-listed : (exact : List Bool) (T : Sketch) (f : Figure) (x : Step) → Gone exact T f x → step_for T f (listed T f x) ≡ x
unfolding step_for victim_for
gone-listed exact T f x g =
    ap (λ (v : Victim). record x { taken = kind_taken v; passing = is_passed v; place = place_before T f (listed T f x) }) (ap (λ (b : Bool). victim_for b x.taken) g.plain ∙ ap (λ (o : Option Kind). victim_for false o) g.nobody)
    ∙ ap (λ (p : ℕ). record x { taken = None; passing = false; place = p }) (place-kept T f x (gone-advances exact T f x g) ∙ sym g.place)
    ∙ ap (λ (o : Option Kind). record x { taken = o; passing = false }) (sym g.nobody)
    ∙ ap (λ (b : Bool). record x { passing = b }) (sym g.plain)

-- THE LIST

pub by-told : (exact : List Bool) (T : Sketch) (x : Step) (f : Figure) → figure_at T x.by ≡ Some f → is_step exact T x ≡ true → Made T f x ⊎ Gone exact T f x
unfolding is_step
by-told exact T x f found h = elim (or_cases (may_have_made T f x) (may_have_gone exact T f x) (sym (ap (λ (o : Option Figure). made_by exact T o x) found) ∙ h)) [
  | inl made ↦ inl (made-told T f x made)
  | inr gone ↦ inr (gone-told exact T f x gone)
]

by-same : (T : Sketch) (f : Figure) (x : Step) → figure_at T x.by ≡ Some f → figure_at T (step_for T f (listed T f x)).by ≡ Some f
unfolding step_for
by-same T f x e = e

is-made : (exact : List Bool) (T : Sketch) (f : Figure) (y : Step) → figure_at T y.by ≡ Some f → may_have_made T f y ≡ true → is_step exact T y ≡ true
unfolding is_step
is-made exact T f y e made = ap (λ (o : Option Figure). made_by exact T o y) e ∙ or_left _ _ made

pub step-listed : (exact : List Bool) (T : Sketch) (x : Step) (f : Figure) → HaveKinds T → figure_at T x.by ≡ Some f → is_step exact T x ≡ true → is_step exact T (step_for T f (listed T f x)) ≡ true
step-listed exact T x f kinds found h = elim (by-told exact T x f found h) [
  | inl made ↦ is-made exact T f (step_for T f (listed T f x)) (by-same T f x found) (made-listed T f x kinds made)
  | inr gone ↦ ap (is_step exact T) (gone-listed exact T f x gone) ∙ h
]

victim-in : (v : Victim) → Contains all_victims v
victim-in Nobody = (0, omega arith, refl)
victim-in TakenPawn = (1, omega arith, refl)
victim-in TakenBishop = (2, omega arith, refl)
victim-in TakenOther = (3, omega arith, refl)
victim-in PassedPawn = (4, omega arith, refl)

-- where he came from
module _ (a b d e s : ℕ) where
  at-first : s ≡ a → Contains (a ∷ b ∷ d ∷ e ∷ []) s
  at-first same = (0, omega arith, sym same)

  at-second : s ≡ b → Contains (a ∷ b ∷ d ∷ e ∷ []) s
  at-second same = (1, omega arith, sym same)

  at-third : s ≡ d → Contains (a ∷ b ∷ d ∷ e ∷ []) s
  at-third same = (2, omega arith, sym same)

  at-fourth : s ≡ e → Contains (a ∷ b ∷ d ∷ e ∷ []) s
  at-fourth same = (3, omega arith, sym same)

origin-straight : (c : Colour) (s t : ℕ) → one_ahead c s t ≡ true → (file s == file t) ≡ true → Contains (origins c t) s
origin-straight White s t up level = let a = eqb-true _ _ up in let b = eqb-true _ _ level in at-first _ _ _ _ s (omega (arith, a, b))
origin-straight Black s t up level = let a = eqb-true _ _ up in let b = eqb-true _ _ level in at-first _ _ _ _ s (omega (arith, a, b))

beside : (a b : ℕ) → (distance a b == 1) ≡ true → (a ≡ b + 1) ⊎ (b ≡ a + 1)
unfolding distance
beside a b h = let e = eqb-true _ _ h in elim (cases_lt a b) [ inl low ↦ inr (omega (arith, e, low)) | inr high ↦ inl (omega (arith, e, high)) ]

origin-aside : (c : Colour) (s t : ℕ) → one_ahead c s t ≡ true → (files_apart s t == 1) ≡ true → Contains (origins c t) s
origin-aside White s t up apart =
    let a = eqb-true _ _ up in
    elim (beside (file s) (file t) apart) [ inl right ↦ at-fourth _ _ _ _ s (omega (arith, a, right)) | inr left ↦ at-third _ _ _ _ s (omega (arith, a, left)) ]
origin-aside Black s t up apart =
    let a = eqb-true _ _ up in
    elim (beside (file s) (file t) apart) [ inl right ↦ at-fourth _ _ _ _ s (omega (arith, a, right)) | inr left ↦ at-third _ _ _ _ s (omega (arith, a, left)) ]

origin-double : (c : Colour) (s t : ℕ) → s < 64 → t < 64 → (file s == file t) ≡ true → (rank s == pawn_rank c) ≡ true → (ranks_apart s t == 2) ≡ true → Contains (origins c t) s
unfolding distance
origin-double White s t si ti level home apart = let a = eqb-true _ _ level in let b = eqb-true _ _ home in let d = eqb-true _ _ apart in at-second _ _ _ _ s (omega (arith, a, b, d, si, ti))
origin-double Black s t si ti level home apart = let a = eqb-true _ _ level in let b = eqb-true _ _ home in let d = eqb-true _ _ apart in at-second _ _ _ _ s (omega (arith, a, b, d, si, ti))

pub inside-told : (exact : List Bool) (T : Sketch) (f : Figure) (x : Step) → Made T f x ⊎ Gone exact T f x → (x.to < 64) × (x.from < 64)
inside-told exact T f x (inl m) = squares-within T f x m.squares
inside-told exact T f x (inr g) = squares-within T f x g.squares

origin-in : (exact : List Bool) (T : Sketch) (f : Figure) (x : Step) → Made T f x ⊎ Gone exact T f x → Contains (origins f.colour x.to) x.from
origin-in exact T f x (inl m) = elim (turns f.colour x.from x.to x.passing x.taken m.deed) [
  | inl apart ↦ origin-aside f.colour x.from x.to m.up apart
  | inr both ↦ origin-straight f.colour x.from x.to m.up both.0
]
origin-in exact T f x (inr g) =
    let parts = and_parts (file x.from == file x.to) _ g.straight in
    let on = squares-within T f x g.squares in
    elim (or_cases (one_ahead f.colour x.from x.to) _ parts.1) [
      | inl up ↦ origin-straight f.colour x.from x.to up parts.0
      | inr two ↦ let both = and_parts (rank x.from == pawn_rank f.colour) (ranks_apart x.from x.to == 2) two in origin-double f.colour x.from x.to on.1 on.0 parts.0 both.0 both.1
    ]

pub way-in : (exact : List Bool) (T : Sketch) (f : Figure) (x : Step) → Made T f x ⊎ Gone exact T f x → Contains (ways_to T x.by f x.to) (listed T f x)
way-in exact T f x by =
    let y : Listed = listed T f x in
    contains-flat_map (λ s. flat_map (λ v. map (λ n. record { by = x.by; from = s; to = x.to; victim = v; above = n }) (range_with_len 0 (length T + 1))) all_victims) (origins f.colour x.to) x.from y (origin-in exact T f x by)
    (contains-flat_map (λ v. map (λ n. record { by = x.by; from = x.from; to = x.to; victim = v; above = n }) (range_with_len 0 (length T + 1))) all_victims y.victim y (victim-in y.victim)
    (contains-map (λ n. record { by = x.by; from = x.from; to = x.to; victim = y.victim; above = n }) (range_with_len 0 (length T + 1)) y.above (contains-range 0 (length T + 1) y.above (omega arith) (let few = above-few T f x in omega (arith, few)))))
