-- What comes of a sketch that is able is able too, and steps of its least closed one can be gone through.
use Rattle.std.proofs.Common.{◌≡◌, ℕ, zero, suc, ◌+◌, ◌*◌, ◌<◌, ◌≤◌, ◌==◌, inl, inr, Bool, true, false, cond, ◌&&◌, ◌||◌, not, List, [], ◌∷◌, length, map, refl, ap, sym, ◌∙◌, subst, arith}
use Rattle.std.proofs.lemmas.Bool.{and_from, and_parts, cases_Bool, lt-ltb, le-ltb, ltb-false, ltb-true, not-true, or_left, or_right}
use Rattle.std.proofs.lemmas.List.Sums.{count_by-le-length}
use Rattle.std.specs.Prelude.{Option, Some, None, count_by, nat_lt}
use Rattle.std.specs.List.{Contains, filter, flat_map, list_all, list_any, range_with_len}
use Rattle.general_lemmas.proofs.Lists.{contains-none, filter-contains, flat_map-contains, map-contains}
use Rattle.board_base.specs.Board.{is_in, opponent, same_colour}
use Rattle.board_base.specs.Rights.{Rights}
use Rattle.board_base.specs.declared.men.Colour.{Colour}
use Rattle.board_base.specs.declared.men.Colour.TheVariants.{White, Black}
use Rattle.board_base.specs.declared.men.Kind.{Kind}
use Rattle.board_base.specs.declared.men.Kind.TheVariants.{Pawn, Knight, Bishop, Rook, Queen}
use Rattle.board_base.specs.Play.{ahead}
use Rattle.board_base.proofs.KindsOfMen.{colour_is}
use Rattle.figures.specs.Clashes.{is_clash, is_nowhere}
use Rattle.figures.specs.Figures.{Figure, Sketch, each_changed, figure_at}
use Rattle.figures.specs.Known.{known_at}
use Rattle.figures.specs.Steps.{Step, bystander, changed_by, is_step, pawn_before, victim_on}
use Rattle.figures.specs.Touching.{side_checks}
use Rattle.figures.specs.Trimmed.{trimmed, trimmed_figure, trims}
use Rattle.sketch_sets.specs.Leasts.{AreLike, IsClosedAbove}
use Rattle.sketch_sets.specs.TrimmedOut.{trimmed_out}
use Rattle.sketch_walk.specs.Places.{has_low_place, is_lower, placed_in, recounted}
use Rattle.sketch_proof.specs.Listed.{Earlier, Listed, earlier, figures_before, is_open, is_short, is_sound, may_be_above, may_take, sketch_before, step_for, steps_by, victims_as, ways_to}
use Rattle.sketch_proof.specs.Victim.{Victim}
use Rattle.sketch_proof.specs.Victim.TheVariants.{Nobody, TakenPawn, TakenBishop, TakenOther, PassedPawn}
use Rattle.sketch_proof.specs.Nodes.{marked_with}
use Rattle.sketch_walk.specs.Values.{can_step_back}
use Rattle.sketch_checker.specs.Able.{HasRoom, IsAble}
use Rattle.sketch_checker.specs.Beginning.{CanBegin}
use Rattle.sketch_checker.proofs.Sides.{begun, begun-low, both-sides, few-tells, few-told, low-each, one, side, side-append, side-cons, side-each, side-map}

-- a sketch with the same figures but for their squares
like-side : (c : Colour) (S T : Sketch) → AreLike S T → side c T ≡ side c S
like-side c [] [] like = refl
like-side c [] (g ∷ T) like = absurd like
like-side c (f ∷ S) [] like = absurd like
like-side c (f ∷ S) (g ∷ T) like =
    let same : one c g ≡ one c f = ap (λ (d : Colour). cond (same_colour c d) 1 0) (sym like.0.colour) in
    omega (arith, side-cons c g T, side-cons c f S, like-side c S T like.1, same)

like-low : (S T : Sketch) → AreLike S T → list_all has_low_place S ≡ true → list_all has_low_place T ≡ true
unfolding has_low_place
like-low [] [] like low = refl
like-low [] (g ∷ T) like low = absurd like
like-low (f ∷ S) [] like low = absurd like
like-low (f ∷ S) (g ∷ T) like low =
    let both = and_parts (nat_lt f.place 127) (list_all has_low_place S) low in
    and_from _ _ (ap (λ (p : ℕ). nat_lt p 127) (sym like.0.place) ∙ both.0) (like-low S T like.1 both.1)

pub begins-above : (o : List Bool) (held : Rights) (exact : List Bool) (S T : Sketch) → IsClosedAbove held exact S T → HasRoom o S → HasRoom o T
begins-above o held exact S T above it = record {
  low = like-low S T above.like it.low;
  white = few-tells o T White (let e = like-side White S T above.like in let f = few-told o S White it.white in omega (arith, e, f));
  black = few-tells o T Black (let e = like-side Black S T above.like in let f = few-told o S Black it.black in omega (arith, e, f));
}

-- steps can be gone through
not-short : (o : List Bool) (T : Sketch) (c : Colour) → begun o c ≤ side c T → is_short o T c ≡ false
unfolding is_short
not-short o T c h = le-ltb (side c T) (begun o c) h

neither : (a b : Bool) → a ≡ false → b ≡ false → not (a || b) ≡ true
neither true b first second = sym first
neither false true first second = sym second
neither false false first second = refl

pub can-step : (o : List Bool) (T : Sketch) → HasRoom o T → can_step_back o T ≡ true
unfolding can_step_back
can-step o T it = and_from _ _ it.low (elim (cases_Bool (nat_lt (length T) 32)) [
  | inl few ↦ or_left (nat_lt (length T) 32) (not (is_short o T White || is_short o T Black)) few
  | inr many ↦
      let all = ltb-false (length T) 32 many in
      let white = few-told o T White it.white in
      let black = few-told o T Black it.black in
      or_right (nat_lt (length T) 32) (not (is_short o T White || is_short o T Black)) (neither _ _
      (not-short o T White (omega (arith, all, white, black, both-sides T, begun-low o White, begun-low o Black)))
      (not-short o T Black (omega (arith, all, white, black, both-sides T, begun-low o White, begun-low o Black))))
])

pub size-low : (o : List Bool) (T : Sketch) → HasRoom o T → length T ≤ 32
size-low o T it = omega (arith, both-sides T, few-told o T White it.white, few-told o T Black it.black, begun-low o White, begun-low o Black)

-- marks, and kinds that are known
either-colour : (b : Bool) (f g : Figure) (c : Colour) → f.colour ≡ c → g.colour ≡ c → (cond b f g).colour ≡ c
either-colour true f g c first second = first
either-colour false f g c first second = second

either-place : (b : Bool) (f g : Figure) (n : ℕ) → f.place ≡ n → g.place ≡ n → (cond b f g).place ≡ n
either-place true f g n first second = first
either-place false f g n first second = second

each-begins : (o : List Bool) (h : ℕ → Figure → Figure) (S : Sketch) → ((n : ℕ) (f : Figure) → (h n f).colour ≡ f.colour) → ((n : ℕ) (f : Figure) → (h n f).place ≡ f.place) → HasRoom o S → HasRoom o (each_changed h 0 S)
each-begins o h S colours places it = record {
  low = low-each h 0 S places it.low;
  white = few-tells o (each_changed h 0 S) White (let e = side-each White h 0 S colours in let f = few-told o S White it.white in omega (arith, e, f));
  black = few-tells o (each_changed h 0 S) Black (let e = side-each Black h 0 S colours in let f = few-told o S Black it.black in omega (arith, e, f));
}

pub marked-begins : (o : List Bool) (numbers : List ℕ) (S : Sketch) → HasRoom o S → HasRoom o (marked_with numbers S)
unfolding marked_with
marked-begins o numbers S it =
    each-begins o (λ i f. cond (list_any (λ n. n == i + 1) numbers) (record f { marked = true }) f) S
    (λ n f. either-colour (list_any (λ m. m == n + 1) numbers) (record f { marked = true }) f f.colour refl refl)
    (λ n f. either-place (list_any (λ m. m == n + 1) numbers) (record f { marked = true }) f f.place refl refl) it

pub known-begins : (o : List Bool) (i : ℕ) (k : Kind) (S : Sketch) → HasRoom o S → HasRoom o (known_at i k S)
unfolding known_at
known-begins o i k S it =
    each-begins o (λ n f. cond (n == i) (record f { kinds = k ∷ [] }) f) S
    (λ n f. either-colour (n == i) (record f { kinds = k ∷ [] }) f f.colour refl refl)
    (λ n f. either-place (n == i) (record f { kinds = k ∷ [] }) f f.place refl refl) it

-- trimmed
pub trims-begins : (o : List Bool) (n : ℕ) (S : Sketch) → HasRoom o S → HasRoom o (trims n S)
unfolding trimmed
trims-begins o zero S it = it
trims-begins o (suc n) S it = trims-begins o n (trimmed S) (each-begins o (λ i f. trimmed_figure S f) S (λ n f. refl) (λ n f. refl) it)

-- places counted anew
counted-low : (S : Sketch) (n : ℕ) (T : Sketch) → length S ≤ n → n < 127 → list_all has_low_place (map (placed_in S) T) ≡ true
unfolding has_low_place placed_in
counted-low S n [] size few = refl
counted-low S n (f ∷ T) size few = let e = count_by-le-length (is_lower f) S in and_from _ _ (lt-ltb (count_by (is_lower f) S) 127 (omega (arith, e))) (counted-low S n T size few)

recounted-begins : (o : List Bool) (S : Sketch) → side White S ≤ begun o White → side Black S ≤ begun o Black → HasRoom o (recounted S)
unfolding recounted placed_in
recounted-begins o S white black = record {
  low = counted-low S 32 S (omega (arith, both-sides S, white, black, begun-low o White, begun-low o Black)) (omega arith);
  white = few-tells o (recounted S) White (let e = side-map White (placed_in S) S (λ f. refl) in omega (arith, e, white));
  black = few-tells o (recounted S) Black (let e = side-map Black (placed_in S) S (λ f. refl) in omega (arith, e, black));
}

-- with a figure more, of a side that has fewer than men in the array
one-more : (o : List Bool) (T : Sketch) (c d : Colour) (g : Figure) → g.colour ≡ d → side c T ≤ begun o c → is_short o T d ≡ true → side c T + side c (g ∷ []) ≤ begun o c
unfolding is_short
one-more o T c d g is few short =
    let made = side-cons c g [] in
    elim (cases_Bool (same_colour c g.colour)) [
      | inl own ↦
          let same : d ≡ c = sym is ∙ sym (colour_is c g.colour own) in
          let less : side c T < begun o c = ltb-true (side c T) (begun o c) (subst (λ (e : Colour). nat_lt (side e T) (begun o e) ≡ true) same short) in
          let unit : one c g ≡ 1 = ap (λ (b : Bool). cond b 1 0) own in
          omega (arith, made, less, unit)
      | inr other ↦
          let unit : one c g ≡ 0 = ap (λ (b : Bool). cond b 1 0) other in
          omega (arith, made, few, unit)
    ]

victims-fit : (o : List Bool) (T : Sketch) (f : Figure) (t : ℕ) (v : Victim) (c : Colour) → side c T ≤ begun o c → may_take o T f v ≡ true → side c T + side c (victims_as f t v) ≤ begun o c
victims-fit o T f t Nobody c few takes = omega (arith, few)
victims-fit o T f t TakenPawn c few takes = one-more o T c (opponent f.colour) (victim_on f Pawn t) refl few takes
victims-fit o T f t TakenBishop c few takes = one-more o T c (opponent f.colour) (victim_on f Bishop t) refl few takes
victims-fit o T f t TakenOther c few takes = one-more o T c (opponent f.colour) (record (victim_on f Knight t) { kinds = Knight ∷ Rook ∷ Queen ∷ [] }) refl few takes
victims-fit o T f t PassedPawn c few takes = one-more o T c (opponent f.colour) (victim_on f Pawn (ahead f.colour t)) refl few takes

changed-colour : (c : Colour) (x : Step) (n : ℕ) (f : Figure) → (changed_by c x n f).colour ≡ f.colour
changed-colour c x n f = either-colour (n == x.by) (pawn_before x f) (bystander c x f) f.colour refl refl

figures-fit : (o : List Bool) (T : Sketch) (f : Figure) (y : Listed) (c : Colour) → side c T ≤ begun o c → may_take o T f y.victim ≡ true → side c (figures_before T f y) ≤ begun o c
unfolding figures_before
figures-fit o T f y c few takes =
    let changed : Sketch = each_changed (changed_by f.colour (step_for T f y)) 0 T in
    let same = side-each c (changed_by f.colour (step_for T f y)) 0 T (changed-colour f.colour (step_for T f y)) in
    let both = side-append c changed (victims_as f y.to y.victim) in
    omega (arith, same, both, victims-fit o T f y.to y.victim c few takes)

-- what was before a step
before-begins : (o : List Bool) (T : Sketch) (f : Figure) (y : Listed) → HasRoom o T → may_take o T f y.victim ≡ true → HasRoom o (sketch_before T f y)
unfolding sketch_before trimmed_out
before-begins o T f y it takes =
    let S : Sketch = figures_before T f y in
    trims-begins o (64 * length (recounted S)) (recounted S) (recounted-begins o S (figures-fit o T f y White (few-told o T White it.white) takes) (figures-fit o T f y Black (few-told o T Black it.black) takes))

open-takes : (o exact : List Bool) (T : Sketch) (f : Figure) (y : Listed) → is_open o exact T f y ≡ true → may_take o T f y.victim ≡ true
unfolding is_open
open-takes o exact T f y h =
    let most = and_parts (may_be_above T f y && is_step exact T (step_for T f y) && may_take o T f y.victim) (is_sound (sketch_before T f y) f) h in
    (and_parts (may_be_above T f y && is_step exact T (step_for T f y)) (may_take o T f y.victim) most.0).1

-- the step, and what was before it
abbrev earlier_by : Sketch → Figure → Listed → Earlier
earlier_by T f y = record { step = y; sketch = sketch_before T f y }

-- EACH FIGURE HAS A SQUARE

pub first-false : (a b : Bool) → (a || b) ≡ false → a ≡ false
first-false true b h = h
first-false false b h = refl

pub sound-somewhere : (S : Sketch) → is_clash S ≡ false → list_any is_nowhere S ≡ false
unfolding is_clash
sound-somewhere S apart = first-false (list_any is_nowhere S) _ apart

pub begins-able : (o : List Bool) (S : Sketch) → CanBegin o S → IsAble o S
begins-able o S it = record {
  room = record { low = it.low; white = it.white; black = it.black };
  somewhere = sound-somewhere S it.apart;
}

somewhere-each : (h : ℕ → Figure → Figure) (k : ℕ) (S : Sketch) → ((n : ℕ) (f : Figure) → (h n f).squares ≡ f.squares) → list_any is_nowhere (each_changed h k S) ≡ list_any is_nowhere S
somewhere-each h k [] keeps = refl
somewhere-each h k (f ∷ S) keeps =
    ap (λ (l : List Bool). list_all (λ s. not (is_in l s)) (range_with_len 0 64) || list_any is_nowhere (each_changed h (suc k) S)) (keeps k f) ∙ ap (λ (b : Bool). is_nowhere f || b) (somewhere-each h (suc k) S keeps)

either-squares : (b : Bool) (f g : Figure) (l : List Bool) → f.squares ≡ l → g.squares ≡ l → (cond b f g).squares ≡ l
either-squares true f g l first second = first
either-squares false f g l first second = second

pub marked-still : (numbers : List ℕ) (S : Sketch) → list_any is_nowhere (marked_with numbers S) ≡ list_any is_nowhere S
unfolding marked_with
marked-still numbers S =
    somewhere-each (λ i f. cond (list_any (λ n. n == i + 1) numbers) (record f { marked = true }) f) 0 S
    (λ n f. either-squares (list_any (λ m. m == n + 1) numbers) (record f { marked = true }) f f.squares refl refl)

pub marked-able : (o : List Bool) (numbers : List ℕ) (S : Sketch) → IsAble o S → IsAble o (marked_with numbers S)
marked-able o numbers S it = record { room = marked-begins o numbers S it.room; somewhere = marked-still numbers S ∙ it.somewhere }

pub known-still : (i : ℕ) (k : Kind) (S : Sketch) → list_any is_nowhere (known_at i k S) ≡ list_any is_nowhere S
unfolding known_at
known-still i k S =
    somewhere-each (λ n f. cond (n == i) (record f { kinds = k ∷ [] }) f) 0 S
    (λ n f. either-squares (n == i) (record f { kinds = k ∷ [] }) f f.squares refl refl)

pub known-able : (o : List Bool) (i : ℕ) (k : Kind) (S : Sketch) → IsAble o S → IsAble o (known_at i k S)
known-able o i k S it = record { room = known-begins o i k S it.room; somewhere = known-still i k S ∙ it.somewhere }

open-somewhere : (o exact : List Bool) (T : Sketch) (f : Figure) (y : Listed) → is_open o exact T f y ≡ true → list_any is_nowhere (sketch_before T f y) ≡ false
unfolding is_open
open-somewhere o exact T f y h =
    let sound = (and_parts (may_be_above T f y && is_step exact T (step_for T f y) && may_take o T f y.victim) (is_sound (sketch_before T f y) f) h).1 in
    sound-somewhere (sketch_before T f y) (not-true _ (and_parts (not (is_clash (sketch_before T f y))) (not (side_checks (sketch_before T f y) (Some f))) sound).0)

steps-able : (o exact : List Bool) (T : Sketch) (i : ℕ) (f : Option Figure) (e : Earlier) → HasRoom o T → Contains (steps_by o exact T i f) e → IsAble o e.sketch
unfolding steps_by
steps-able o exact T i None e it there = absurd (contains-none e there)
steps-able o exact T i (Some f) e it there =
    let x = map-contains (earlier_by T f) (filter (is_open o exact T f) (flat_map (ways_to T i f) (range_with_len 0 64))) e there in
    let y = filter-contains (is_open o exact T f) (flat_map (ways_to T i f) (range_with_len 0 64)) x.0 x.1 in
    subst (λ (d : Earlier). IsAble o d.sketch) x.2 (record { room = before-begins o T f x.0 it (open-takes o exact T f x.0 y.1); somewhere = open-somewhere o exact T f x.0 y.1 })

pub earlier-able : (o exact : List Bool) (T : Sketch) (e : Earlier) → HasRoom o T → Contains (earlier o exact T) e → IsAble o e.sketch
unfolding earlier
earlier-able o exact T e it there =
    let x = flat_map-contains (λ i. steps_by o exact T i (figure_at T i)) (range_with_len 0 (length T)) e there in
    steps-able o exact T x.0 (figure_at T x.0) e it x.2

steps-somewhere : (o exact : List Bool) (T : Sketch) (i : ℕ) (f : Option Figure) (e : Earlier) → Contains (steps_by o exact T i f) e → list_any is_nowhere e.sketch ≡ false
unfolding steps_by
steps-somewhere o exact T i None e there = absurd (contains-none e there)
steps-somewhere o exact T i (Some f) e there =
    let x = map-contains (earlier_by T f) (filter (is_open o exact T f) (flat_map (ways_to T i f) (range_with_len 0 64))) e there in
    let y = filter-contains (is_open o exact T f) (flat_map (ways_to T i f) (range_with_len 0 64)) x.0 x.1 in
    subst (λ (d : Earlier). list_any is_nowhere d.sketch ≡ false) x.2 (open-somewhere o exact T f x.0 y.1)

pub earlier-somewhere : (o exact : List Bool) (T : Sketch) (e : Earlier) → Contains (earlier o exact T) e → list_any is_nowhere e.sketch ≡ false
unfolding earlier
earlier-somewhere o exact T e there =
    let x = flat_map-contains (λ i. steps_by o exact T i (figure_at T i)) (range_with_len 0 (length T)) e there in
    steps-somewhere o exact T x.0 (figure_at T x.0) e x.2
