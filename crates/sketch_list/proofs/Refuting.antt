-- A closed sketch that can't be the array is refuted if the sketch before each of its open steps is.
use Rattle.std.proofs.Common.{◌≡◌, ℕ, zero, suc, ◌+◌, ◌*◌, ◌==◌, ◌⊎◌, inl, inr, Bool, true, false, cond, List, [], ◌∷◌, length, refl, ap, sym, ◌∙◌, subst, arith}
use Rattle.std.proofs.lemmas.Bool.{and_from, both_ways, cases_Bool, false_from_ne_true, lt-ltb, ltb-false, not_from_false, or_left}
use Rattle.std.proofs.lemmas.List.Sums.{sum_by-cons}
use Rattle.std.proofs.lemmas.Option.{same_Some}
use Rattle.std.specs.Prelude.{Option, Some, None, count_by}
use Rattle.std.specs.List.{Contains, filter, flat_map, list_any, range_with_len}
use Rattle.general_lemmas.proofs.Lists.{contains-filter, contains-flat_map, contains-map}
use Rattle.general_lemmas.proofs.Ranges.{contains-range}
use Rattle.board_base.specs.Board.{opponent, same_colour, same_kind}
use Rattle.board_base.specs.Play.{ahead}
use Rattle.board_base.specs.Rights.{Rights}
use Rattle.board_base.specs.declared.men.Colour.{Colour}
use Rattle.board_base.specs.declared.men.Kind.{Kind}
use Rattle.board_base.specs.declared.men.Kind.TheVariants.{Pawn, Knight, Bishop, Rook, Queen, King}
use Rattle.board_base.proofs.KindsOfMen.{same_colour-self, same_kind-self}
use Rattle.past_account.specs.Clashes.{is_clash, is_crowded}
use Rattle.past_account.specs.Closed.{IsClosed}
use Rattle.past_account.specs.Figures.{Figure, Sketch, each_changed, figure_at, may_be}
use Rattle.past_account.specs.Homes.{may_be_array}
use Rattle.past_account.specs.Steps.{Step, back_by, bystander, changed_by, is_step, made_by, onto, pawn_before, taken_back, victim_on, victims}
use Rattle.past_account.specs.Touching.{gives_check, side_checks}
use Rattle.past_account.specs.Trimmed.{trimmed, trims}
use Rattle.past_account.proofs.Changed.{changed-at}
use Rattle.past_account.proofs.Sketches.{any-figure, figure-any}
use Rattle.past_account.specs.Refuted.{Refuted, clash, crowd, kinds, rearranged, steps, trim}
use Rattle.sketch_steps.specs.Places.{recounted}
use Rattle.sketch_steps.specs.TrimmedOut.{trimmed_out}
use Rattle.sketch_list.specs.Listed.{Earlier, earlier, figures_before, is_open, is_short, is_sound, may_take, sketch_before, steps_by, ways_to}
use Rattle.sketch_list.proofs.Before.{before-respelled}
use Rattle.sketch_list.proofs.Listing.{Gone, Made, above-due, by-told, inside-told, listed, step-listed, victim_for, way-in}
use Rattle.sketch_list.proofs.Narrowed.{HaveKinds, check-too, trims-narrow}
use Rattle.sketch_list.proofs.Respelled.{respelled-rearranged}
use Rattle.sketch_steps.proofs.Rearranging.{low-at}

trims-refuted : (o : List Bool) (held : Rights) (n : ℕ) (S : Sketch) → Refuted o held (trims n S) → Refuted o held S
trims-refuted o held zero S r = r
trims-refuted o held (suc n) S r = trim S (trims-refuted o held n (trimmed S) r)

-- FIGURES WITHOUT A KIND

abbrev has_none : List Kind → Bool
has_none [] = true
has_none (k ∷ ks) = false

none-may : (l : List Kind) (k : Kind) → has_none l ≡ true → list_any (λ j. same_kind j k) l ≡ true → ⊥
none-may [] k none may = both_ways false refl may
none-may (j ∷ l) k none may = both_ways false refl none

some-kind : (l : List Kind) → has_none l ≡ false → (k : Kind) × (list_any (λ j. same_kind j k) l ≡ true)
some-kind [] some = absurd (both_ways true some refl)
some-kind (k ∷ l) some = (k, or_left _ _ (same_kind-self k))

have-kinds : (T : Sketch) → list_any (λ f. has_none f.kinds) T ≡ false → HaveKinds T
have-kinds T none i f found = some-kind f.kinds (false_from_ne_true _ (λ h. both_ways _ none (figure-any T (λ f. has_none f.kinds) i f found h)))

by-kind : (c : Colour) (x : Step) (b : Bool) (h : Figure) → (k : Kind) × (may_be h k ≡ true) → (k : Kind) × (may_be (cond b (pawn_before x h) (bystander c x h)) k ≡ true)
by-kind c x true h kind = (Pawn, refl)
by-kind c x false h kind = kind

changed-kinds : (T : Sketch) (c : Colour) (x : Step) → HaveKinds T → HaveKinds (each_changed (changed_by c x) 0 T)
changed-kinds T c x some j g e =
    let was = changed-at (changed_by c x) 0 T j g e in
    let kind = by-kind c x (0 + j == x.by) was.0 (some j was.0 was.1) in
    (kind.0, ap (λ (z : Figure). may_be z kind.0) (sym was.2) ∙ kind.1)

more-kinds : (v : Figure) (k : Kind) (C : Sketch) → may_be v k ≡ true → HaveKinds C → HaveKinds (v ∷ C)
more-kinds v k C may some zero f e = (k, ap (λ (z : Figure). may_be z k) (sym (same_Some v f e)) ∙ may)
more-kinds v k C may some (suc i) f e = some i f e

onto-kinds : (f : Figure) (x : Step) (b : Bool) (t : Option Kind) (C : Sketch) → HaveKinds C → HaveKinds (onto (victims f (record x { passing = b; taken = t })) C)
onto-kinds f x true t C some = more-kinds (victim_on f Pawn (ahead f.colour x.to)) Pawn C refl some
onto-kinds f x false None C some = some
onto-kinds f x false (Some k) C some = more-kinds (victim_on f k x.to) k C (or_left _ _ (same_kind-self k)) some

back-kinds : (T : Sketch) (x : Step) (f : Figure) → figure_at T x.by ≡ Some f → HaveKinds T → HaveKinds (taken_back T x)
unfolding taken_back
back-kinds T x f found some = subst (λ (o : Option Figure). HaveKinds (back_by T o x)) (sym found) (onto-kinds f x x.passing x.taken _ (changed-kinds T f.colour x some))

-- TOO MANY FIGURES

abbrev of_side : Colour → Sketch → ℕ
of_side c T = count_by (λ f. same_colour c f.colour) T

abbrev unit : Bool → ℕ
unit b = cond b 1 0

count-changed : (c : Colour) (h : ℕ → Figure → Figure) (k : ℕ) (T : Sketch) → ((i : ℕ) (f : Figure) → (h i f).colour ≡ f.colour) → of_side c (each_changed h k T) ≡ of_side c T
count-changed c h k [] same = refl
count-changed c h k (f ∷ T) same =
    let a = sum_by-cons (λ (x : Figure). unit (same_colour c x.colour)) (h k f) (each_changed h (suc k) T) in
    let b = sum_by-cons (λ (x : Figure). unit (same_colour c x.colour)) f T in
    let first : unit (same_colour c (h k f).colour) ≡ unit (same_colour c f.colour) = ap (λ (d : Colour). unit (same_colour c d)) (same k f) in
    let rest = count-changed c h (suc k) T same in
    omega (arith, a, b, first, rest)

by-colour : (c : Colour) (x : Step) (b : Bool) (h : Figure) → (cond b (pawn_before x h) (bystander c x h)).colour ≡ h.colour
by-colour c x true h = refl
by-colour c x false h = refl

crowd-more : (o : List Bool) (T C : Sketch) (c : Colour) (v : Figure) → is_short o T c ≡ false → of_side c C ≡ of_side c T → v.colour ≡ c → is_crowded o (v ∷ C) c ≡ true
unfolding is_short is_crowded
crowd-more o T C c v full same own =
    let a = sum_by-cons (λ (x : Figure). unit (same_colour c x.colour)) v C in
    let one : unit (same_colour c v.colour) ≡ 1 = ap unit (ap (same_colour c) own ∙ same_colour-self c) in
    let few = ltb-false _ _ full in
    lt-ltb _ _ (omega (arith, a, one, few, same))

taken-crowd : (o : List Bool) (T : Sketch) (f : Figure) (x : Step) (b : Bool) (t : Option Kind) (C : Sketch) → of_side (opponent f.colour) C ≡ of_side (opponent f.colour) T → may_take o T f (victim_for b t) ≡ false → is_crowded o (onto (victims f (record x { passing = b; taken = t })) C) (opponent f.colour) ≡ true
unfolding victim_for
taken-crowd o T f x true t C same full = crowd-more o T C (opponent f.colour) _ full same refl
taken-crowd o T f x false None C same full = absurd (both_ways true full refl)
taken-crowd o T f x false (Some Pawn) C same full = crowd-more o T C (opponent f.colour) _ full same refl
taken-crowd o T f x false (Some Knight) C same full = crowd-more o T C (opponent f.colour) _ full same refl
taken-crowd o T f x false (Some Bishop) C same full = crowd-more o T C (opponent f.colour) _ full same refl
taken-crowd o T f x false (Some Rook) C same full = crowd-more o T C (opponent f.colour) _ full same refl
taken-crowd o T f x false (Some Queen) C same full = crowd-more o T C (opponent f.colour) _ full same refl
taken-crowd o T f x false (Some King) C same full = crowd-more o T C (opponent f.colour) _ full same refl

back-crowd : (o : List Bool) (T : Sketch) (x : Step) (f : Figure) → figure_at T x.by ≡ Some f → may_take o T f (victim_for x.passing x.taken) ≡ false → is_crowded o (taken_back T x) (opponent f.colour) ≡ true
unfolding taken_back
back-crowd o T x f found full =
    subst (λ (p : Option Figure). is_crowded o (back_by T p x) (opponent f.colour) ≡ true) (sym found)
    (taken-crowd o T f x x.passing x.taken _ (count-changed (opponent f.colour) (changed_by f.colour x) 0 T (λ i h. by-colour f.colour x (i == x.by) h)) full)

-- THE LIST

rounds_by : Sketch → Option Figure → Step → ℕ
rounds_by T None x = 0
rounds_by T (Some f) x = 64 * length (recounted (figures_before T f (listed T f x)))

module _ (o : List Bool) (held : Rights) (exact : List Bool) (T : Sketch) (some : HaveKinds T) (each : (e : Earlier) → Contains (earlier o exact T) e → Refuted o held e.sketch) (x : Step) (f : Figure) (found : figure_at T x.by ≡ Some f) (made : is_step exact T x ≡ true) where
  by : Made T f x ⊎ Gone exact T f x
  by = by-told exact T x f found made

  by-figure : is_open o exact T f (listed T f x) ≡ true → Contains (steps_by o exact T x.by (Some f)) (record { step = listed T f x; sketch = sketch_before T f (listed T f x) })
  unfolding steps_by
  by-figure opened =
      let inside = inside-told exact T f x by in
      contains-map (λ y. record { step = y; sketch = sketch_before T f y }) (filter (is_open o exact T f) (flat_map (ways_to T x.by f) (range_with_len 0 64))) (listed T f x)
      (contains-filter (is_open o exact T f) (flat_map (ways_to T x.by f) (range_with_len 0 64)) (listed T f x)
      (contains-flat_map (ways_to T x.by f) (range_with_len 0 64) x.to (listed T f x) (contains-range 0 64 x.to (omega arith) (let low = inside.0 in omega (arith, low))) (way-in exact T f x by)) opened)

  in-list : is_open o exact T f (listed T f x) ≡ true → Contains (earlier o exact T) (record { step = listed T f x; sketch = sketch_before T f (listed T f x) })
  unfolding earlier
  in-list opened =
      contains-flat_map (λ i. steps_by o exact T i (figure_at T i)) (range_with_len 0 (length T)) x.by _ (contains-range 0 (length T) x.by (omega arith) (let low = low-at T x.by f found in omega (arith, low)))
      (subst (λ (p : Option Figure). Contains (steps_by o exact T x.by p) (record { step = listed T f x; sketch = sketch_before T f (listed T f x) })) (sym found) (by-figure opened))

  opened : may_take o T f (victim_for x.passing x.taken) ≡ true → is_sound (sketch_before T f (listed T f x)) f ≡ true → is_open o exact T f (listed T f x) ≡ true
  unfolding is_open
  opened taken sound = and_from _ _ (and_from _ _ (and_from _ _ (above-due T f x) (step-listed exact T x f some found made)) taken) sound

  abbrev start : Sketch
  start = recounted (figures_before T f (listed T f x))

  -- a refuted trimmed one refutes what the step is taken back to
  from-trims : (n : ℕ) → Refuted o held (trims n start) → Refuted o held (taken_back T x)
  from-trims n r = rearranged (taken_back T x) start (respelled-rearranged (taken_back T x) start (before-respelled exact T f x some found by)) (trims-refuted o held n start r)

  before-is : sketch_before T f (listed T f x) ≡ trims (64 * length start) start
  unfolding sketch_before trimmed_out
  before-is = refl

  -- the trimmed one is open, or no game comes to it for another reason
  decide : (n : ℕ) → sketch_before T f (listed T f x) ≡ trims n start → side_checks (trims n (taken_back T x)) (figure_at T x.by) ≡ false → Refuted o held (taken_back T x)
  decide n is calm = elim (trims-narrow n (taken_back T x) start (before-respelled exact T f x some found by) (back-kinds T x f found some)) [
    | inl it ↦ trims-refuted o held it.0 (taken_back T x) (clash (trims it.0 (taken_back T x)) it.1)
    | inr narrow ↦ elim (cases_Bool (is_clash (trims n start))) [
      | inl clashes ↦ from-trims n (clash (trims n start) clashes)
      | inr calm_here ↦ elim (cases_Bool (is_clash (trims n (taken_back T x)))) [
        | inl clashes ↦ trims-refuted o held n (taken_back T x) (clash (trims n (taken_back T x)) clashes)
        | inr sound ↦ elim (cases_Bool (may_take o T f (victim_for x.passing x.taken))) [
          | inr full ↦ crowd (taken_back T x) (opponent f.colour) (back-crowd o T x f found full)
          | inl taken ↦
              let no_check : gives_check (trims n start) f.colour ≡ false = false_from_ne_true _ (λ h. both_ways _ (sym (ap (side_checks (trims n (taken_back T x))) found) ∙ calm) (check-too (trims n (taken_back T x)) (trims n start) narrow.0 narrow.1 sound f.colour h)) in
              let ok : is_sound (trims n start) f ≡ true = and_from _ _ (not_from_false _ calm_here) (not_from_false _ no_check) in
              from-trims n (subst (λ (S : Sketch). Refuted o held S) is (each _ (in-list (opened taken (ap (λ (S : Sketch). is_sound S f) is ∙ ok)))))
        ]
      ]
    ]
  ]

refuted-back : (o : List Bool) (held : Rights) (exact : List Bool) (T : Sketch) → HaveKinds T → ((e : Earlier) → Contains (earlier o exact T) e → Refuted o held e.sketch) → (x : Step) (p : Option Figure) → figure_at T x.by ≡ p → is_step exact T x ≡ true → side_checks (trims (rounds_by T p x) (taken_back T x)) (figure_at T x.by) ≡ false → Refuted o held (taken_back T x)
unfolding is_step rounds_by
refuted-back o held exact T some each x None found made calm = absurd (both_ways false refl (sym (ap (λ (p : Option Figure). made_by exact T p x) found) ∙ made))
refuted-back o held exact T some each x (Some f) found made calm = decide o held exact T some each x f found made (64 * length (recounted (figures_before T f (listed T f x)))) (before-is o held exact T some each x f found made) calm

-- the steps that are listed are enough
pub listed-enough : (o : List Bool) (held : Rights) (exact : List Bool) (T : Sketch) → IsClosed held exact T → may_be_array o T ≡ false → ((e : Earlier) → Contains (earlier o exact T) e → Refuted o held e.sketch) → Refuted o held T
listed-enough o held exact T closed away each = elim (cases_Bool (list_any (λ f. has_none f.kinds) T)) [
  | inl none ↦ let by = any-figure T (λ f. has_none f.kinds) none in kinds T by.number by.figure by.found (λ k may. absurd (none-may by.figure.kinds k by.passes may))
  | inr some ↦ steps T exact (λ x. rounds_by T (figure_at T x.by) x) closed away (λ x made calm. refuted-back o held exact T (have-kinds T some) each x (figure_at T x.by) refl made calm)
]
