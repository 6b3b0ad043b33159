-- A round that changes nothing leaves a closed sketch, and each round stays below every closed sketch above with the same figures.
use Rattle.std.proofs.Common.{◌≡◌, ℕ, zero, suc, ◌+◌, ◌-◌, ◌*◌, ◌<◌, ◌≤◌, inl, inr, List, [], ◌∷◌, ◌++◌, take, get_or, Bool, true, false, ◌&&◌, ◌||◌, not, length, map, refl, ap, sym, ◌∙◌, subst, arith}
use Rattle.std.proofs.lemmas.Bool.{and_from, and_parts, both_ways, cases_Bool, or_cases, or_left, or_right, ltb-true, false_from_ne_true}
use Rattle.std.proofs.lemmas.List.{take_all, take_more}
use Rattle.std.proofs.lemmas.Option.{same_Some}
use Rattle.std.specs.Prelude.{Some}
use Rattle.std.specs.List.{list_all, list_any, range_with_len}
use Rattle.general_lemmas.proofs.Ranges.{any-found}
use Rattle.board_base.specs.Board.{is_in, same_kind}
use Rattle.board_base.specs.Rights.{Rights}
use Rattle.board_base.specs.declared.men.Colour.{Colour}
use Rattle.board_base.specs.declared.men.Kind.{Kind}
use Rattle.figures.proofs.Filling.{in-that, is_in-that, length-that}
use Rattle.figures.proofs.Tested.{any-told, member-inside}
use Rattle.figures.specs.Clashes.{is_nowhere}
use Rattle.figures.specs.Closed.{IsClosed, goes_past, has_room, is_loose, is_quiet_way, is_unguarded}
use Rattle.figures.specs.Figures.{AreWider, Figure, IsAbove, KeepsPlaces, Sketch, figure_at, may_be}
use Rattle.figures.proofs.Sketches.{figure-any, kind-any}
use Rattle.sketch_sets.specs.Leasts.{AreLike, IsClosedAbove}
use Rattle.sketch_sets.specs.Origins.{comes_from, is_origin, widened, widened_set}
use Rattle.sketch_sets.specs.Remade.{AreWhole, set_of, with_set}
use Rattle.sketch_sets.proofs.SixKinds.{any-kind}
use Rattle.sketch_sets.proofs.Sizes.{AreInside, inside-length, same-sets, smaller, total, total-most}
use Rattle.sketch_sets.proofs.Under.{AreSomewhere, AreUnder, IsUnder, above-at, below-at, quiet-more, room-more}

-- a quiet way begins on the board
quiet-low : (held : Rights) (T : Sketch) (c : Colour) (k : Kind) (e s : ℕ) → is_quiet_way held T c k e s ≡ true → e < 64
quiet-low held T c k e s h =
    let parts = and_parts (is_loose held T e s && goes_past T c k e s) (is_unguarded T c k e) h in
    ltb-true e 64 (and_parts _ _ (and_parts _ _ (and_parts (is_loose held T e s) (goes_past T c k e s) parts.0).0).0).0

pub map-at : (h : Figure → Figure) (T : Sketch) (i : ℕ) (f : Figure) → figure_at T i ≡ Some f → figure_at (map h T) i ≡ Some (h f)
map-at h [] i f e = cc
map-at h (g ∷ T) zero f e = ap (λ (x : Figure). Some (h x)) (same_Some g f e)
map-at h (g ∷ T) (suc i) f e = map-at h T i f e

whole-at : (T : Sketch) (i : ℕ) (f : Figure) → AreWhole T → figure_at T i ≡ Some f → length f.squares ≡ 64
whole-at [] i f w e = cc
whole-at (g ∷ T) zero f w e = ap (λ (x : Figure). length x.squares) (sym (same_Some g f e)) ∙ w.0
whole-at (g ∷ T) (suc i) f w e = whole-at T i f w.1 e

-- who comes to a square of a figure has his origin in its widened set
origin-in : (held : Rights) (exact : List Bool) (T : Sketch) (f : Figure) (k : Kind) (e s : ℕ) → s < 64 → may_be f k ≡ true → is_in f.squares s ≡ true → is_quiet_way held T f.colour k e s ≡ true → has_room exact T f k e ≡ true → is_in (widened_set held exact T f) e ≡ true
unfolding widened_set is_origin comes_from
origin-in held exact T f k e s low may member quiet room =
    let p : ℕ → Bool = λ s. is_in f.squares s && is_quiet_way held T f.colour k e s in
    let some : list_any p (range_with_len 0 64) ≡ true = any-found p 0 64 s (omega arith) low (and_from _ _ member quiet) in
    let q : Kind → Bool = λ k. has_room exact T f k e && list_any (λ s. is_in f.squares s && is_quiet_way held T f.colour k e s) (range_with_len 0 64) in
    is_in-that (λ e. is_in f.squares e || is_origin held exact T f e) e (quiet-low held T f.colour k e s quiet) ∙ or_right _ _ (kind-any f.kinds q k may (and_from _ _ room some))

pub fixed-closed : (held : Rights) (exact : List Bool) (T : Sketch) → AreWhole T → widened held exact T ≡ T → IsClosed held exact T
fixed-closed held exact T whole same i f k e s found may member quiet room =
    let low : s < 64 = member-inside f.squares s (whole-at T i f whole found) member in
    let there : figure_at T i ≡ Some (with_set (widened_set held exact T) f) = ap (λ (S : Sketch). figure_at S i) (sym same) ∙ map-at (with_set (widened_set held exact T)) T i f found in
    let is : with_set (widened_set held exact T) f ≡ f = same_Some _ _ (sym there ∙ found) in
    ap (λ (g : Figure). is_in g.squares e) (sym is) ∙ origin-in held exact T f k e s low may member quiet room

-- a round stays below a closed sketch
pub stays-under : (held : Rights) (exact : List Bool) (T U : Sketch) → AreUnder T U → AreSomewhere T → IsClosed held exact U → (i : ℕ) (f g : Figure) → figure_at U i ≡ Some g → IsUnder f g → (e : ℕ) → is_in (widened_set held exact T f) e ≡ true → is_in g.squares e ≡ true
unfolding widened_set is_origin comes_from
stays-under held exact T U under somewhere closed i f g found over e member =
    let it = in-that (λ e. is_in f.squares e || is_origin held exact T f e) e member in
    elim (or_cases (is_in f.squares e) (is_origin held exact T f e) it.1) [
      | inl his ↦ over.squares e his
      | inr origin ↦
          let q : Kind → Bool = λ k. has_room exact T f k e && list_any (λ s. is_in f.squares s && is_quiet_way held T f.colour k e s) (range_with_len 0 64) in
          let by = any-kind f.kinds q origin in
          let k : Kind = by.0 in
          let p : ℕ → Bool = λ s. is_in f.squares s && is_quiet_way held T f.colour k e s in
          let parts = and_parts (has_room exact T f k e) (list_any p (range_with_len 0 64)) by.2 in
          let some = any-told p 0 64 parts.1 in
          let s : ℕ = some.0 in
          let here = and_parts (is_in f.squares s) (is_quiet_way held T f.colour k e s) some.2 in
          let quiet : is_quiet_way held T g.colour k e s ≡ true = ap (λ (c : Colour). is_quiet_way held T c k e s) (sym over.colour) ∙ here.1 in
          closed i g k e s found
          (ap (λ (l : List Kind). list_any (λ j. same_kind j k) l) (sym over.kinds) ∙ by.1)
          (over.squares s here.0)
          (quiet-more T U under somewhere held g.colour k e s quiet)
          (room-more T U under somewhere exact f g k e over.place parts.0)
    ]

under-rest : (h : Figure → List Bool) (S V U : Sketch) → AreUnder S V → ((i : ℕ) (f g : Figure) → figure_at S i ≡ Some f → figure_at V i ≡ Some g → IsUnder f g → (e : ℕ) → is_in (h f) e ≡ true → is_in g.squares e ≡ true) → AreUnder (map (with_set h) S) V
under-rest h [] [] U u each = tt
under-rest h [] (g ∷ V) U u each = absurd u
under-rest h (f ∷ S) [] U u each = absurd u
under-rest h (f ∷ S) (g ∷ V) U u each = (record { colour = u.0.colour; kinds = u.0.kinds; marked = u.0.marked; place = u.0.place; squares = λ s member. each 0 f g refl refl u.0 s member }, under-rest h S V U u.1 (λ i f g a b over e member. each (suc i) f g a b over e member))

pub widened-under : (held : Rights) (exact : List Bool) (T U : Sketch) → AreUnder T U → AreSomewhere T → IsClosed held exact U → AreUnder (widened held exact T) U
widened-under held exact T U under somewhere closed = under-rest (widened_set held exact T) T U U under (λ i f g there found over e member. stays-under held exact T U under somewhere closed i f g found over e member)

-- the figures stay the same, and keep their squares
more-in : (held : Rights) (exact : List Bool) (T : Sketch) (f : Figure) (s : ℕ) → length f.squares ≡ 64 → is_in f.squares s ≡ true → is_in (widened_set held exact T f) s ≡ true
unfolding widened_set
more-in held exact T f s size member = is_in-that (λ e. is_in f.squares e || is_origin held exact T f e) s (member-inside f.squares s size member) ∙ or_left _ _ member

under-each : (held : Rights) (exact : List Bool) (T S : Sketch) → AreWhole S → AreUnder S (map (with_set (widened_set held exact T)) S)
under-each held exact T [] w = tt
under-each held exact T (f ∷ S) w = (record { colour = refl; kinds = refl; marked = refl; place = refl; squares = λ s member. more-in held exact T f s w.0 member }, under-each held exact T S w.1)

pub under-widened : (held : Rights) (exact : List Bool) (T : Sketch) → AreWhole T → AreUnder T (widened held exact T)
under-widened held exact T whole = under-each held exact T T whole

whole-each : (held : Rights) (exact : List Bool) (T S : Sketch) → AreWhole (map (with_set (widened_set held exact T)) S)
unfolding widened_set
whole-each held exact T [] = tt
whole-each held exact T (f ∷ S) = (length-that (λ e. is_in f.squares e || is_origin held exact T f e), whole-each held exact T S)

pub widened-whole : (held : Rights) (exact : List Bool) (T : Sketch) → AreWhole (widened held exact T)
widened-whole held exact T = whole-each held exact T T

under-trans : (f g h : Figure) → IsUnder f g → IsUnder g h → IsUnder f h
under-trans f g h a b = record { colour = a.colour ∙ b.colour; kinds = a.kinds ∙ b.kinds; marked = a.marked ∙ b.marked; place = a.place ∙ b.place; squares = λ s member. b.squares s (a.squares s member) }

pub all-under : (S T U : Sketch) → AreUnder S T → AreUnder T U → AreUnder S U
all-under [] [] [] a b = tt
all-under [] [] (h ∷ U) a b = absurd b
all-under [] (g ∷ T) U a b = absurd a
all-under (f ∷ S) [] U a b = absurd a
all-under (f ∷ S) (g ∷ T) [] a b = absurd b
all-under (f ∷ S) (g ∷ T) (h ∷ U) a b = (under-trans f g h a.0 b.0, all-under S T U a.1 b.1)

pub somewhere-above : (S T : Sketch) → AreUnder S T → AreSomewhere S → AreSomewhere T
somewhere-above S T under some i g found =
    let low = below-at S T i g under found in
    let on = some i low.figure low.found in
    (on.0, on.1, low.under.squares on.0 on.2)

-- as the clauses say it
pub like-under : (S T : Sketch) → AreUnder S T → AreLike S T
like-under [] [] u = tt
like-under [] (g ∷ T) u = absurd u
like-under (f ∷ S) [] u = absurd u
like-under (f ∷ S) (g ∷ T) u = (record { colour = u.0.colour; kinds = u.0.kinds; marked = u.0.marked; place = u.0.place }, like-under S T u.1)

wider-under : (S T : Sketch) → AreUnder S T → AreWider S T
wider-under [] [] u = tt
wider-under [] (g ∷ T) u = absurd u
wider-under (f ∷ S) [] u = absurd u
wider-under (f ∷ S) (g ∷ T) u = (record { colour = u.0.colour; kinds = λ k h. ap (λ (l : List Kind). list_any (λ j. same_kind j k) l) (sym u.0.kinds) ∙ h; squares = u.0.squares; marked = λ h. u.0.marked ∙ h }, wider-under S T u.1)

places-kept : (S T : Sketch) → AreUnder S T → KeepsPlaces S T
places-kept S T under i j f g f' g' a b c d low =
    let one = above-at S T i f under a in
    let two = above-at S T j g under b in
    let left : one.figure ≡ f' = same_Some _ _ (sym one.found ∙ c) in
    let right : two.figure ≡ g' = same_Some _ _ (sym two.found ∙ d) in
    let lp : f.place ≡ f'.place = one.under.place ∙ ap (λ (x : Figure). x.place) left in
    let rp : g.place ≡ g'.place = two.under.place ∙ ap (λ (x : Figure). x.place) right in
    omega arith

pub above-under : (S T : Sketch) → AreUnder S T → IsAbove S T
above-under S T under = record { wider = wider-under S T under; places = places-kept S T under }

pub under-from : (S T : Sketch) → AreLike S T → AreWider S T → AreUnder S T
under-from [] [] l w = tt
under-from [] (g ∷ T) l w = absurd l
under-from (f ∷ S) [] l w = absurd l
under-from (f ∷ S) (g ∷ T) l w = (record { colour = l.0.colour; kinds = l.0.kinds; marked = l.0.marked; place = l.0.place; squares = w.0.squares }, under-from S T l.1 w.1)

-- rounds
inside-each : (held : Rights) (exact : List Bool) (T S : Sketch) → AreWhole S → AreInside (map (with_set (widened_set held exact T)) S) S
inside-each held exact T [] w = tt
inside-each held exact T (f ∷ S) w = ((refl, λ s member. more-in held exact T f s w.0 member), inside-each held exact T S w.1)

-- how many squares may still be added
pub gap : Sketch → ℕ
gap T = 64 * length T - total T

pub gap-less : (held : Rights) (exact : List Bool) (T more : Sketch) → AreWhole T → more ≡ widened held exact T → (map set_of T ≡ map set_of more → ⊥) → gap more < gap T
unfolding gap
gap-less held exact T more whole e other =
    let W : Sketch = widened held exact T in
    let inside : AreInside W T = inside-each held exact T T whole in
    let size : length T ≡ length W = inside-length W T inside in
    let most : total W ≤ 64 * length W = total-most W (widened-whole held exact T) in
    subst (λ (M : Sketch). 64 * length M - total M < 64 * length T - total T) (sym e) (elim (smaller W T (widened-whole held exact T) whole inside) [
      | inl same ↦ absurd (other (sym same ∙ ap (map set_of) (sym e)))
      | inr less ↦ omega (arith, size, most, less)
    ])

pub widened-length : (held : Rights) (exact : List Bool) (T more : Sketch) → AreWhole T → more ≡ widened held exact T → length T ≡ length more
widened-length held exact T more whole e = inside-length (widened held exact T) T (inside-each held exact T T whole) ∙ ap length (sym e)

pub widened-same : (held : Rights) (exact : List Bool) (T more : Sketch) → AreWhole T → more ≡ widened held exact T → map set_of T ≡ map set_of more → widened held exact T ≡ T
widened-same held exact T more whole e same = sym (same-sets (widened held exact T) T (inside-each held exact T T whole) (sym (same ∙ ap (map set_of) e)))

-- no figure is nowhere
out-every : (p : ℕ → Bool) (k n : ℕ) → list_all (λ s. not (p s)) (range_with_len k n) ≡ false → list_any p (range_with_len k n) ≡ true
out-every p k zero h = cc
out-every p k (suc n) h = elim (cases_Bool (p k)) [
  | inl here ↦ or_left _ _ here
  | inr out ↦ or_right _ _ (out-every p (k + 1) n (ap (λ (b : Bool). not b && list_all (λ s. not (p s)) (range_with_len (k + 1) n)) (sym out) ∙ h))
]

pub somewhere-from : (S : Sketch) → list_any is_nowhere S ≡ false → AreSomewhere S
somewhere-from S none i f found =
    let here : is_nowhere f ≡ false = false_from_ne_true (is_nowhere f) (λ h. both_ways _ none (figure-any S is_nowhere i f found h)) in
    any-told (is_in f.squares) 0 64 (out-every (is_in f.squares) 0 64 here)

-- what is known of a sketch on the way
pub record OnTheWay (held : Rights) (exact : List Bool) (S T : Sketch) : Type 0 where
  pub whole : AreWhole T
  pub under : AreUnder S T
  pub least : AreSomewhere S → (U : Sketch) → AreUnder S U → IsClosed held exact U → AreUnder T U

pub way-start : (held : Rights) (exact : List Bool) (S T : Sketch) → AreWhole S → T ≡ widened held exact S → OnTheWay held exact S T
way-start held exact S T whole e = subst (OnTheWay held exact S) (sym e) (record {
  whole = widened-whole held exact S;
  under = under-widened held exact S whole;
  least = λ some U u closed. widened-under held exact S U u some closed;
})

pub way-next : (held : Rights) (exact : List Bool) (S T more : Sketch) → more ≡ widened held exact T → OnTheWay held exact S T → OnTheWay held exact S more
way-next held exact S T more e on = subst (OnTheWay held exact S) (sym e) (record {
  whole = widened-whole held exact T;
  under = all-under S T (widened held exact T) on.under (under-widened held exact T on.whole);
  least = λ some U u closed. widened-under held exact T U (on.least some U u closed) (somewhere-above S T on.under some) closed;
})

pub way-end : (held : Rights) (exact : List Bool) (S T : Sketch) → OnTheWay held exact S T → widened held exact T ≡ T → IsClosedAbove held exact S T
way-end held exact S T on same = record { like = like-under S T on.under; above = above-under S T on.under; closed = fixed-closed held exact T on.whole same }

pub way-least : (held : Rights) (exact : List Bool) (S T : Sketch) → OnTheWay held exact S T → list_any is_nowhere S ≡ false → (U : Sketch) → IsClosedAbove held exact S U → IsAbove T U
way-least held exact S T on some U it = above-under T U (on.least (somewhere-from S some) U (under-from S U it.like it.above.wider) it.closed)

-- sets, figure by figure
whole-push : (S : Sketch) (f : Figure) → AreWhole S → length f.squares ≡ 64 → AreWhole (S ++ f ∷ [])
whole-push [] f w size = (size, tt)
whole-push (g ∷ S) f w size = (w.0, whole-push S f w.1 size)

pub whole-more : (S : Sketch) (i : ℕ) (f : Figure) → i < length S → f ≡ get_or S i f → length f.squares ≡ 64 → AreWhole (take i S) → AreWhole (take (i + 1) S)
whole-more S i f low e size w = subst AreWhole (sym (take_more S i f low)) (subst (λ (g : Figure). AreWhole (take i S ++ g ∷ [])) e (whole-push (take i S) f w size))

pub whole-all : (S : Sketch) (i : ℕ) → length S ≤ i → AreWhole (take i S) → AreWhole S
whole-all S i past w = subst AreWhole (take_all i S past) w
