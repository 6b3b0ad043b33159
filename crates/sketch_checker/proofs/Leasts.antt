-- Whether there is a least closed sketch above a sketch can be settled.
use Rattle.std.proofs.Common.{◌≡◌, ℕ, zero, suc, ◌-◌, ◌*◌, ◌<◌, ◌≤◌, ◌⊎◌, inl, inr, Bool, true, false, ◌||◌, not, List, [], ◌∷◌, length, map, refl, ap, sym, ◌∙◌, subst, arith}
use Rattle.std.proofs.lemmas.Bool.{both_ways, false_from_ne_true}
use Rattle.std.proofs.lemmas.Option.{same_Some}
use Rattle.std.specs.Prelude.{Some}
use Rattle.std.specs.List.{Contains, list_any}
use Rattle.general_lemmas.specs.Rounds.{after_rounds}
use Rattle.general_lemmas.proofs.Lists.{contains-cases, contains-first, contains-later, contains-none}
use Rattle.general_lemmas.proofs.Rounds.{rounds-keep, settles}
use Rattle.general_lemmas.proofs.Settling.{Settled}
use Rattle.board_base.specs.Board.{is_in}
use Rattle.board_base.specs.Rights.{Rights}
use Rattle.figures.specs.Clashes.{is_nowhere}
use Rattle.cage_rules.specs.Sets.{squares_that}
use Rattle.cage_rules.proofs.Filling.{in-that, is_in-that, length-that}
use Rattle.cage_rules.proofs.Tested.{all_board, at_board, member-inside}
use Rattle.figures.specs.Figures.{AreWider, Figure, IsWider, KeepsPlaces, Sketch, figure_at}
use Rattle.sketch_sets.specs.Leasts.{AreLike, IsClosedAbove}
use Rattle.sketch_sets.specs.Origins.{widened}
use Rattle.sketch_sets.specs.Remade.{AreWhole}
use Rattle.sketch_sets.proofs.Closing.{OnTheWay, map-at, under-widened, way-end, way-least, way-next, way-start, widened-whole}
use Rattle.sketch_sets.proofs.Sizes.{AreInside, inside-length, same-sets, smaller, total, total-most}
use Rattle.sketch_sets.proofs.Under.{AreUnder}
use Rattle.sketch_proof.specs.Nodes.{IsLeastAbove}

-- a sketch is inside one above it
inside-of : (T W : Sketch) → AreUnder T W → AreInside W T
inside-of [] [] u = tt
inside-of [] (g ∷ W) u = absurd u
inside-of (f ∷ T) [] u = absurd u
inside-of (f ∷ T) (g ∷ W) u =
    (((λ i. record { colour = u.0.colour i; kinds = u.0.kinds i; squares = f.squares; marked = u.0.marked i; place = u.0.place i }), u.0.squares), inside-of T W u.1)

-- how many squares may still be added
abbrev slack : Sketch → ℕ
slack T = 64 * length T - total T

-- a round leaves a sketch as it is, or leaves fewer squares to add
falls : (held : Rights) (exact : List Bool) (T : Sketch) → AreWhole T → (widened held exact T ≡ T) ⊎ (slack (widened held exact T) < slack T)
falls held exact T whole =
    let W : Sketch = widened held exact T in
    let inside : AreInside W T = inside-of T W (under-widened held exact T whole) in
    let size : length T ≡ length W = inside-length W T inside in
    let most : total W ≤ 64 * length W = total-most W (widened-whole held exact T) in
    elim (smaller W T (widened-whole held exact T) whole inside) [
      | inl same ↦ inl (sym (same-sets W T inside same))
      | inr less ↦ inr (omega (arith, size, most, less))
    ]

whole-told : (T : Sketch) → AreWhole T → (f : Figure) → Contains T f → length f.squares ≡ 64
whole-told [] w f there = absurd (contains-none f there)
whole-told (g ∷ T) w f there = elim (contains-cases g T f there) [
  | inl same ↦ ap (λ (x : Figure). length x.squares) (sym same) ∙ w.0
  | inr later ↦ whole-told T w.1 f later
]

-- it is what the rounds come to
pub least-some : (held : Rights) (exact : List Bool) (S : Sketch) → AreWhole S → (T : Sketch) × IsLeastAbove held exact S T
least-some held exact S whole =
    let first : Sketch = widened held exact S in
    let n : ℕ = slack first in
    let last : Sketch = after_rounds (widened held exact) n first in
    let on : OnTheWay held exact S last = rounds-keep (OnTheWay held exact S) (widened held exact) (λ T on. way-next held exact S T (widened held exact T) refl on) n first (way-start held exact S first whole refl) in
    let end : widened held exact last ≡ last = settles AreWhole (widened held exact) slack (λ T here. widened-whole held exact T) (falls held exact) n first (widened-whole held exact S) (omega arith) in
    (last, record { closed = way-end held exact S last on end; whole = whole-told last on.whole; least = way-least held exact S last on })

-- SQUARES BEYOND THE BOARD

-- the figure on his squares of the board alone
abbrev within : Figure → Figure
within f = record f { squares = squares_that (λ s. is_in f.squares s) }

abbrev cut : Sketch → Sketch
cut S = map within S

cut-whole : (S : Sketch) → AreWhole (cut S)
cut-whole [] = tt
cut-whole (f ∷ S) = (length-that (λ s. is_in f.squares s), cut-whole S)

-- he has no others, or one
inside-or : (l : List Bool) (k : ℕ) → ((s : ℕ) → is_in l s ≡ true → s < k) ⊎ ((s : ℕ) × (is_in l s ≡ true) × (k ≤ s))
inside-or [] k = inl (λ s member. cc)
inside-or (true ∷ l) zero = inr (0, refl, omega arith)
inside-or (false ∷ l) zero = elim (inside-or l 0) [
  | inl none ↦ inl (later none)
  | inr some ↦ inr (suc some.0, some.1, omega arith)
]
  where
    later : ((s : ℕ) → is_in l s ≡ true → s < 0) → (s : ℕ) → is_in (false ∷ l) s ≡ true → s < 0
    later none zero member = cc
    later none (suc s) member = let low = none s member in omega (arith, low)
inside-or (b ∷ l) (suc k) = elim (inside-or l k) [
  | inl all ↦ inl (later all)
  | inr some ↦ let past = some.2 in inr (suc some.0, some.1, omega (arith, past))
]
  where
    later : ((s : ℕ) → is_in l s ≡ true → s < k) → (s : ℕ) → is_in (b ∷ l) s ≡ true → s < suc k
    later all zero member = omega arith
    later all (suc s) member = let low = all s member in omega (arith, low)

abbrev AreInsideAll : Sketch → Type 0
AreInsideAll [] = Unit {0}
AreInsideAll (f ∷ S) = ((s : ℕ) → is_in f.squares s ≡ true → s < 64) × AreInsideAll S

record Beyond (S : Sketch) : Type 0 where
  number : ℕ
  figure : Figure
  there : figure_at S number ≡ Some figure
  square : ℕ
  member : is_in figure.squares square ≡ true
  past : 64 ≤ square

all-or : (S : Sketch) → AreInsideAll S ⊎ Beyond S
all-or [] = inl tt
all-or (f ∷ S) = elim (inside-or f.squares 64) [
  | inr some ↦ inr (record { number = 0; figure = f; there = refl; square = some.0; member = some.1; past = some.2 })
  | inl here ↦ elim (all-or S) [
    | inl rest ↦ inl (here, rest)
    | inr x ↦ inr (record { number = suc x.number; figure = x.figure; there = x.there; square = x.square; member = x.member; past = x.past })
  ]
]

wider-at : (S T : Sketch) (i : ℕ) (f : Figure) → AreWider S T → figure_at S i ≡ Some f → (g : Figure) × Contains T g × IsWider f g
wider-at [] T i f w e = cc
wider-at (h ∷ S) [] i f w e = absurd w
wider-at (h ∷ S) (g ∷ T) zero f w e = (g, contains-first g T, subst (λ (x : Figure). IsWider x g) (same_Some h f e) w.0)
wider-at (h ∷ S) (g ∷ T) (suc i) f w e = let x = wider-at S T i f w.1 e in (x.0, contains-later g T x.0 x.1, x.2)

beyond-none : (held : Rights) (exact : List Bool) (S T : Sketch) → Beyond S → IsLeastAbove held exact S T → ⊥
beyond-none held exact S T x least =
    let w = wider-at S T x.number x.figure least.closed.above.wider x.there in
    let low = member-inside w.0.squares x.square (least.whole w.0 w.1) (w.2.squares x.square x.member) in
    let past = x.past in
    omega (arith, low, past)

-- what is above the one is above the other

like-from : (S T : Sketch) → AreLike (cut S) T → AreLike S T
like-from [] [] l = tt
like-from [] (g ∷ T) l = absurd l
like-from (f ∷ S) [] l = absurd l
like-from (f ∷ S) (g ∷ T) l = (record { colour = l.0.colour; kinds = l.0.kinds; marked = l.0.marked; place = l.0.place }, like-from S T l.1)

like-to : (S T : Sketch) → AreLike S T → AreLike (cut S) T
like-to [] [] l = tt
like-to [] (g ∷ T) l = absurd l
like-to (f ∷ S) [] l = absurd l
like-to (f ∷ S) (g ∷ T) l = (record { colour = l.0.colour; kinds = l.0.kinds; marked = l.0.marked; place = l.0.place }, like-to S T l.1)

wider-from : (S T : Sketch) → AreInsideAll S → AreWider (cut S) T → AreWider S T
wider-from [] [] all w = tt
wider-from [] (g ∷ T) all w = absurd w
wider-from (f ∷ S) [] all w = absurd w
wider-from (f ∷ S) (g ∷ T) all w = (
  record {
    colour = w.0.colour;
    kinds = w.0.kinds;
    squares = λ s member. w.0.squares s (is_in-that (λ t. is_in f.squares t) s (all.0 s member) ∙ member);
    marked = w.0.marked;
  },
  wider-from S T all.1 w.1,
)

wider-to : (S T : Sketch) → AreWider S T → AreWider (cut S) T
wider-to [] [] w = tt
wider-to [] (g ∷ T) w = absurd w
wider-to (f ∷ S) [] w = absurd w
wider-to (f ∷ S) (g ∷ T) w = (
  record {
    colour = w.0.colour;
    kinds = w.0.kinds;
    squares = λ s member. w.0.squares s (in-that (λ t. is_in f.squares t) s member).1;
    marked = w.0.marked;
  },
  wider-to S T w.1,
)

at-cut : (S : Sketch) (i : ℕ) (f : Figure) → figure_at (cut S) i ≡ Some f → (g : Figure) × (figure_at S i ≡ Some g) × (within g ≡ f)
at-cut [] i f e = cc
at-cut (g ∷ S) zero f e = (g, refl, same_Some (within g) f e)
at-cut (g ∷ S) (suc i) f e = at-cut S i f e

places-from : (S T : Sketch) → KeepsPlaces (cut S) T → KeepsPlaces S T
places-from S T keeps i j f g f' g' a b c d low = keeps i j (within f) (within g) f' g' (map-at within S i f a) (map-at within S j g b) c d low

places-to : (S T : Sketch) → KeepsPlaces S T → KeepsPlaces (cut S) T
places-to S T keeps i j f g f' g' a b c d low =
    let x = at-cut S i f a in
    let y = at-cut S j g b in
    let first : x.0.place ≡ f.place = ap (λ (h : Figure). h.place) x.2 in
    let second : y.0.place ≡ g.place = ap (λ (h : Figure). h.place) y.2 in
    keeps i j x.0 y.0 f' g' x.1 y.1 c d (omega (arith, low, first, second))

still-nowhere : (f : Figure) → is_nowhere (within f) ≡ true → is_nowhere f ≡ true
still-nowhere f none = all_board (λ s. not (is_in f.squares s)) (λ s low. ap not (sym (is_in-that (λ t. is_in f.squares t) s low)) ∙ at_board (λ s. not (is_in (squares_that (λ t. is_in f.squares t)) s)) s none low)

both-false : (a b : Bool) → (a || b) ≡ false → (a ≡ false) × (b ≡ false)
both-false true b e = cc
both-false false b e = (refl, e)

pub none-or : (a b : Bool) → a ≡ false → b ≡ false → (a || b) ≡ false
none-or true b e f = e
none-or false b e f = f

somewhere-to : (S : Sketch) → list_any is_nowhere S ≡ false → list_any is_nowhere (cut S) ≡ false
somewhere-to [] none = refl
somewhere-to (f ∷ S) none =
    let both = both-false (is_nowhere f) (list_any is_nowhere S) none in
    none-or (is_nowhere (within f)) (list_any is_nowhere (cut S)) (false_from_ne_true _ (λ here. both_ways _ both.0 (still-nowhere f here))) (somewhere-to S both.1)

closed-to : (held : Rights) (exact : List Bool) (S U : Sketch) → IsClosedAbove held exact S U → IsClosedAbove held exact (cut S) U
closed-to held exact S U it = record { like = like-to S U it.like; above = record { wider = wider-to S U it.above.wider; places = places-to S U it.above.places }; closed = it.closed }

cut-least : (held : Rights) (exact : List Bool) (S T : Sketch) → AreInsideAll S → IsLeastAbove held exact (cut S) T → IsLeastAbove held exact S T
cut-least held exact S T all it = record {
  closed = record {
    like = like-from S T it.closed.like;
    above = record { wider = wider-from S T all it.closed.above.wider; places = places-from S T it.closed.above.places };
    closed = it.closed.closed;
  };
  whole = it.whole;
  least = λ some U above. it.least (somewhere-to S some) U (closed-to held exact S U above);
}

pub least-settled : (held : Rights) (exact : List Bool) (S : Sketch) → Settled ((T : Sketch) × IsLeastAbove held exact S T)
least-settled held exact S = elim (all-or S) [
  | inl all ↦ let x = least-some held exact (cut S) (cut-whole S) in inl (x.0, cut-least held exact S x.0 all x.1)
  | inr beyond ↦ inr (λ it. beyond-none held exact S it.0 beyond it.1)
]
