-- The whole-set tests tell of each square whether its man is caged.
use Rattle.std.proofs.Common.{◌≡◌, ℕ, ◌<◌, ◌⊎◌, inl, inr, Bool, true, false, ◌&&◌, ◌||◌, not, List, length, refl, ap, sym, ◌∙◌, subst}
use Rattle.std.proofs.lemmas.Bool.{and_parts, and_from, or_cases, or_left, or_right, not-true, not_from_false, both_ways, cases_Bool, false_from_ne_true}
use Rattle.std.specs.Prelude.{Option, Some, None}
use Rattle.board_base.specs.Board.{Places, at, is_empty, is_in, same_colour, same_kind}
use Rattle.board_base.specs.declared.men.Man.{Man}
use Rattle.board_base.specs.declared.men.Colour.{Colour}
use Rattle.board_base.specs.declared.men.Colour.TheVariants.{White, Black}
use Rattle.board_base.specs.declared.men.Kind.{Kind}
use Rattle.board_base.specs.declared.men.Kind.TheVariants.{Pawn, Knight, Bishop, Rook, Queen, King}
use Rattle.board_base.proofs.KindsOfMen.{colour_is, same_colour-self}
use Rattle.query_base.specs.Asked.{Asked}
use Rattle.cage_rules.specs.Frozen.{IsCaged, is_before_promotion, is_behind, is_entry, is_held_home, may_enter}
use Rattle.cage_rules.specs.declared.ways.Ways.{Ways}
use Rattle.cage_rules.specs.Sets.{squares_that, union}
use Rattle.cage_rules.specs.Steps.{is_diagonal_step, is_knight_step, is_line_step, is_near, near}
use Rattle.cage_rules.specs.SetSteps.{both, outside}
use Rattle.cage_rules.specs.Tests.{as_pawn, came_as_pawn, is_kind, is_loose, kept, loose, on_diagonals, on_lines, stays, ways_of}
use Rattle.cage_rules.proofs.Adjacent.{next-step}
use Rattle.cage_rules.proofs.Filling.{in-that, is_in-that, length-that}
use Rattle.cage_rules.proofs.Must.{must-tells, must-told}
use Rattle.cage_rules.proofs.Near.{is_in-near, near-tells, near-told}
use Rattle.cage_rules.proofs.SetAlgebra.{is_in-both, is_in-outside, is_in-union, length-both, that-is, union-that}

or-none : (a : Bool) → a ≡ (a || false)
or-none true = refl
or-none false = refl

-- the ways in which a man may have come, one by one
abbrev by_way : Colour → Kind → ℕ → ℕ → Bool
by_way c k s t = on_lines k && is_line_step s t || on_diagonals k && is_diagonal_step s t || same_kind Knight k && is_knight_step s t || as_pawn c k s && is_behind c s t

entry-way : (c : Colour) (k : Kind) (s t : ℕ) → is_entry c k s t ≡ by_way c k s t
unfolding is_entry as_pawn
entry-way c Pawn s t = refl
entry-way c Knight s t = refl
entry-way c Bishop s t = ap (λ (x : Bool). x || is_before_promotion c s t) (or-none (is_diagonal_step s t))
entry-way c Rook s t = ap (λ (x : Bool). x || is_before_promotion c s t) (or-none (is_line_step s t) ∙ or-none (is_line_step s t || false))
entry-way c Queen s t = ap (λ (x : Bool). x || is_before_promotion c s t) (sym (next-step s t) ∙ or-none (is_line_step s t || is_diagonal_step s t))
entry-way c King s t = sym (next-step s t) ∙ or-none (is_line_step s t || is_diagonal_step s t) ∙ or-none (is_line_step s t || is_diagonal_step s t || false)

line-enters : (place : Option Man) (s t : ℕ) → is_kind on_lines place ≡ true → is_line_step s t ≡ true → may_enter place s t ≡ true
line-enters None s t h step = absurd (both_ways false refl h)
line-enters (Some m) s t h step = entry-way m.colour m.kind s t ∙ or_left _ (as_pawn m.colour m.kind s && is_behind m.colour s t) (or_left _ (same_kind Knight m.kind && is_knight_step s t) (or_left _ (on_diagonals m.kind && is_diagonal_step s t) (and_from _ _ h step)))

diagonal-enters : (place : Option Man) (s t : ℕ) → is_kind on_diagonals place ≡ true → is_diagonal_step s t ≡ true → may_enter place s t ≡ true
diagonal-enters None s t h step = absurd (both_ways false refl h)
diagonal-enters (Some m) s t h step = entry-way m.colour m.kind s t ∙ or_left _ (as_pawn m.colour m.kind s && is_behind m.colour s t) (or_left _ (same_kind Knight m.kind && is_knight_step s t) (or_right (on_lines m.kind && is_line_step s t) _ (and_from _ _ h step)))

knight-enters : (place : Option Man) (s t : ℕ) → is_kind (same_kind Knight) place ≡ true → is_knight_step s t ≡ true → may_enter place s t ≡ true
knight-enters None s t h step = absurd (both_ways false refl h)
knight-enters (Some m) s t h step = entry-way m.colour m.kind s t ∙ or_left _ (as_pawn m.colour m.kind s && is_behind m.colour s t) (or_right (on_lines m.kind && is_line_step s t || on_diagonals m.kind && is_diagonal_step s t) _ (and_from _ _ h step))

pawn-enters : (c : Colour) (place : Option Man) (s t : ℕ) → came_as_pawn c place s ≡ true → is_behind c s t ≡ true → may_enter place s t ≡ true
pawn-enters c None s t h step = absurd (both_ways false refl h)
pawn-enters c (Some m) s t h step =
    let parts = and_parts (same_colour c m.colour) (as_pawn c m.kind s) h in
    let so : (as_pawn c m.kind s && is_behind c s t) ≡ true = and_from _ _ parts.1 step in
    entry-way m.colour m.kind s t
    ∙ or_right (on_lines m.kind && is_line_step s t || on_diagonals m.kind && is_diagonal_step s t || same_kind Knight m.kind && is_knight_step s t) _
    (subst (λ (d : Colour). (as_pawn d m.kind s && is_behind d s t) ≡ true) (colour_is c m.colour parts.0) so)

-- a square outside the set from which, or over which, the man on s may have come
record Way (board : Places) (set : List Bool) (s : ℕ) : Type 0 where
  square : ℕ
  inside : square < 64
  enters : may_enter (at board s) s square ≡ true
  open_there : is_in set square ≡ false

way-from : (p : ℕ → ℕ → Bool) (board : Places) (set : List Bool) (s : ℕ) → is_near p (outside set) s ≡ true → ((t : ℕ) → p s t ≡ true → may_enter (at board s) s t ≡ true) → Way board set s
way-from p board set s h enters =
    let from = near-told p (outside set) s h in
    record { square = from.square; inside = from.inside; enters = enters from.square from.placed; open_there = not-true _ (sym (is_in-outside set from.square from.inside) ∙ from.member) }

near-from : (p : ℕ → ℕ → Bool) (set : List Bool) (s t : ℕ) → t < 64 → is_in set t ≡ false → p s t ≡ true → is_near p (outside set) s ≡ true
near-from p set s t inside out placed = near-tells p (outside set) s (record { square = t; inside = inside; placed = placed; member = is_in-outside set t inside ∙ not_from_false _ out })

-- the five parts of the test
abbrev part : (ℕ → Bool) → (ℕ → ℕ → Bool) → List Bool → ℕ → Bool
part p step set s = is_in (squares_that p) s && is_near step (outside set) s

part-told : (p : ℕ → Bool) (step : ℕ → ℕ → Bool) (board : Places) (set : List Bool) (s : ℕ) → s < 64 → ((t : ℕ) → p s ≡ true → step s t ≡ true → may_enter (at board s) s t ≡ true) → part p step set s ≡ true → Way board set s
part-told p step board set s inside enters h =
    let parts = and_parts (is_in (squares_that p) s) (is_near step (outside set) s) h in
    way-from step board set s parts.1 (λ t placed. enters t (sym (is_in-that p s inside) ∙ parts.0) placed)

part-tells : (p : ℕ → Bool) (step : ℕ → ℕ → Bool) (set : List Bool) (s t : ℕ) → s < 64 → t < 64 → is_in set t ≡ false → p s ≡ true → step s t ≡ true → part p step set s ≡ true
part-tells p step set s t inside on out h placed = and_from _ _ (is_in-that p s inside ∙ h) (near-from step set s t on out placed)

loose-told : (q : Asked) (set : List Bool) (s : ℕ) → s < 64 → is_loose (ways_of q) set s ≡ true → Way q.board set s
loose-told q set s inside h =
    let place : ℕ → Option Man = λ i. at q.board i in
    let lines : Bool = part (λ i. is_kind on_lines (place i)) is_line_step set s in
    let diagonals : Bool = part (λ i. is_kind on_diagonals (place i)) is_diagonal_step set s in
    let knights : Bool = part (λ i. is_kind (same_kind Knight) (place i)) is_knight_step set s in
    let white : Bool = part (λ i. came_as_pawn White (place i) i) (is_behind White) set s in
    let black : Bool = part (λ i. came_as_pawn Black (place i) i) (is_behind Black) set s in
    elim (or_cases (lines || diagonals || knights) (white || black) h) [
      | inl piece ↦ elim (or_cases (lines || diagonals) knights piece) [
        | inl far ↦ elim (or_cases lines diagonals far) [
          | inl first ↦ part-told (λ i. is_kind on_lines (place i)) is_line_step q.board set s inside (λ t. line-enters (place s) s t) first
          | inr second ↦ part-told (λ i. is_kind on_diagonals (place i)) is_diagonal_step q.board set s inside (λ t. diagonal-enters (place s) s t) second
        ]
        | inr third ↦ part-told (λ i. is_kind (same_kind Knight) (place i)) is_knight_step q.board set s inside (λ t. knight-enters (place s) s t) third
      ]
      | inr pawn ↦ elim (or_cases white black pawn) [
        | inl fourth ↦ part-told (λ i. came_as_pawn White (place i) i) (is_behind White) q.board set s inside (λ t. pawn-enters White (place s) s t) fourth
        | inr fifth ↦ part-told (λ i. came_as_pawn Black (place i) i) (is_behind Black) q.board set s inside (λ t. pawn-enters Black (place s) s t) fifth
      ]
    ]

-- the man is of his own colour
pawn-colour : (set : List Bool) (board : Places) (m : Man) (c : Colour) (s t : ℕ) → m.colour ≡ c → at board s ≡ Some m → s < 64 → t < 64 → is_in set t ≡ false → as_pawn m.colour m.kind s ≡ true → is_behind m.colour s t ≡ true → part (λ i. came_as_pawn c (at board i) i) (is_behind c) set s ≡ true
pawn-colour set board m c s t e here inside on out pawn behind =
    part-tells (λ i. came_as_pawn c (at board i) i) (is_behind c) set s t inside on out
    (ap (λ (p : Option Man). came_as_pawn c p s) here ∙ and_from (same_colour c m.colour) (as_pawn c m.kind s) (subst (λ (d : Colour). same_colour d m.colour ≡ true) e (same_colour-self m.colour)) (subst (λ (d : Colour). as_pawn d m.kind s ≡ true) e pawn))
    (subst (λ (d : Colour). is_behind d s t ≡ true) e behind)

pawn-side : (set : List Bool) (board : Places) (m : Man) (c : Colour) (s t : ℕ) → m.colour ≡ c → at board s ≡ Some m → s < 64 → t < 64 → is_in set t ≡ false → as_pawn m.colour m.kind s ≡ true → is_behind m.colour s t ≡ true → (part (λ i. came_as_pawn White (at board i) i) (is_behind White) set s || part (λ i. came_as_pawn Black (at board i) i) (is_behind Black) set s) ≡ true
pawn-side set board m White s t e here inside on out pawn behind = or_left _ (part (λ i. came_as_pawn Black (at board i) i) (is_behind Black) set s) (pawn-colour set board m White s t e here inside on out pawn behind)
pawn-side set board m Black s t e here inside on out pawn behind = or_right (part (λ i. came_as_pawn White (at board i) i) (is_behind White) set s) _ (pawn-colour set board m Black s t e here inside on out pawn behind)

loose-tells : (q : Asked) (set : List Bool) (s t : ℕ) (place : Option Man) → at q.board s ≡ place → s < 64 → t < 64 → may_enter place s t ≡ true → is_in set t ≡ false → is_loose (ways_of q) set s ≡ true
loose-tells q set s t None here inside on enters out = absurd (both_ways false refl enters)
loose-tells q set s t (Some m) here inside on enters out =
    let board : Places = q.board in
    let lines : Bool = part (λ i. is_kind on_lines (at board i)) is_line_step set s in
    let diagonals : Bool = part (λ i. is_kind on_diagonals (at board i)) is_diagonal_step set s in
    let knights : Bool = part (λ i. is_kind (same_kind Knight) (at board i)) is_knight_step set s in
    let white : Bool = part (λ i. came_as_pawn White (at board i) i) (is_behind White) set s in
    let black : Bool = part (λ i. came_as_pawn Black (at board i) i) (is_behind Black) set s in
    let ways : by_way m.colour m.kind s t ≡ true = sym (entry-way m.colour m.kind s t) ∙ enters in
    elim (or_cases (on_lines m.kind && is_line_step s t || on_diagonals m.kind && is_diagonal_step s t || same_kind Knight m.kind && is_knight_step s t) (as_pawn m.colour m.kind s && is_behind m.colour s t) ways) [
      | inl piece ↦ or_left (lines || diagonals || knights) (white || black) (elim (or_cases (on_lines m.kind && is_line_step s t || on_diagonals m.kind && is_diagonal_step s t) (same_kind Knight m.kind && is_knight_step s t) piece) [
        | inl far ↦ or_left (lines || diagonals) knights (elim (or_cases (on_lines m.kind && is_line_step s t) (on_diagonals m.kind && is_diagonal_step s t) far) [
          | inl first ↦ let parts = and_parts _ _ first in or_left lines diagonals (part-tells (λ i. is_kind on_lines (at board i)) is_line_step set s t inside on out (ap (is_kind on_lines) here ∙ parts.0) parts.1)
          | inr second ↦ let parts = and_parts _ _ second in or_right lines diagonals (part-tells (λ i. is_kind on_diagonals (at board i)) is_diagonal_step set s t inside on out (ap (is_kind on_diagonals) here ∙ parts.0) parts.1)
        ])
        | inr third ↦ let parts = and_parts _ _ third in or_right (lines || diagonals) knights (part-tells (λ i. is_kind (same_kind Knight) (at board i)) is_knight_step set s t inside on out (ap (is_kind (same_kind Knight)) here ∙ parts.0) parts.1)
      ])
      | inr pawn ↦ let parts = and_parts _ _ pawn in or_right (lines || diagonals || knights) (white || black) (pawn-side set board m m.colour s t refl here inside on out parts.0 parts.1)
    ]

caged-told : (q : Asked) (set : List Bool) (s : ℕ) → s < 64 → is_loose (ways_of q) set s ≡ false → IsCaged q.board set s
caged-told q set s inside firm t must = elim (cases_Bool (is_in set t)) [
  | inl member ↦ member
  | inr out ↦ let here = must-told q.board s t must in absurd (both_ways _ firm (loose-tells q set s t (at q.board s) refl inside here.0 here.1 out))
]

caged-tells : (q : Asked) (set : List Bool) (s : ℕ) → s < 64 → IsCaged q.board set s → is_loose (ways_of q) set s ≡ false
caged-tells q set s inside caged = false_from_ne_true _ (λ h.
    let way = loose-told q set s inside h in
    both_ways _ way.open_there (caged way.square (must-tells q.board s way.square way.inside way.enters)))

-- a square that stays: what is known of it
pub record Still (q : Asked) (set : List Bool) (s : ℕ) : Type 0 where
  pub occupied : is_empty (at q.board s) ≡ false
  pub caged : (is_held_home q.held s ≡ true) ⊎ IsCaged q.board set s

pub length-kept : (q : Asked) (set : List Bool) → length (kept (ways_of q) set) ≡ 64
unfolding kept
length-kept q set = length-that (stays (ways_of q) set)

pub kept-told : (q : Asked) (set : List Bool) (s : ℕ) → is_in (kept (ways_of q) set) s ≡ true → (is_in set s ≡ true) × Still q set s
unfolding kept
kept-told q set s member =
    let here = in-that (stays (ways_of q) set) s member in
    let inside : s < 64 = here.0 in
    let parts = and_parts (is_in set s && is_in (squares_that (λ i. not (is_empty (at q.board i)))) s) _ here.1 in
    let two = and_parts (is_in set s) (is_in (squares_that (λ i. not (is_empty (at q.board i)))) s) parts.0 in (
      two.0,
      record {
        occupied = not-true _ (sym (is_in-that (λ i. not (is_empty (at q.board i))) s inside) ∙ two.1);
        caged = elim (or_cases (is_in (squares_that (is_held_home q.held)) s) (not (is_loose (ways_of q) set s)) parts.1) [
          | inl home ↦ inl (sym (is_in-that (is_held_home q.held) s inside) ∙ home)
          | inr firm ↦ inr (caged-told q set s inside (not-true _ firm))
        ];
      },
    )

pub kept-tells : (q : Asked) (set : List Bool) (s : ℕ) → s < 64 → is_in set s ≡ true → Still q set s → is_in (kept (ways_of q) set) s ≡ true
unfolding kept
kept-tells q set s inside member still =
    is_in-that (stays (ways_of q) set) s inside
    ∙ and_from _ _
    (and_from _ _ member (is_in-that (λ i. not (is_empty (at q.board i))) s inside ∙ not_from_false _ still.occupied))
    (elim still.caged [
      | inl home ↦ or_left (is_in (squares_that (is_held_home q.held)) s) (not (is_loose (ways_of q) set s)) (is_in-that (is_held_home q.held) s inside ∙ home)
      | inr caged ↦ or_right (is_in (squares_that (is_held_home q.held)) s) (not (is_loose (ways_of q) set s)) (not_from_false _ (caged-tells q set s inside caged))
    ])

-- how these sets are made of whole sets
part-made : (found : List Bool) (step : ℕ → ℕ → Bool) (set : List Bool) → both found (near step (outside set)) ≡ squares_that (λ s. is_in found s && is_near step (outside set) s)
part-made found step set =
    that-is (λ s. is_in found s && is_near step (outside set) s) (both found (near step (outside set))) (length-both found (near step (outside set))) (λ s inside.
    is_in-both found (near step (outside set)) s inside ∙ ap (λ (x : Bool). is_in found s && x) (is_in-near step (outside set) s inside))

pub joined : (a b : List Bool) (p r : ℕ → Bool) → a ≡ squares_that p → b ≡ squares_that r → union a b ≡ squares_that (λ s. p s || r s)
joined a b p r ea eb = ap (λ (l : List Bool). union l b) ea ∙ ap (union (squares_that p)) eb ∙ union-that p r

pub loose-made : (w : Ways) (set : List Bool) → union (union (union (both w.lines (near is_line_step (outside set))) (both w.diagonals (near is_diagonal_step (outside set)))) (both w.knights (near is_knight_step (outside set)))) (union (both w.white_pawns (near (is_behind White) (outside set))) (both w.black_pawns (near (is_behind Black) (outside set)))) ≡ loose w set
unfolding loose
loose-made w set =
    let open_ : (ℕ → ℕ → Bool) → ℕ → Bool = λ step s. is_near step (outside set) s in
    joined _ _ (λ s. is_in w.lines s && open_ is_line_step s || is_in w.diagonals s && open_ is_diagonal_step s || is_in w.knights s && open_ is_knight_step s) (λ s. is_in w.white_pawns s && open_ (is_behind White) s || is_in w.black_pawns s && open_ (is_behind Black) s)
    (joined _ _ (λ s. is_in w.lines s && open_ is_line_step s || is_in w.diagonals s && open_ is_diagonal_step s) (λ s. is_in w.knights s && open_ is_knight_step s)
    (joined _ _ (λ s. is_in w.lines s && open_ is_line_step s) (λ s. is_in w.diagonals s && open_ is_diagonal_step s) (part-made w.lines is_line_step set) (part-made w.diagonals is_diagonal_step set))
    (part-made w.knights is_knight_step set))
    (joined _ _ (λ s. is_in w.white_pawns s && open_ (is_behind White) s) (λ s. is_in w.black_pawns s && open_ (is_behind Black) s) (part-made w.white_pawns (is_behind White) set) (part-made w.black_pawns (is_behind Black) set))

pub kept-made : (w : Ways) (set : List Bool) → both (both set w.occupied) (union w.held (outside (loose w set))) ≡ kept w set
unfolding kept loose
kept-made w set =
    let firm : List Bool = outside (squares_that (is_loose w set)) in
    that-is (stays w set) (both (both set w.occupied) (union w.held firm)) (length-both (both set w.occupied) (union w.held firm)) (λ s inside.
    is_in-both (both set w.occupied) (union w.held firm) s inside
    ∙ ap (λ (x : Bool). x && is_in (union w.held firm) s) (is_in-both set w.occupied s inside)
    ∙ ap (λ (x : Bool). is_in set s && is_in w.occupied s && x) (is_in-union w.held firm s inside ∙ ap (λ (x : Bool). is_in w.held s || x) (is_in-outside (squares_that (is_loose w set)) s inside ∙ ap not (is_in-that (is_loose w set) s inside))))
