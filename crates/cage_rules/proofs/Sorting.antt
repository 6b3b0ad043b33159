-- The loop that sorts the men of a board by the ways in which they may have come.
use Rattle.std.proofs.Common.{◌≡◌, ℕ, ◌+◌, ◌<◌, ◌≤◌, ◌==◌, inl, inr, Bool, true, false, cond, ◌&&◌, ◌||◌, not, List, length, set, refl, ap, sym, ◌∙◌, arith}
use Rattle.std.proofs.lemmas.Bool.{and_left, cases_eq, eq-eqb, ne_eqb, or_from, or_left, or_right}
use Rattle.std.proofs.lemmas.List.{get_or-set_same, get_or-set_other, length-set}
use Rattle.std.specs.Prelude.{Option}
use Rattle.board_base.specs.Board.{at, is_empty, is_in, same_kind}
use Rattle.board_base.specs.Play.{king_home, rook_home}
use Rattle.board_base.specs.Rights.{Rights, holds}
use Rattle.board_base.specs.Squares.{squares_of}
use Rattle.board_base.specs.SquareNumbers.{length-squares_of}
use Rattle.board_base.specs.declared.castles.Castle.{Castle}
use Rattle.board_base.specs.declared.castles.Castle.TheVariants.{WhiteShort, WhiteLong, BlackShort, BlackLong}
use Rattle.board_base.proofs.CastleSquares.{king_home-within, rook_home-within}
use Rattle.board_base.specs.declared.men.Colour.TheVariants.{White, Black}
use Rattle.board_base.specs.declared.men.Kind.TheVariants.{Knight}
use Rattle.board_base.specs.declared.men.Man.{Man}
use Rattle.query_base.specs.Asked.{Asked}
use Rattle.cage_rules.specs.declared.ways.Ways.{Ways}
use Rattle.cage_rules.specs.Frozen.{is_held_home}
use Rattle.cage_rules.specs.Sets.{squares_that, union}
use Rattle.cage_rules.specs.Tests.{came_as_pawn, is_kind, on_diagonals, on_lines, ways_of, with_place}
use Rattle.cage_rules.proofs.Filling.{Filled, empty-start, filled-in, filled-out, filled-that, none-in-zero}
use Rattle.cage_rules.proofs.SetAlgebra.{same-that, that-is, union-that}

-- the homes of a castling, as they are put into a set
pub homes-made : (k r : ℕ) → k < 64 → r < 64 → set (set (squares_of 0) k true) r true ≡ squares_that (λ s. (k == s) || (r == s))
homes-made k r ki ri =
    let one : List Bool = set (squares_of 0) k true in
    let size : length one ≡ 64 = length-set (squares_of 0) k true ∙ length-squares_of 0 in
    that-is (λ s. (k == s) || (r == s)) (set one r true) (length-set one r true ∙ size) (λ s inside. elim (cases_eq s r) [
      | inl rook ↦ ap (is_in (set one r true)) rook ∙ get_or-set_same one r true false (omega arith) ∙ sym (or_right (k == s) (r == s) (eq-eqb r s (sym rook)))
      | inr other ↦
          get_or-set_other one r s true false other
          ∙ elim (cases_eq s k) [
            | inl king ↦ ap (is_in one) king ∙ get_or-set_same (squares_of 0) k true false (omega (arith, length-squares_of 0)) ∙ sym (or_left (k == s) (r == s) (eq-eqb k s (sym king)))
            | inr another ↦ get_or-set_other (squares_of 0) k s true false another ∙ none-in-zero s ∙ sym (or_from (k == s) (r == s) (ne_eqb k s (λ e. another (sym e))) (ne_eqb r s (λ e. other (sym e))))
          ]
    ])

pub homes-held : (held : Rights) (x : Castle) → holds held x ≡ true → set (set (squares_of 0) (king_home x) true) (rook_home x) true ≡ squares_that (λ s. holds held x && ((king_home x == s) || (rook_home x == s)))
homes-held held x has =
    homes-made (king_home x) (rook_home x) (king_home-within x) (rook_home-within x)
    ∙ same-that (λ s. (king_home x == s) || (rook_home x == s)) (λ s. holds held x && ((king_home x == s) || (rook_home x == s))) (λ s inside. sym (ap (λ (b : Bool). b && ((king_home x == s) || (rook_home x == s))) has))

pub homes-lost : (held : Rights) (x : Castle) → holds held x ≡ false → squares_of 0 ≡ squares_that (λ s. holds held x && ((king_home x == s) || (rook_home x == s)))
homes-lost held x lost = that-is (λ s. holds held x && ((king_home x == s) || (rook_home x == s))) (squares_of 0) (length-squares_of 0) (λ s inside. none-in-zero s ∙ sym (and_left (holds held x) ((king_home x == s) || (rook_home x == s)) lost))

or-four : (a b c d : Bool) → (a || b || (c || d)) ≡ (a || (b || (c || (d || false))))
or-four true b c d = refl
or-four false true c d = refl
or-four false false true d = refl
or-four false false false true = refl
or-four false false false false = refl

-- a home of one of the four castlings
abbrev pub is_home : Rights → Castle → ℕ → Bool
is_home held x s = holds held x && ((king_home x == s) || (rook_home x == s))

pub homes-four : (held : Rights) → union (union (squares_that (is_home held WhiteShort)) (squares_that (is_home held WhiteLong))) (union (squares_that (is_home held BlackShort)) (squares_that (is_home held BlackLong))) ≡ squares_that (is_held_home held)
homes-four held =
    ap (λ (l : List Bool). union l (union (squares_that (is_home held BlackShort)) (squares_that (is_home held BlackLong)))) (union-that (is_home held WhiteShort) (is_home held WhiteLong))
    ∙ ap (union (squares_that (λ s. is_home held WhiteShort s || is_home held WhiteLong s))) (union-that (is_home held BlackShort) (is_home held BlackLong))
    ∙ union-that (λ s. is_home held WhiteShort s || is_home held WhiteLong s) (λ s. is_home held BlackShort s || is_home held BlackLong s)
    ∙ same-that (λ s. is_home held WhiteShort s || is_home held WhiteLong s || (is_home held BlackShort s || is_home held BlackLong s)) (is_held_home held) (λ s inside. or-four (is_home held WhiteShort s) (is_home held WhiteLong s) (is_home held BlackShort s) (is_home held BlackLong s))

-- a square is added where the test says so
pub filled-if : (p : ℕ → Bool) (places : List Bool) (i : ℕ) (b : Bool) → i < 64 → p i ≡ b → Filled p false places i → Filled p false (cond b (set places i true) places) (i + 1)
filled-if p places i true inside here before = filled-in p false places i true inside here before
filled-if p places i false inside here before = filled-out p false places i here before

-- the sets are filled up to a square
pub record Sorted (q : Asked) (w : Ways) (i : ℕ) : Type 0 where
  pub occupied : Filled (λ s. not (is_empty (at q.board s))) false w.occupied i
  pub held : w.held ≡ squares_that (is_held_home q.held)
  pub lines : Filled (λ s. is_kind on_lines (at q.board s)) false w.lines i
  pub diagonals : Filled (λ s. is_kind on_diagonals (at q.board s)) false w.diagonals i
  pub knights : Filled (λ s. is_kind (same_kind Knight) (at q.board s)) false w.knights i
  pub white_pawns : Filled (λ s. came_as_pawn White (at q.board s) s) false w.white_pawns i
  pub black_pawns : Filled (λ s. came_as_pawn Black (at q.board s) s) false w.black_pawns i

pub sorted-start : (q : Asked) (none held : List Bool) → none ≡ squares_of 0 → held ≡ squares_that (is_held_home q.held) → Sorted q (record { occupied = none; held = held; lines = none; diagonals = none; knights = none; white_pawns = none; black_pawns = none }) 0
sorted-start q none held e eh = record {
  occupied = empty-start (λ s. not (is_empty (at q.board s))) none e;
  held = eh;
  lines = empty-start (λ s. is_kind on_lines (at q.board s)) none e;
  diagonals = empty-start (λ s. is_kind on_diagonals (at q.board s)) none e;
  knights = empty-start (λ s. is_kind (same_kind Knight) (at q.board s)) none e;
  white_pawns = empty-start (λ s. came_as_pawn White (at q.board s) s) none e;
  black_pawns = empty-start (λ s. came_as_pawn Black (at q.board s) s) none e;
}

pub sorted-more : (q : Asked) (w : Ways) (i : ℕ) (place : Option Man) → i < 64 → at q.board i ≡ place → Sorted q w i → Sorted q (with_place w i place) (i + 1)
sorted-more q w i place inside here sorted = record {
  occupied = filled-if (λ s. not (is_empty (at q.board s))) w.occupied i (not (is_empty place)) inside (ap (λ (p : Option Man). not (is_empty p)) here) sorted.occupied;
  held = sorted.held;
  lines = filled-if (λ s. is_kind on_lines (at q.board s)) w.lines i (is_kind on_lines place) inside (ap (is_kind on_lines) here) sorted.lines;
  diagonals = filled-if (λ s. is_kind on_diagonals (at q.board s)) w.diagonals i (is_kind on_diagonals place) inside (ap (is_kind on_diagonals) here) sorted.diagonals;
  knights = filled-if (λ s. is_kind (same_kind Knight) (at q.board s)) w.knights i (is_kind (same_kind Knight) place) inside (ap (is_kind (same_kind Knight)) here) sorted.knights;
  white_pawns = filled-if (λ s. came_as_pawn White (at q.board s) s) w.white_pawns i (came_as_pawn White place i) inside (ap (λ (p : Option Man). came_as_pawn White p i) here) sorted.white_pawns;
  black_pawns = filled-if (λ s. came_as_pawn Black (at q.board s) s) w.black_pawns i (came_as_pawn Black place i) inside (ap (λ (p : Option Man). came_as_pawn Black p i) here) sorted.black_pawns;
}

abbrev ways_as : List Bool → List Bool → List Bool → List Bool → List Bool → List Bool → List Bool → Ways
ways_as o h l d k w b = record { occupied = o; held = h; lines = l; diagonals = d; knights = k; white_pawns = w; black_pawns = b }

same_ways : (o o' h h' l l' d d' k k' w w' b b' : List Bool) → o ≡ o' → h ≡ h' → l ≡ l' → d ≡ d' → k ≡ k' → w ≡ w' → b ≡ b' → ways_as o h l d k w b ≡ ways_as o' h' l' d' k' w' b'
same_ways o o' h h' l l' d d' k k' w w' b b' eo eh el ed ek ew eb = cc

pub sorted-end : (q : Asked) (w : Ways) (i : ℕ) → 64 ≤ i → Sorted q w i → w ≡ ways_of q
sorted-end q w i past sorted =
    same_ways _ _ _ _ _ _ _ _ _ _ _ _ _ _
    (filled-that (λ s. not (is_empty (at q.board s))) w.occupied i past sorted.occupied) sorted.held
    (filled-that (λ s. is_kind on_lines (at q.board s)) w.lines i past sorted.lines)
    (filled-that (λ s. is_kind on_diagonals (at q.board s)) w.diagonals i past sorted.diagonals)
    (filled-that (λ s. is_kind (same_kind Knight) (at q.board s)) w.knights i past sorted.knights)
    (filled-that (λ s. came_as_pawn White (at q.board s) s) w.white_pawns i past sorted.white_pawns)
    (filled-that (λ s. came_as_pawn Black (at q.board s) s) w.black_pawns i past sorted.black_pawns)
