-- The squares of a side's pawns ascend, and are those on which its pawns stand.
use Rattle.std.proofs.Common.{◌≡◌, ◌↔◌, ℕ, ◌+◌, ◌<◌, true, sym, refl, ap, ◌∙◌, arith}
use Rattle.std.specs.Prelude.{Option, Some, None}
use Rattle.std.specs.List.{Contains, range_with_len}
use Rattle.std.specs.List.Sorted.{IsStrictlyIncreasing}
use Rattle.std.proofs.lemmas.List.FromFn.{get_or-range_with_len, length-range_with_len}
use Rattle.std.proofs.lemmas.List.Kept.{IsStrictlyIncreasing-filter}
use Rattle.std.proofs.lemmas.Bool.{and_parts}
use Rattle.board_base.proofs.KindsOfMen.{colour_is, kind_is}
use Rattle.general_lemmas.proofs.Lists.{contains-filter, filter-contains}
use Rattle.general_lemmas.proofs.Ranges.{contains-range, range-contains}
use Rattle.board_base.specs.Board.{Places, at, is_the, man, same_colour, same_kind}
use Rattle.board_base.specs.declared.men.Colour.{Colour}
use Rattle.board_base.specs.declared.men.Colour.TheVariants.{White, Black}
use Rattle.board_base.specs.declared.men.Kind.TheVariants.{Pawn}
use Rattle.board_base.specs.declared.men.Man.{Man}
use Rattle.pawn_assign.specs.PawnCosts.{pawn_squares}

range_ascends : (n : ℕ) → IsStrictlyIncreasing (range_with_len 0 n)
range_ascends n k inside = omega (arith, length-range_with_len 0 n, get_or-range_with_len 0 n k 0, get_or-range_with_len 0 n (k + 1) 0)

pub ascending : (c : Colour) (board : Places) → IsStrictlyIncreasing (pawn_squares c board)
unfolding pawn_squares
ascending c board = IsStrictlyIncreasing-filter (λ s. is_the c Pawn (at board s)) (range_with_len 0 64) (range_ascends 64)

the_pawn : (c : Colour) (place : Option Man) → is_the c Pawn place ≡ true → place ≡ man c Pawn
the_pawn c None h = cc
the_pawn c (Some m) h =
    let colour : c ≡ m.colour = colour_is c m.colour (and_parts (same_colour c m.colour) (same_kind Pawn m.kind) h).0 in
    let kind : Pawn ≡ m.kind = kind_is Pawn m.kind (and_parts (same_colour c m.colour) (same_kind Pawn m.kind) h).1 in
    sym (ap (λ (c : Colour). man c Pawn) colour ∙ ap (man m.colour) kind)

is_the_pawn : (c : Colour) → is_the c Pawn (man c Pawn) ≡ true
is_the_pawn White = refl
is_the_pawn Black = refl

pub pawns : (c : Colour) (board : Places) (s : ℕ) → Contains (pawn_squares c board) s ↔ ((s < 64) × (at board s ≡ man c Pawn))
unfolding pawn_squares
pawns c board s = (
  λ some.
      let of = filter-contains (λ s. is_the c Pawn (at board s)) (range_with_len 0 64) s some in
      ((range-contains 0 64 s of.0).1, the_pawn c (at board s) of.1),
  λ both.
      contains-filter (λ s. is_the c Pawn (at board s)) (range_with_len 0 64) s (contains-range 0 64 s (omega arith) both.0) (ap (λ (place : Option Man). is_the c Pawn place) both.1 ∙ is_the_pawn c),
)
