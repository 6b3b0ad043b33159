-- The definitions on single squares and numbers.
use Rattle.std.proofs.Common.{◌≡◌, [], ◌∷◌, refl, true, false}
use Rattle.std.specs.Prelude.{pos}
use Rattle.board_base.specs.Attacks.{distance}
use Rattle.board_base.specs.Rights.{Rights}
use Rattle.board_base.specs.declared.men.Colour.TheVariants.{White, Black}
use Rattle.board_base.specs.declared.men.Kind.TheVariants.{Knight, Bishop}
use Rattle.length_bound.specs.MoveCosts.{pawn_way}
use Rattle.length_bound.specs.DirectSteps.{direct_steps}
use Rattle.length_bound.specs.SideBounds.{moves_of, moves_shown, length_with}

-- from e2: e3, e4, e5, d3, d4, c3, e1; from e7: e5, d5
pawns : (pawn_way White 12 20 ≡ 1) × (pawn_way White 12 28 ≡ 1) × (pawn_way White 12 36 ≡ 2) × (pawn_way White 12 19 ≡ 1) × (pawn_way White 12 27 ≡ 2) × (pawn_way White 12 18 ≡ 64) × (pawn_way White 12 4 ≡ 64) × (pawn_way Black 52 36 ≡ 1) × (pawn_way Black 52 35 ≡ 2)
unfolding pawn_way distance
pawns = (refl, refl, refl, refl, refl, refl, refl, refl, refl)

-- a knight from a1 to b2, h8 and from d4 to f6; a bishop from c1 to d1, e1 and h6
officers : (direct_steps Knight 0 9 ≡ 4) × (direct_steps Knight 0 63 ≡ 6) × (direct_steps Knight 27 45 ≡ 4) × (direct_steps Bishop 2 3 ≡ 64) × (direct_steps Bishop 2 4 ≡ 2) × (direct_steps Bishop 2 47 ≡ 1)
unfolding distance
officers = (refl, refl, refl, refl, refl, refl)

-- White's castlings are held, or none is
both : Rights
both = record { white_short = true; white_long = true; black_short = false; black_long = false }

-- six moves by White are shown, and two may have been spared by castling; of one none is left
shown : (moves_shown White both (pos 6 ∷ []) [] ≡ 6) × (moves_shown Black both (pos 6 ∷ []) [] ≡ 4) × (moves_shown Black both (pos 1 ∷ []) [] ≡ 0)
unfolding both
shown = (refl, refl, refl)

-- four moves of White, with White and with Black to move; none; and of Black
lengths : (length_with White White 4 ≡ 8) × (length_with White Black 4 ≡ 7) × (length_with White Black 0 ≡ 1) × (length_with Black White 3 ≡ 6) × (length_with Black Black 3 ≡ 7)
lengths = (refl, refl, refl, refl, refl)

-- of seven half-moves White makes four, and Black three
halves : (moves_of White 7 ≡ 4) × (moves_of Black 7 ≡ 3)
halves = (refl, refl)
