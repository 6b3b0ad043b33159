-- Inner: no public clause cites this file.
-- Boards with only some of the men of another, which homes of officers count, and what they allow.
use Rattle.std.specs.Prelude.{ℕ, Bool, cond, ◌&&◌, not, List, map, None}
use Rattle.std.specs.List.{range_with_len}
use Rattle.board_base.specs.Board.{Places, at, is_of, same_place}
use Rattle.board_base.specs.declared.men.Colour.{Colour}
use Rattle.men_account.specs.declared.tallies.Allowance.{Allowance}
use Rattle.men_account.specs.declared.tallies.Counts.{Counts}
use Rattle.cage_rules.specs.Regions.{is_dead, is_officer_home}

-- a board with only those men of this one who stand on squares that pass the test
unfoldable pub left_with : (ℕ → Bool) → Places → Places
left_with keeps first = map (λ s. cond (keeps s) (at first s) None) (range_with_len 0 64)

-- the square holds what the first board has there
abbrev pub has_stayed : Places → Places → ℕ → Bool
has_stayed first board s = same_place (at board s) (at first s)

-- the square is no home of an officer of this side that is dead, for want of the man who began there too
abbrev pub may_live : Colour → Places → Places → List Bool → ℕ → Bool
may_live side first board set h = not (is_of side (at first h) && is_officer_home h && not (has_stayed first board h) && is_dead board set h)

-- so many pawns, and as many officers of each kind as are counted
abbrev pub with_pawns : ℕ → Counts → Allowance
with_pawns p n = record { pawns = p; knights = n.knights; light_bishops = n.light_bishops; dark_bishops = n.dark_bishops; rooks = n.rooks; queens = n.queens }
