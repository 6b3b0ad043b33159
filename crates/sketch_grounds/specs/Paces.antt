-- Inner: no public clause cites this file.
-- Single steps of officers past zones.
use Rattle.std.specs.Prelude.{ℕ, Bool, ◌&&◌, ◌||◌, not, List}
use Rattle.std.specs.List.{list_any}
use Rattle.board_base.specs.Board.{is_in}
use Rattle.board_base.specs.declared.men.Kind.{Kind}
use Rattle.cage_rules.specs.Sets.{squares_that}
use Rattle.cage_rules.specs.Steps.{is_near, is_step}
use Rattle.sketch_grounds.specs.LeastZones.{is_only}

-- some zone has no squares but these two, and who goes from t to u by one step leaves it no square
unfoldable pub is_barred : List (List Bool) → ℕ → ℕ → Bool
is_barred zones t u = list_any (λ zone. is_only zone t u) zones

-- one of the steps of which the moves of a piece are made, from t to s, leaves each zone a square
abbrev pub is_pace : Kind → List (List Bool) → ℕ → ℕ → Bool
is_pace k zones s t = is_step k s t && not (is_barred zones t s)

-- these squares, and those outside the walls to which a piece of this kind goes from them by one step
unfoldable pub is_paced : Kind → List Bool → List (List Bool) → List Bool → ℕ → Bool
is_paced k wall zones within s = is_in within s || is_near (is_pace k zones) within s && not (is_in wall s)

unfoldable pub paced : Kind → List Bool → List (List Bool) → List Bool → List Bool
paced k wall zones within = squares_that (is_paced k wall zones within)
