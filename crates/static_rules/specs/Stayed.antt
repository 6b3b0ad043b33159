-- Inner: no public clause cites this file.
-- Men who stand where they began on a first board, and homes whose men can have been lost out of the reach of pawns.
use Rattle.std.specs.Prelude.{ℕ, ◌≡◌, ◌+◌, ◌-◌, Bool, cond, ◌&&◌, ◌||◌, ◌==◌, not, List}
use Rattle.board_base.specs.Board.{Places, file, is_in, rank}
use Rattle.board_base.specs.declared.men.Colour.{Colour}
use Rattle.board_base.specs.declared.men.Kind.TheVariants.{Pawn}
use Rattle.men_account.specs.Account.{counts_of, is_any, men}
use Rattle.men_account.specs.declared.tallies.Allowance.{Allowance}
use Rattle.cage_rules.specs.Regions.{is_officer_home}
use Rattle.static_rules.specs.Left.{has_stayed, left_with}

-- the square in front of this one, where a side's officers begin
abbrev pub front : ℕ → ℕ
front h = cond (rank h == 0) (8 + file h) (48 + file h)

-- the squares from which an enemy pawn captures there are in the set
abbrev pub is_guarded : List Bool → ℕ → Bool
is_guarded set h = (file h == 0 || is_in set (front h - 1)) && (file h == 7 || is_in set (front h + 1))

-- an officer's home that doesn't hold what the first board has there, and where no enemy pawn can have captured him
abbrev pub may_be_spent : Places → Places → List Bool → ℕ → Bool
may_be_spent first board set s = is_officer_home s && not (has_stayed first board s) && is_guarded set s

-- as many pawns as on the first board, and as many officers of each kind as stand where they stand there
abbrev pub IsStayedAllowance : Places → Colour → Places → Allowance → Type 0
IsStayedAllowance first side board a =
    let n = counts_of side (left_with (has_stayed first board) first) in
    (a.pawns ≡ men side Pawn is_any first) × (a.knights ≡ n.knights) × (a.light_bishops ≡ n.light_bishops) × (a.dark_bishops ≡ n.dark_bishops) × (a.rooks ≡ n.rooks) × (a.queens ≡ n.queens)

-- so many pawns, and no officers
abbrev pub pawns_alone : ℕ → Allowance
pawns_alone p = record { pawns = p; knights = 0; light_bishops = 0; dark_bishops = 0; rooks = 0; queens = 0 }
