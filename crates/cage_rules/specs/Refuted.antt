-- What the greatest numbers of men say where a set is frozen.
use Rattle.std.specs.Prelude.{ℕ, ◌+◌, ◌<◌, Bool, ◌&&◌, not, List, ℤ, pos, ◌+ℤ◌, ◌<ℤ◌}
use Rattle.board_base.specs.Board.{Places, array_of, opponent}
use Rattle.board_base.specs.declared.men.Colour.{Colour}
use Rattle.board_base.specs.declared.men.Kind.TheVariants.{Pawn}
use Rattle.men_account.specs.Assignments.{IsBounded, total}
use Rattle.men_account.specs.PawnCosts.{pawn_costs}
use Rattle.men_account.specs.Account.{counts_of, excess_of, is_any, men, allowance_of}
use Rattle.men_account.specs.Homes.{men_of}
use Rattle.query_base.specs.Asked.{Asked}
use Rattle.cage_rules.specs.Regions.{is_dead, is_officer_home, is_shielded}

-- the side has more pawns and officers above those whose homes aren't dead than it had pawns in the beginning
abbrev pub HasTooMany : List Bool → Asked → List Bool → Colour → Type 0
HasTooMany o q set c = men c Pawn is_any (array_of o) < excess_of (counts_of c q.board) (allowance_of c (λ h. not (is_dead q.board set h)) (array_of o))

-- nobody who began on this home of an officer is left, and no pawn took him
abbrev pub is_spent : Places → List Bool → ℕ → Bool
is_spent board set h = is_officer_home h && is_dead board set h && is_shielded set h

-- Bounded potentials of the side's pawns sum to more than the other side's men in the beginning, less those on the board, less the
-- homes that are dead and shielded.
pub record NeedTooMany (o : List Bool) (q : Asked) (set : List Bool) (c : Colour) (u v : List ℤ) : Type 0 where
  pub bounded : IsBounded 8 (pawn_costs o c q.board) u v
  pub above : pos (men_of (opponent c) is_any (array_of o)) <ℤ ((total u +ℤ total v) +ℤ pos (men_of (opponent c) is_any q.board + men_of (opponent c) (is_spent q.board set) (array_of o)))
