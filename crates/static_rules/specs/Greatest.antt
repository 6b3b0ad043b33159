-- The greatest set that is settled, and the potentials with the greatest sum, where the array lacks the men on the squares of o.
use Rattle.std.specs.Prelude.{◌≡◌, ◌≤◌, Bool, List, length, ℤ, ◌+ℤ◌, ◌≤ℤ◌}
use Rattle.board_base.specs.Board.{Places}
use Rattle.board_base.specs.declared.men.Colour.{Colour}
use Rattle.play_rules.specs.Reach.{IsWithin}
use Rattle.query_base.specs.Asked.{Asked}
use Rattle.cage_rules.specs.Frozen.{IsAsArray, IsFrozen}
use Rattle.assignment.specs.Assignments.{IsBounded, total}
use Rattle.pawn_assign.specs.PawnCosts.{pawn_costs, pawn_squares}
use Rattle.static_rules.specs.SetRules.{IsSettled}

-- the greatest set that is frozen and as in the array
pub record IsGreatestSettled (o : List Bool) (q : Asked) (set : List Bool) : Type 0 where
  pub settled : IsSettled o q set
  pub greatest : (other : List Bool) → IsFrozen q other → IsAsArray o q.board other → IsWithin other set

-- where the side has at most eight pawns, the potentials are bounded by their costs, and no others that are have a greater sum
abbrev pub AreBest : List Bool → Colour → Places → List ℤ → List ℤ → Type 0
AreBest o side board u v =
    length (pawn_squares side board) ≤ 8 → (IsBounded 8 (pawn_costs o side board) u v × (length (pawn_squares side board) ≡ length u)) × ((x y : List ℤ) → IsBounded 8 (pawn_costs o side board) x y → (total x +ℤ total y) ≤ℤ (total u +ℤ total v))
