-- The potentials of the least cost are the best.
use Rattle.std.proofs.Common.{◌≡◌, ℕ, Bool, List, length, sym, ap, ◌∙◌, subst, arith}
use Rattle.std.specs.Prelude.{ℤ, pos, ◌+ℤ◌, ◌≤ℤ◌}
use Rattle.std.proofs.lemmas.Int.{ints}
use Rattle.std.proofs.lemmas.List.{length-map}
use Rattle.board_base.specs.Board.{Places}
use Rattle.board_base.specs.declared.men.Colour.{Colour}
use Rattle.assignment.specs.Assignments.{IsBounded, IsInjection, assignment_cost, total}
use Rattle.assignment.proofs.Duality.{weak_duality}
use Rattle.pawn_assign.specs.PawnCosts.{pawn_costs, pawn_row, pawn_squares}
use Rattle.static_rules.specs.Greatest.{AreBest}

reached : (sum best : ℤ) (cost : ℕ) → sum ≤ℤ pos cost → best ≡ pos cost → sum ≤ℤ best
reached sum best cost h e = omega (arith, ints)

pub best-of : (o : List Bool) (side : Colour) (board : Places) (table : List (List ℕ)) (files : List ℕ) (u v : List ℤ) (cost : ℕ) → table ≡ pawn_costs o side board → IsBounded 8 table u v → IsInjection 8 (length table) files → cost ≡ assignment_cost table files → (total u +ℤ total v) ≡ pos cost → AreBest o side board u v
best-of o side board table files u v cost same bounded injection costs sum few =
    let here : IsBounded 8 (pawn_costs o side board) u v = subst (λ (t : List (List ℕ)). IsBounded 8 t u v) same bounded in (
      (here, sym (here.rows ∙ length-map (pawn_squares side board) (pawn_row o side))),
      λ x y other. reached (total x +ℤ total y) (total u +ℤ total v) (assignment_cost table files) (weak_duality 8 table x y files (subst (λ (t : List (List ℕ)). IsBounded 8 t x y) (sym same) other) injection) (sum ∙ ap (λ (n : ℕ). pos n) costs),
    )
