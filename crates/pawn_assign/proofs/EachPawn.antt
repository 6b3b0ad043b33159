-- The squares of a side's pawns, and their costs.
use Rattle.std.proofs.Common.{◌≡◌, ◌↔◌, ℕ, ◌<◌, ◌≤◌, ◌||◌, Bool, not, List, [], length, slice_index, slice_index_or, sym, ap, ◌∙◌, subst, inl, inr, arith}
use Rattle.std.specs.Prelude.{ℤ, pos, ◌+ℤ◌, ◌≤ℤ◌, ◌<ℤ◌}
use Rattle.std.specs.List.{All, range_with_len}
use Rattle.std.proofs.lemmas.Bool.{cases_Bool, cond-true, cond-false}
use Rattle.std.proofs.lemmas.List.{get_or-map, length-map}
use Rattle.std.proofs.lemmas.List.Elements.{All-map}
use Rattle.std.proofs.lemmas.List.FromFn.{get_or-range_with_len, length-range_with_len}
use Rattle.board_base.specs.Attacks.{distance}
use Rattle.board_base.specs.Board.{Places, file, is_in}
use Rattle.board_base.specs.Potentials.{ArePotentials, Duals, duals}
use Rattle.board_base.specs.declared.men.Colour.{Colour}
use Rattle.assignment.specs.Tables.{IsTable, cost_at}
use Rattle.assignment.specs.Assignments.{IsBounded, IsInjection, assignment_cost, least_cost, total}
use Rattle.assignment.proofs.Decided.{decided}
use Rattle.assignment.proofs.Duality.{weak_duality}
use Rattle.assignment.proofs.Tables.{IsTable-rows}
use Rattle.pawn_assign.specs.PawnCosts.{can_come, pawn_cost, pawn_costs, pawn_home, pawn_row, pawn_squares}

pub rows : (o : List Bool) (c : Colour) (board : Places) → length (pawn_costs o c board) ≡ length (pawn_squares c board)
rows o c board = length-map (pawn_squares c board) (pawn_row o c)

pub costs : (o : List Bool) (c : Colour) (board : Places) (i f : ℕ) → i < length (pawn_squares c board) → f < 8 → cost_at (pawn_costs o c board) i f ≡ pawn_cost o c (slice_index (pawn_squares c board) i) f
costs o c board i f low high =
    let s : ℕ = slice_index (pawn_squares c board) i in
    ap (λ (row : List ℕ). slice_index row f) (get_or-map (pawn_row o c) (pawn_squares c board) i 0 [] low)
    ∙ get_or-map (pawn_cost o c s) (range_with_len 0 8) f 0 0 (omega (arith, length-range_with_len 0 8))
    ∙ ap (pawn_cost o c s) (get_or-range_with_len 0 8 f 0 high ∙ omega arith)

small : (o : List Bool) (c : Colour) (s f : ℕ) → f < 8 → pawn_cost o c s f ≤ 64
unfolding pawn_cost distance
small o c s f low = elim (cases_Bool (is_in o (pawn_home c f) || not (can_come c s f))) [
  | inl none ↦ let is = cond-true (is_in o (pawn_home c f) || not (can_come c s f)) 64 (distance (file s) f) none in omega arith
  | inr come ↦ let is = cond-false (is_in o (pawn_home c f) || not (can_come c s f)) 64 (distance (file s) f) come in omega arith
]

pub table : (o : List Bool) (c : Colour) (board : Places) → length (pawn_squares c board) ≤ 8 → IsTable (pawn_costs o c board) 8 64
table o c board few = IsTable-rows (pawn_costs o c board) 8 64 (omega (arith, rows o c board)) (omega arith)
    (All-map (λ row. All (λ cost. cost ≤ 64) row) (pawn_row o c) (pawn_squares c board) (λ i d _.
    All-map (λ cost. cost ≤ 64) (pawn_cost o c (slice_index_or (pawn_squares c board) i d)) (range_with_len 0 8) (λ f e high.
    let low : f < 8 = omega (arith, length-range_with_len 0 8) in
    let is = get_or-range_with_len 0 8 f e low in
    small o c (slice_index_or (pawn_squares c board) i d) (slice_index_or (range_with_len 0 8) f e) (omega arith))))

pub no_less : (o : List Bool) (c : Colour) (board : Places) (u v : List ℤ) (files : List ℕ) → IsBounded 8 (pawn_costs o c board) u v → IsInjection 8 (length (pawn_squares c board)) files
    → (total u +ℤ total v) ≤ℤ pos (assignment_cost (pawn_costs o c board) files)
no_less o c board u v files bounded injection =
    weak_duality 8 (pawn_costs o c board) u v files bounded (subst (λ (n : ℕ). IsInjection 8 n files) (sym (rows o c board)) injection)

pub decides : (o : List Bool) (c : Colour) (board : Places) (n : ℤ) → length (pawn_squares c board) ≤ 8
    → ((d : Duals) × ArePotentials d × IsBounded 8 (pawn_costs o c board) d.u d.v × (n <ℤ (total d.u +ℤ total d.v))) ↔ (n <ℤ pos (least_cost 8 (pawn_costs o c board)))
decides o c board n few =
    let both = decided 8 64 (pawn_costs o c board) (table o c board few) n in (
      λ some. both.0 (some.0.u, some.0.v, record { bounded = some.2; u_within = some.1.u_within; v_within = some.1.v_within; above = some.3 }),
      λ above.
          let some = both.1 above in (
            duals some.0 some.1,
            record { pawns = omega (arith, some.2.bounded.rows, rows o c board); files = some.2.bounded.columns; u_within = some.2.u_within; v_within = some.2.v_within },
            some.2.bounded,
            some.2.above,
          ),
    )
