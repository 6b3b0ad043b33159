-- Where potentials show that the pawns of a side need too many captures, their least number is too many.
use Rattle.std.proofs.Common.{ℕ, ◌≤◌, Bool, List, length, arith}
use Rattle.std.specs.Prelude.{ℤ}
use Rattle.std.specs.List.{range_with_len}
use Rattle.std.proofs.lemmas.Int.{ints}
use Rattle.std.proofs.lemmas.List.{length-map}
use Rattle.assignment.specs.Assignments.{least_cost}
use Rattle.assignment.proofs.Duality.{weak_duality}
use Rattle.assignment.proofs.Injections.{IsInjection-range, least_cost-is}
use Rattle.board_base.specs.declared.men.Colour.{Colour}
use Rattle.cage_rules.specs.Refuted.{NeedTooMany}
use Rattle.pawn_assign.specs.PawnCosts.{pawn_costs, pawn_row, pawn_squares}
use Rattle.query_base.specs.Asked.{Asked}
use Rattle.proof_sentences.specs.Sentences.{AreTooMany}

pub least-too-many : (q : Asked) (set : List Bool) (c : Colour) (u v : List ℤ) → length (pawn_squares c q.board) ≤ 8 → NeedTooMany q.odds q set c u v → AreTooMany (least_cost 8 (pawn_costs q.odds c q.board)) q set c
least-too-many q set c u v few h =
    let table : List (List ℕ) = pawn_costs q.odds c q.board in
    let rows : length table ≤ 8 = omega (arith, length-map (pawn_squares c q.board) (pawn_row q.odds c), few) in
    let best = least_cost-is 8 table (range_with_len 0 (length table)) (IsInjection-range 8 (length table) rows) in
    let low = weak_duality 8 table u v best.0 h.bounded best.1 in
    let is = best.2 in
    let more = h.above in
    omega (arith, ints)
