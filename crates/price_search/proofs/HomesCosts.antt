-- What men cost with homes that are given.
use Rattle.std.proofs.Common.{◌≡◌, ℕ, suc, ◌+◌, ◌-◌, ◌<◌, ◌≤◌, Bool, List, [], ◌∷◌, length, map, drop, slice_index, slice_index_or, ap, subst, ◌∙◌, arith, length-append}
use Rattle.std.specs.Prelude.{replicate}
use Rattle.std.proofs.lemmas.List.{get_or-append_right, get_or_append_left, get_or-map, length-map, get_or-replicate, length-replicate}
use Rattle.std.proofs.lemmas.List.FromFn.{get_or-map-range_with_len}
use Rattle.std.proofs.Math.Seq.{drop-cons, drop-length}
use Rattle.assignment.specs.Assignments.{IsInjection, assignment_cost, least_cost}
use Rattle.assignment.proofs.Injections.{least_cost-le}
use Rattle.assignment.specs.Tables.{cost_at}
use Rattle.board_base.specs.Board.{Places, at, home_of, men_squares}
use Rattle.board_base.specs.declared.men.Colour.{Colour}
use Rattle.capture_prices.specs.Prices.{PriceList}
use Rattle.balance_rule.specs.Balance.{cost_table, gone_row, men_on, stand_row}
use Rattle.balance_rule.specs.Costs.{stands}

-- the table has a row for each man who began
pub length-cost_table : (p : PriceList) (set : List Bool) (c : Colour) (first board : Places) → men_on c board ≤ men_on c first → length (cost_table p set c first board) ≡ men_on c first
unfolding cost_table
length-cost_table p set c first board few =
    let standing : length (map (stand_row p set c first board) (men_squares c board)) ≡ men_on c board = length-map (men_squares c board) (stand_row p set c first board) in
    let gone : length (replicate (men_on c first - men_on c board) (gone_row p set c first)) ≡ men_on c first - men_on c board = length-replicate (men_on c first - men_on c board) (gone_row p set c first) in
    omega (arith, length-append (map (stand_row p set c first board) (men_squares c board)) (replicate (men_on c first - men_on c board) (gone_row p set c first)), standing, gone)

-- what a man on the board costs from a home
pub cost-standing : (p : PriceList) (set : List Bool) (c : Colour) (first board : Places) (i j : ℕ) → i < men_on c board → j < 16
    → cost_at (cost_table p set c first board) i j ≡ stands p set c (at first (home_of c j)) (home_of c j) (at board (slice_index (men_squares c board) i)) (slice_index (men_squares c board) i)
unfolding cost_table stand_row
cost-standing p set c first board i j there home =
    let men : List ℕ = men_squares c board in
    let s : ℕ = slice_index men i in
    let standing : length (map (stand_row p set c first board) men) ≡ length men = length-map men (stand_row p set c first board) in
    let row : slice_index_or (cost_table p set c first board) i [] ≡ stand_row p set c first board s =
    get_or_append_left (map (stand_row p set c first board) men) (replicate (men_on c first - men_on c board) (gone_row p set c first)) [] i (omega arith) ∙ get_or-map (stand_row p set c first board) men i 0 [] there in
    ap (λ (r : List ℕ). slice_index r j) row ∙ get_or-map-range_with_len (λ (j : ℕ). stands p set c (at first (home_of c j)) (home_of c j) (at board s) s) 0 16 j j 0 home (omega arith)

-- what a man who is gone costs from a home
pub cost-gone : (p : PriceList) (set : List Bool) (c : Colour) (first board : Places) (i j : ℕ) → men_on c board ≤ i → i < men_on c first
    → cost_at (cost_table p set c first board) i j ≡ slice_index (gone_row p set c first) j
unfolding cost_table
cost-gone p set c first board i j past below =
    let men : List ℕ = men_squares c board in
    let standing : length (map (stand_row p set c first board) men) ≡ length men = length-map men (stand_row p set c first board) in
    let rest : List (List ℕ) = replicate (men_on c first - men_on c board) (gone_row p set c first) in
    let row : slice_index_or (cost_table p set c first board) i [] ≡ gone_row p set c first =
    get_or-append_right (map (stand_row p set c first board) men) rest (length men) i [] standing past ∙ get_or-replicate (men_on c first - men_on c board) (i - length men) (gone_row p set c first) [] (omega arith) in
    ap (λ (r : List ℕ). slice_index r j) row

-- the cost of one more row is taken from the rest
pub assignment_cost-drop : (table : List (List ℕ)) (columns : List ℕ) (i : ℕ) → i < length table → length columns ≡ length table
    → assignment_cost (drop i table) (drop i columns) ≡ cost_at table i (slice_index columns i) + assignment_cost (drop (i + 1) table) (drop (i + 1) columns)
assignment_cost-drop table columns i low same =
    let rows = drop-cons table i [] low in
    let there : i < length columns = omega arith in
    let homes = drop-cons columns i 0 there in
    let next : suc i ≡ i + 1 = omega arith in
    ap (λ (t : List (List ℕ)). assignment_cost t (drop i columns)) rows
    ∙ ap (λ (c : List ℕ). assignment_cost (slice_index_or table i [] ∷ drop (suc i) table) c) homes
    ∙ ap (λ (n : ℕ). cost_at table i (slice_index columns i) + assignment_cost (drop n table) (drop n columns)) next

-- what homes cost is at least the least cost
pub homes-above : (table : List (List ℕ)) (columns : List ℕ) (i n : ℕ) → IsInjection 16 (length columns) columns → length columns ≡ length table → i ≡ length columns
    → n + assignment_cost (drop i table) (drop i columns) ≡ assignment_cost table columns → least_cost 16 table ≤ n
homes-above table columns i n injection same end whole =
    let none : drop i table ≡ [] = ap (λ (m : ℕ). drop m table) (end ∙ same) ∙ drop-length table in
    let rest : assignment_cost (drop i table) (drop i columns) ≡ 0 = ap (λ (t : List (List ℕ)). assignment_cost t (drop i columns)) none in
    let placed : IsInjection 16 (length table) columns = subst (λ (m : ℕ). IsInjection 16 m columns) same injection in
    omega (arith, least_cost-le 16 table columns placed, rest, whole)
