-- What men count more than they make up for is what they cost above 96 each.
use Rattle.std.proofs.Common.{◌≡◌, ℕ, suc, ◌+◌, ◌-◌, ◌*◌, ◌<◌, ◌≤◌, Bool, List, [], ◌∷◌, length, map, slice_index, slice_index_or, replicate, drop, ◌∙◌, ap, arith}
use Rattle.std.proofs.Math.Seq.{drop-cons}
use Rattle.std.proofs.lemmas.List.{drop_all, length-append, length-map, length-replicate}
use Rattle.assignment.specs.Assignments.{assignment_cost}
use Rattle.assignment.specs.Tables.{cost_at}
use Rattle.board_base.specs.Board.{Places, array_of, men_squares}
use Rattle.board_base.specs.declared.men.Colour.{Colour}
use Rattle.board_base.specs.declared.men.Colour.TheVariants.{White, Black}
use Rattle.balance_rule.specs.Balance.{BalanceSupports, cost_table, gone_row, men_on, stand_row}
use Rattle.capture_prices.specs.Prices.{PriceList}
use Rattle.query_base.specs.Asked.{Asked}
use Rattle.balance_prose.specs.Accounts.{AreLeastHomes, CountTooMany, HasNoMore, counted_of, made_up, sum_on, table_of}

-- there is a row for each man with whom the side began
pub rows-of : (q : Asked) (p : PriceList) (set : List Bool) (c : Colour) → HasNoMore q c → length (table_of q p set c) ≡ men_on c (array_of q.odds)
unfolding cost_table
rows-of q p set c few =
    let first : Places = array_of q.odds in
    let gone : ℕ = men_on c first - men_on c q.board in
    let parts = length-append (map (stand_row p set c first q.board) (men_squares c q.board)) (replicate gone (gone_row p set c first)) in
    let standing = length-map (men_squares c q.board) (stand_row p set c first q.board) in
    let lost = length-replicate gone (gone_row p set c first) in
    omega (arith, parts, standing, lost, few)

-- the next row
pub sum_on-next : (f : ℕ → ℕ) (table : List (List ℕ)) (homes : List ℕ) (i : ℕ) → i < length table → i < length homes
    → sum_on f (drop i table) (drop i homes) ≡ f (cost_at table i (slice_index homes i)) + sum_on f (drop (i + 1) table) (drop (i + 1) homes)
sum_on-next f table homes i low also =
    let next : suc i ≡ i + 1 = omega arith in
    ap (λ (t : List (List ℕ)). sum_on f t (drop i homes)) (drop-cons table i [] low)
    ∙ ap (λ (l : List ℕ). sum_on f (slice_index_or table i [] ∷ drop (suc i) table) l) (drop-cons homes i 0 also)
    ∙ ap (λ (n : ℕ). f (cost_at table i (slice_index homes i)) + sum_on f (drop n table) (drop n homes)) next

-- no row is left
pub sum_on-past : (f : ℕ → ℕ) (table : List (List ℕ)) (homes : List ℕ) (i : ℕ) → length table ≤ i → sum_on f (drop i table) (drop i homes) ≡ 0
sum_on-past f table homes i past = ap (λ (t : List (List ℕ)). sum_on f t (drop i homes)) (drop_all i table past)

balanced : (table : List (List ℕ)) (homes : List ℕ) → length homes ≡ length table → assignment_cost table homes + sum_on made_up table homes ≡ 96 * length table + sum_on counted_of table homes
balanced [] homes e = omega arith
balanced (row ∷ table) [] e = absurd (omega arith)
balanced (row ∷ table) (j ∷ homes) e =
    let rest = balanced table homes (omega arith) in
    omega (arith, rest)

-- each man on the board has a home
pub homes-enough : (q : Asked) (p : PriceList) (set : List Bool) (c : Colour) (homes : List ℕ) → HasNoMore q c → AreLeastHomes q p set c homes → men_on c q.board ≤ length homes
homes-enough q p set c homes few h = omega (arith, rows-of q p set c few, h.0.size, few)

pub counts-too-many : (q : Asked) (set : List Bool) (p : PriceList) (white black : List ℕ) → BalanceSupports q set p → AreLeastHomes q p set White white → AreLeastHomes q p set Black black → CountTooMany q p set white black
counts-too-many q set p white black h w b =
    let of_white = balanced (table_of q p set White) white w.0.size in
    let of_black = balanced (table_of q p set Black) black b.0.size in
    let white_rows = rows-of q p set White h.white in
    let black_rows = rows-of q p set Black h.black in
    record {
      white_least = w;
      black_least = b;
      white_men = h.white;
      black_men = h.black;
      above = omega (arith, of_white, of_black, white_rows, black_rows, w.1, b.1, h.above);
    }
