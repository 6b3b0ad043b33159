-- Rows of costs, one for each man.
use Rattle.std.proofs.Common.{◌≡◌, ℕ, suc, ◌+◌, ◌-◌, ◌≤◌, inl, inr, Bool, true, false, cond, List, [], ◌∷◌, ◌++◌, length, map, slice_index, refl, ap, sym, subst, ◌∙◌, arith}
use Rattle.std.proofs.lemmas.Bool.{both_ways, cases_Bool}
use Rattle.std.proofs.lemmas.List.{get_or_past, append_assoc, replicate_more, length-map}
use Rattle.std.proofs.lemmas.List.Sums.{length-filter}
use Rattle.std.specs.Prelude.{None, replicate}
use Rattle.std.specs.List.{count_by, range_with_len}
use Rattle.assignment.specs.Tables.{IsTable, cost_at}
use Rattle.board_base.specs.Board.{Places, array_of, at, initial_array, is_in, is_of, men_squares}
use Rattle.board_base.specs.declared.men.Colour.{Colour}
use Rattle.board_base.specs.declared.men.Colour.TheVariants.{White, Black}
use Rattle.board_base.proofs.Without.{at-without}
use Rattle.general_lemmas.proofs.Counts.{count-cons, count-end, one_if, one_if-more}
use Rattle.balance_rule.specs.Balance.{cost_table, gone_row, men_on, side_cost, stand_row}
use Rattle.assignment.specs.Assignments.{least_cost}
use Rattle.capture_prices.specs.Prices.{PriceList}
use Rattle.balance_rule.specs.Costs.{never}

-- one more number is counted
pub count-more : (p : ℕ → Bool) (i : ℕ) → count_by p (range_with_len 0 (i + 1)) ≡ count_by p (range_with_len 0 i) + one_if (p i)
count-more p i =
    let e : i + 1 ≡ suc i = omega arith in
    let z : 0 + i ≡ i = omega arith in
    ap (λ (n : ℕ). count_by p (range_with_len 0 n)) e ∙ count-end p i 0 ∙ ap (λ (n : ℕ). count_by p (range_with_len 0 i) + one_if (p n)) z

-- a side begins with at most sixteen men
counts-le : (p q : ℕ → Bool) (xs : List ℕ) → ((s : ℕ) → p s ≡ true → q s ≡ true) → count_by p xs ≤ count_by q xs
counts-le p q [] h = omega arith
counts-le p q (x ∷ xs) h = omega (arith, count-cons p x xs, count-cons q x xs, one_if-more (p x) (q x) (h x), counts-le p q xs h)

whole-sixteen : (c : Colour) → count_by (λ s. is_of c (at initial_array s)) (range_with_len 0 64) ≡ 16
unfolding initial_array
whole-sixteen White = refl
whole-sixteen Black = refl

left-of : (c : Colour) (o : List Bool) (s : ℕ) → is_of c (at (array_of o) s) ≡ true → is_of c (at initial_array s) ≡ true
unfolding array_of
left-of c o s h = elim (cases_Bool (is_in o s)) [
  | inl out ↦ absurd (both_ways false refl (sym (ap (is_of c) (at-without o initial_array s ∙ ap (λ (b : Bool). cond b None (at initial_array s)) out)) ∙ h))
  | inr kept ↦ ap (is_of c) (sym (at-without o initial_array s ∙ ap (λ (b : Bool). cond b None (at initial_array s)) kept)) ∙ h
]

pub begun-few : (c : Colour) (o : List Bool) → men_on c (array_of o) ≤ 16
unfolding men_squares
begun-few c o =
    omega (arith, length-filter (λ s. is_of c (at (array_of o) s)) (range_with_len 0 64), counts-le (λ s. is_of c (at (array_of o) s)) (λ s. is_of c (at initial_array s)) (range_with_len 0 64) (left-of c o), whole-sixteen c)

-- a table of no rows
pub table-none : (table : List (List ℕ)) → table ≡ [] → IsTable table 16 never
table-none table e =
    subst (λ (t : List (List ℕ)). IsTable t 16 never) (sym e)
    (record {
      rows = omega arith;
      few = omega arith;
      costs = λ i j. let none = get_or_past {X = List ℕ} [] i [] (omega arith) in let z : cost_at [] i j ≡ 0 = ap (λ (r : List ℕ). slice_index r j) none ∙ get_or_past {X = ℕ} [] j 0 (omega arith) in omega arith;
    })

-- one more row after rows that are all alike
pub alike-more : (items first new : List (List ℕ)) (row : List ℕ) (k : ℕ) → length first ≤ k → items ≡ first ++ replicate (k - length first) row → new ≡ items ++ row ∷ [] → new ≡ first ++ replicate (k + 1 - length first) row
alike-more items first new row k past before e =
    let next : (k - length first) + 1 ≡ k + 1 - length first = omega arith in
    e ∙ ap (λ (l : List (List ℕ)). l ++ row ∷ []) before ∙ append_assoc first (replicate (k - length first) row) (row ∷ []) ∙ ap (λ (l : List (List ℕ)). first ++ l) (replicate_more (k - length first) row ∙ ap (λ (n : ℕ). replicate n row) next)

-- the rows of those who stand, and of those who are gone
pub table-made : (p : PriceList) (set : List Bool) (c : Colour) (first board : Places) (rows new : List (List ℕ)) (lost : List ℕ) (begun : ℕ) → begun ≡ men_on c first → rows ≡ map (stand_row p set c first board) (men_squares c board) → lost ≡ gone_row p set c first → new ≡ rows ++ replicate (begun - length rows) lost → new ≡ cost_table p set c first board
unfolding cost_table
table-made p set c first board rows new lost begun all is gone_is e =
    let size : length rows ≡ men_on c board = ap (λ (l : List (List ℕ)). length l) is ∙ length-map (men_squares c board) (stand_row p set c first board) in
    let missing : begun - length rows ≡ men_on c first - men_on c board = omega arith in
    e ∙ ap (λ (l : List (List ℕ)). l ++ replicate (begun - length rows) lost) is ∙ ap (λ (n : ℕ). map (stand_row p set c first board) (men_squares c board) ++ replicate n lost) missing
    ∙ ap (λ (r : List ℕ). map (stand_row p set c first board) (men_squares c board) ++ replicate (men_on c first - men_on c board) r) gone_is

-- what a side costs
pub side-told : (o : List Bool) (p : PriceList) (set found : List Bool) (c side : Colour) (board places : Places) (rows : List (List ℕ)) (begun n : ℕ) → side ≡ c → found ≡ set → places ≡ board → begun ≡ men_on c (array_of o) → (men_on side places ≤ begun) × (rows ≡ cost_table p found side (array_of o) places) → n ≡ least_cost 16 rows → (men_on c board ≤ men_on c (array_of o)) × (n ≡ side_cost o board p set c)
side-told o p set found c side board places rows begun n same_side same_set same_board all h is =
    let few : men_on side places ≡ men_on c board = ap (λ (d : Colour). men_on d places) same_side ∙ ap (men_on c) same_board in (
      omega (arith, h.0, few, all),
      is ∙ ap (least_cost 16) (h.1 ∙ ap (λ (l : List Bool). cost_table p l side (array_of o) places) same_set ∙ ap (λ (d : Colour). cost_table p set d (array_of o) places) same_side ∙ ap (cost_table p set c (array_of o)) same_board),
    )
