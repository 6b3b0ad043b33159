-- What is known of gates, of prices that are lowered, and of tables that are there.
use Rattle.std.proofs.Common.{◌≡◌, ℕ, ◌<◌, ◌+◌, ◌&&◌, ◌==◌, Bool, true, false, cond, nat_lt, nat_le, List, [], ◌∷◌, length, map, slice_index, refl, ap, ◌∙◌}
use Rattle.std.specs.Prelude.{IsSome, IsTrue, None, Option, Some, SomeIff}
use Rattle.std.specs.Option.{option_map}
use Rattle.arrayvec.specs.ArrayVec.{ArrayVec}
use Rattle.std.specs.List.{All, list_all, range_with_len}
use Rattle.std.proofs.lemmas.List.Elements.{Contains-get_or, All-cons, All-nil}
use Rattle.board_base.specs.Board.{Places, at, is_of, men_squares}
use Rattle.board_base.specs.declared.men.Colour.{Colour}
use Rattle.general_lemmas.proofs.Lists.{filter-contains}
use Rattle.general_lemmas.proofs.Ranges.{range-contains}
use Rattle.std.proofs.lemmas.Bool.{and_from, and_parts, ltb-true}
use Rattle.std.proofs.lemmas.List.{length-map}
use Rattle.capture_prices.specs.Prices.{PriceList, are_ascending, are_prices, is_low, priced}
use Rattle.capture_prices.specs.declared.prices.Gate.{Gate}
use Rattle.balance_prose.specs.Counted.{once}

inside : (n : ℕ) (gates : List Gate) → are_ascending n gates ≡ true → All (λ (g : Gate). g.square < 64) gates
inside n [] h = All-nil (λ (g : Gate). g.square < 64)
inside n (g ∷ gates) h =
    let all = and_parts (nat_le n g.square && nat_lt g.square 64 && nat_le 1 g.toll && is_low g.toll) (are_ascending (g.square + 1) gates) h in
    let three = and_parts (nat_le n g.square && nat_lt g.square 64 && nat_le 1 g.toll) (is_low g.toll) all.0 in
    let two = and_parts (nat_le n g.square && nat_lt g.square 64) (nat_le 1 g.toll) three.0 in
    let one = and_parts (nat_le n g.square) (nat_lt g.square 64) two.0 in
    All-cons (λ (g : Gate). g.square < 64) g gates (ltb-true g.square 64 one.1) (inside (g.square + 1) gates all.1)

-- gates stand on squares of the board
pub gates-inside : (p : PriceList) → IsTrue (are_prices p) → All (λ (g : Gate). g.square < 64) p.gates
gates-inside p h =
    inside 0 p.gates (and_parts ((length p.white == 16) && list_all is_low p.white && (length p.black == 16) && list_all is_low p.black && nat_le (length p.gates) 16) (are_ascending 0 p.gates) h).1

low-once : (b : Bool) → is_low (cond b 0 1) ≡ true
low-once true = refl
low-once false = refl

all-once : (xs : List ℕ) → list_all is_low (map once xs) ≡ true
all-once [] = refl
all-once (x ∷ xs) = and_from (is_low (once x)) (list_all is_low (map once xs)) (low-once (x == 0)) (all-once xs)

-- prices of 0 and 1 without gates are prices
pub lowered-known : (p : PriceList) → IsTrue (are_prices p) → are_prices (priced (map once p.white) (map once p.black) []) ≡ true
lowered-known p h =
    let gated = and_parts ((length p.white == 16) && list_all is_low p.white && (length p.black == 16) && list_all is_low p.black && nat_le (length p.gates) 16) (are_ascending 0 p.gates) h in
    let few = and_parts ((length p.white == 16) && list_all is_low p.white && (length p.black == 16) && list_all is_low p.black) (nat_le (length p.gates) 16) gated.0 in
    let low = and_parts ((length p.white == 16) && list_all is_low p.white && (length p.black == 16)) (list_all is_low p.black) few.0 in
    let black = and_parts ((length p.white == 16) && list_all is_low p.white) (length p.black == 16) low.0 in
    let white = and_parts (length p.white == 16) (list_all is_low p.white) black.0 in
    let of_white : (length (map once p.white) == 16) ≡ true = ap (λ (n : ℕ). n == 16) (length-map p.white once) ∙ white.0 in
    let of_black : (length (map once p.black) == 16) ≡ true = ap (λ (n : ℕ). n == 16) (length-map p.black once) ∙ black.1 in
    and_from _ _ (and_from _ _ (and_from _ _ (and_from _ _ (and_from _ _ of_white (all-once p.white)) of_black) (all-once p.black)) refl) refl

-- a table is given where there is one
pub table-given : (r : Option (ArrayVec (List ℕ))) (P : Type 0) (v : List (List ℕ)) → SomeIff (option_map (λ (rows : ArrayVec (List ℕ)). rows.items) r) P v → P → IsSome r
table-given None P v h p = absurd (h p)
table-given (Some rows) P v h p = refl

-- men stand on squares of the board
pub man-inside : (c : Colour) (board : Places) (k : ℕ) → k < length (men_squares c board) → slice_index (men_squares c board) k < 64
unfolding men_squares
man-inside c board k low =
    let there = filter-contains (λ s. is_of c (at board s)) (range_with_len 0 64) (slice_index (men_squares c board) k) (Contains-get_or (men_squares c board) k 0 low) in
    (range-contains 0 64 (slice_index (men_squares c board) k) there.0).1
