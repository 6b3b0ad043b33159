-- What stands behind the set of a `balance`: prices and gates.
use Rattle.std.specs.Prelude.{ℕ, zero, suc, ◌+◌, cond, ◌&&◌, nat_le, List, [], ◌∷◌, ◌++◌, map, codes, Option, Some, None}
use Rattle.std.specs.List.{join_with_byte}
use Rattle.std.specs.Option.{option_map, option_and_then}
use Rattle.std.specs.Fmt.{decimal}
use Rattle.board_base.specs.Texts.{square_at, square_text}
use Rattle.capture_prices.specs.Prices.{PriceList, is_low, priced}
use Rattle.capture_prices.specs.declared.prices.Gate.{Gate}
use Rattle.fen_text.specs.Numbers.{number}
use Rattle.price_text.specs.Words.{is_slash, words}

-- the number, if it is no more than 96
abbrev pub low : ℕ → Option ℕ
low n = cond (is_low n) (Some n) None

-- the number from 0 to 96 that a word stands for
unfoldable pub price_of : List ℕ → Option ℕ
price_of w = option_and_then low (number w)

-- the prices of so many words, behind which stands a /, and the words behind that
abbrev pub takes_from : ℕ → List (List ℕ) → Option (List ℕ × List (List ℕ))
takes_from zero [] = None
takes_from zero (w ∷ ws) = cond (is_slash w) (Some ([], ws)) None
takes_from (suc k) [] = None
takes_from (suc k) (w ∷ ws) = option_and_then (λ x. option_map (λ p. (x ∷ p.0, p.1)) (takes_from k ws)) (price_of w)

-- the square of a word: its file letter and its rank digit
abbrev pub square_of : List ℕ → Option ℕ
square_of (a ∷ b ∷ []) = square_at a b
square_of _ = None

-- the gate of this toll, if it is from 1 to 96
abbrev pub gate_at : ℕ → ℕ → Option Gate
gate_at s n = cond (nat_le 1 n && is_low n) (Some (record { square = s; toll = n })) None

-- the square, if it is from this one on
abbrev pub from_least : ℕ → ℕ → Option ℕ
from_least least s = cond (nat_le least s) (Some s) None

-- the gate of two words, on a square from this one on
unfoldable pub gate_of : ℕ → List ℕ → List ℕ → Option Gate
gate_of least w v = option_and_then (λ s. option_and_then (gate_at s) (number v)) (option_and_then (from_least least) (square_of w))

-- at most so many gates, of two words each, on ascending squares from this one on
abbrev pub gates_from : ℕ → ℕ → List (List ℕ) → Option (List Gate)
gates_from n least [] = Some []
gates_from zero least (w ∷ ws) = None
gates_from (suc n) least (w ∷ []) = None
gates_from (suc n) least (w ∷ v ∷ ws) = option_and_then (λ g. option_map (λ gates. g ∷ gates) (gates_from n (g.square + 1) ws)) (gate_of least w v)

-- these prices of White's, and Black's with the words behind them, which are those of the gates
abbrev pub gates_in : List ℕ → List ℕ × List (List ℕ) → Option PriceList
gates_in white p = option_map (λ gates. priced white p.0 gates) (gates_from 16 0 p.1)

-- White's prices with the words behind them, which are those of Black's prices and the gates
abbrev pub black_in : List ℕ × List (List ℕ) → Option PriceList
black_in p = option_and_then (gates_in p.0) (takes_from 16 p.1)

-- the prices of a text: sixteen numbers, a /, sixteen numbers, a /, and the gates
unfoldable pub prices_of : List ℕ → Option PriceList
prices_of text = option_and_then black_in (takes_from 16 (words text))

-- texts

-- the words of gates
abbrev pub gate_words : List Gate → List (List ℕ)
gate_words [] = []
gate_words (g ∷ gates) = square_text g.square ∷ decimal g.toll ∷ gate_words gates

-- the words of prices
abbrev pub price_words : PriceList → List (List ℕ)
price_words p = map decimal p.white ++ codes "/" ∷ (map decimal p.black ++ codes "/" ∷ gate_words p.gates)

-- the one text of prices
unfoldable pub prices_text : PriceList → List ℕ
prices_text p = join_with_byte 32 (price_words p)
