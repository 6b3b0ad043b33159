-- What stands behind the names of rules besides sets of squares: potentials.
use Rattle.std.specs.Prelude.{ℕ, cond, ◌&&◌, ◌==◌, nat_le, nat_eq, List, [], ◌∷◌, ◌++◌, length, drop, map, codes, ℤ, pos, neg_ℤ, Option, Some, None}
use Rattle.std.specs.List.{join_with_byte, starts_with}
use Rattle.std.specs.Fmt.{signed_decimal}
use Rattle.std.specs.Option.{option_map, option_and_then}
use Rattle.board_base.specs.Potentials.{Duals, duals}
use Rattle.fen_text.specs.Numbers.{number}
use Rattle.price_text.specs.Words.{is_slash, words}

-- the number, if it is no more than 64
abbrev pub positive : ℕ → Option ℤ
positive n = cond (nat_le n 64) (Some (pos n)) None

-- the number below 0 of this size, which is no more than 64
abbrev pub negative : ℕ → Option ℤ
negative n = cond (nat_le 1 n && nat_le n 64) (Some (neg_ℤ (pos n))) None

-- the number from -64 to 64 that a text stands for: one below 0 has a - in front
unfoldable pub signed : List ℕ → Option ℤ
signed text = cond (starts_with nat_eq text (codes "-")) (option_and_then negative (number (drop 1 text))) (option_and_then positive (number text))

-- the numbers of these words
abbrev pub signed_all : List (List ℕ) → Option (List ℤ)
signed_all [] = Some []
signed_all (w ∷ ws) = option_and_then (λ x. option_map (λ xs. x ∷ xs) (signed_all ws)) (signed w)

-- the words before the first / and those behind it
abbrev pub halves : List (List ℕ) → Option (List (List ℕ) × List (List ℕ))
halves [] = None
halves (w ∷ ws) = cond (is_slash w) (Some ([], ws)) (option_map (λ p. (w ∷ p.0, p.1)) (halves ws))

-- the potentials of at most so many rows
abbrev pub rows_of : ℕ → List (List ℕ) → Option (List ℤ)
rows_of width ws = cond (nat_le (length ws) width) (signed_all ws) None

-- the potentials of so many columns
abbrev pub columns_of : ℕ → List (List ℕ) → Option (List ℤ)
columns_of width ws = cond (length ws == width) (signed_all ws) None

-- the potentials of rows and of columns that two lists of words stand for
abbrev pub both_of : ℕ → List (List ℕ) → List (List ℕ) → Option Duals
both_of width us vs = option_and_then (λ u. option_map (λ v. duals u v) (columns_of width vs)) (rows_of width us)

-- the potentials of a text: at most so many numbers, a /, and so many numbers
unfoldable pub duals_of : ℕ → List ℕ → Option Duals
duals_of width text = option_and_then (λ p. both_of width p.0 p.1) (halves (words text))

-- the potentials of at most eight pawns and of the eight files
abbrev pub potentials_of : List ℕ → Option Duals
potentials_of text = duals_of 8 text

-- texts

-- the one text of potentials
unfoldable pub potentials_text : Duals → List ℕ
potentials_text d = join_with_byte 32 (map signed_decimal d.u ++ codes "/" ∷ map signed_decimal d.v)
