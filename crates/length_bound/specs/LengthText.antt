-- The text of a length: how many half-moves each game that reaches a query has at least, and the potentials that show it.
use Rattle.std.specs.Prelude.{ℕ, ◌≡◌, Bool, cond, nat_eq, nat_le, List, [], ◌∷◌, ◌++◌, drop, codes, Option, Some, None}
use Rattle.std.specs.List.{starts_with}
use Rattle.std.specs.Option.{option_map, option_and_then}
use Rattle.board_base.specs.Board.{no_odds}
use Rattle.board_base.specs.Potentials.{Duals}
use Rattle.board_base.specs.declared.men.Colour.{Colour}
use Rattle.board_base.specs.declared.men.Colour.TheVariants.{White, Black}
use Rattle.fen_text.specs.OddsLines.{odds_line}
use Rattle.fen_text.specs.Numbers.{number}
use Rattle.cert_text.specs.Arguments.{duals_of}
use Rattle.cert_text.specs.Certificate.{IsSaid, Lines, query_of}
use Rattle.cert_text.specs.Lines.{ended, said}
use Rattle.length_bound.specs.declared.texts.LengthText.{LengthText}

-- the first line, which names the format
abbrev pub length_head : List ℕ
length_head = ended (codes "retro length 1")

-- the number, if it is no more than 9999
abbrev pub up_to_9999 : ℕ → Option ℕ
up_to_9999 n = cond (nat_le n 9999) (Some n) None

-- the number of a text: `atleast` and a number from 0 to 9999 with no leading zero
unfoldable pub at_least_of : List ℕ → Option ℕ
at_least_of text = cond (starts_with nat_eq text (codes "atleast ")) (option_and_then up_to_9999 (number (drop 8 text))) None

-- potentials of this side
abbrev pub of_side : Colour → Option Duals → Option (Colour × Duals)
of_side c o = option_map (λ d. (c, d)) o

-- the side and the potentials of a text: `moves w` or `moves b`, at most sixteen numbers, a / and sixteen numbers
unfoldable pub shown_by : List ℕ → Option (Colour × Duals)
shown_by text =
    cond (starts_with nat_eq text (codes "moves w ")) (of_side White (duals_of 16 (drop 8 text))) (
    cond (starts_with nat_eq text (codes "moves b ")) (of_side Black (duals_of 16 (drop 8 text))) None)

-- what stands between the first line and the FEN's: nothing if nobody is left out, else the line of the odds
abbrev pub AreOddsLines : Lines → List Bool → Type 0
AreOddsLines lines odds = IsSaid odds_line no_odds lines odds

-- these lines, and no others, are the text
pub record AreLengthLines (lines : Lines) (text : LengthText) : Type 0 where
  pub odds_lines : Lines
  pub fen_line : List ℕ
  pub at_least_line : List ℕ
  pub moves_line : List ℕ
  pub parts : lines ≡ length_head ∷ (odds_lines ++ fen_line ∷ at_least_line ∷ moves_line ∷ [])
  pub odds : AreOddsLines odds_lines text.query.odds
  pub query : said query_of fen_line ≡ Some (record text.query { odds = no_odds })
  pub at_least : said at_least_of at_least_line ≡ Some text.at_least
  pub moves : said shown_by moves_line ≡ Some (text.side, text.potentials)
