-- Inner: no public clause cites this file.
-- The text of a length, line by line.
use Rattle.std.specs.Prelude.{ℕ, ◌≡◌, ◌⊎◌, Bool, List, [], ◌∷◌, ◌++◌, codes, Some}
use Rattle.board_base.specs.Potentials.{Duals}
use Rattle.board_base.specs.declared.men.Colour.{Colour}
use Rattle.query_base.specs.Asked.{Asked}
use Rattle.fen_text.specs.OddsLines.{odds_line}
use Rattle.fen_text.specs.Spelling.{turn_letter}
use Rattle.cert_text.specs.Arguments.{potentials_text}
use Rattle.cert_text.specs.Certificate.{Lines, query_of}
use Rattle.cert_text.specs.Lines.{said}
use Rattle.cert_text.specs.Texts.{IsBadAt}
use Rattle.length_bound.specs.LengthText.{at_least_of, length_head, shown_by}

-- the lines go bad there, as lines of which this holds
abbrev pub GoesBad : (Lines → Type 0) → Lines → ℕ → Type 0
GoesBad Good lines n = IsBadAt {C = ℕ} (λ ls k. Good ls) lines n

-- the first line has the property, and those behind it are good
abbrev pub IsFollowed : (List ℕ → Type 0) → (Lines → Type 0) → Lines → Type 0
IsFollowed First Good [] = ⊥
IsFollowed First Good (line ∷ lines) = First line × Good lines

abbrev pub HasMoves : List ℕ → Type 0
HasMoves line = (s : Colour × Duals) × (said shown_by line ≡ Some s)

abbrev pub HasAtLeast : List ℕ → Type 0
HasAtLeast line = (n : ℕ) × (said at_least_of line ≡ Some n)

abbrev pub HasQuery : List ℕ → Type 0
HasQuery line = (q : Asked) × (said query_of line ≡ Some q)

abbrev pub HasOdds : List ℕ → Type 0
HasOdds line = (o : List Bool) × (said odds_line line ≡ Some o)

-- nothing follows the last line
abbrev pub IsOver : Lines → Type 0
IsOver lines = lines ≡ []

-- the lines of the number and of the potentials
abbrev pub AreLast : Lines → Type 0
AreLast lines = IsFollowed HasAtLeast (IsFollowed HasMoves IsOver) lines

-- the line of the FEN, and those
abbrev pub AreFromFen : Lines → Type 0
AreFromFen lines = IsFollowed HasQuery AreLast lines

-- the lines behind the first
abbrev pub AreBelowHead : Lines → Type 0
AreBelowHead lines = AreFromFen lines ⊎ IsFollowed HasOdds AreFromFen lines

abbrev pub AreAll : Lines → Type 0
AreAll lines = IsFollowed (λ line. line ≡ length_head) AreBelowHead lines

-- the lines of the number and of the potentials say this
pub record SayLast (lines : Lines) (n : ℕ) (side : Colour) (d : Duals) : Type 0 where
  pub at_least_line : List ℕ
  pub moves_line : List ℕ
  pub parts : lines ≡ at_least_line ∷ moves_line ∷ []
  pub at_least : said at_least_of at_least_line ≡ Some n
  pub moves : said shown_by moves_line ≡ Some (side, d)

-- the text of a side's potentials
abbrev pub moves_text : Colour → Duals → List ℕ
moves_text c d = codes "moves " ++ turn_letter c ∷ 32 ∷ potentials_text d
