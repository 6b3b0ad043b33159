-- Inner: no public clause cites this file.
-- What the best potentials of one side show, and of both.
use Rattle.std.specs.Prelude.{◌≡◌, ◌≤◌, cond, nat_lt, Option, Some, None}
use Rattle.board_base.specs.declared.men.Colour.{Colour}
use Rattle.query_base.specs.Asked.{Asked}
use Rattle.length_bound.specs.Longest.{IsBest}
use Rattle.length_bound.specs.declared.texts.LengthText.{LengthText}

-- the best text of this side
pub record IsBestOf (c : Colour) (q : Asked) (text : LengthText) : Type 0 where
  pub best : IsBest q text
  pub side : text.side ≡ c
  pub small : text.at_least ≤ 9999

-- the text with the greater number, and the first where they are equal
abbrev pub longer_text : Option LengthText → Option LengthText → Option LengthText
longer_text None other = other
longer_text (Some text) None = Some text
longer_text (Some text) (Some other) = Some (cond (nat_lt text.at_least other.at_least) other text)
