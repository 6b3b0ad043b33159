-- What a check of the text of a length answers.
use Rattle.std.specs.Prelude.{ℕ, ◌≡◌, ◌≤◌, List, length, Option, Some, None, Result, Ok, Err}
use Rattle.std.specs.Io.KnownBytes.{Consumes, IsAtEnd}
use Rattle.query_base.specs.Asked.{Asked}
use Rattle.cert_text.specs.Certificate.{Lines}
use Rattle.cert_text.specs.Lines.{cut}
use Rattle.cert_text.specs.Texts.{IsBadAt}
use Rattle.length_bound.specs.LengthText.{AreLengthLines}
use Rattle.length_bound.specs.SideBounds.{IsSideBound, length_with, moves_shown}
use Rattle.length_bound.specs.declared.checking.LengthRefused.{LengthRefused}
use Rattle.length_bound.specs.declared.checking.LengthRefused.TheVariants as refused
use Rattle.length_bound.specs.declared.texts.LengthText.{LengthText}

-- the potentials of the text are bounded by what the men of its side need, and the length that they show is no less than is said
pub record IsShown (text : LengthText) : Type 0 where
  pub bound : IsSideBound text.query.odds text.side text.query.board text.potentials.u text.potentials.v
  pub long : text.at_least ≤ length_with text.side text.query.turn (moves_shown text.side text.query.held text.potentials.u text.potentials.v)

-- the line where the text goes bad; a text that its potentials don't show; or so many half-moves at least of each game to a query
pub data LengthAnswer : Type 0 where
  bad_text : ℕ → LengthAnswer
  unsupported : LengthAnswer
  at_least : ℕ → Asked → LengthAnswer

-- this is the answer to the lines
abbrev pub AnswersLength : Lines → LengthAnswer → Type 0
AnswersLength lines (bad_text n) = IsBadAt AreLengthLines lines n
AnswersLength lines unsupported = (text : LengthText) × AreLengthLines lines text × (IsShown text → ⊥)
AnswersLength lines (at_least n q) = (text : LengthText) × AreLengthLines lines text × IsShown text × (text.at_least ≡ n) × (text.query ≡ q)

-- what a check of a source's bytes answers, unless they weren't read to their end
abbrev pub length_answer : Result (ℕ × Asked) LengthRefused → Option LengthAnswer
length_answer (Ok (n, q)) = Some (at_least n q)
length_answer (Err (refused.BadText n)) = Some (bad_text n)
length_answer (Err refused.Unsupported) = Some unsupported
length_answer (Err refused.TooLong) = None
length_answer (Err refused.ReadFault) = None

-- At most so many bytes were read, to the end, and this is the answer to them. Where the source tells its bytes, they are all of them.
pub record AnswersBytes (limit : ℕ) (before now : Option (List ℕ)) (answer : LengthAnswer) : Type 0 where
  pub bytes : List ℕ
  pub read : Consumes before now bytes
  pub ended : IsAtEnd now
  pub fits : length bytes ≤ limit
  pub answers : AnswersLength (cut bytes) answer
