-- What `atleast` answers.
use Rattle.std.specs.Prelude.{ℕ, ◌≡◌, ◌∷◌, List, ◌++◌, codes}
use Rattle.std.specs.Fmt.{decimal}
use Rattle.query_base.specs.Asked.{Asked}
use Rattle.fen_text.specs.Spelling.{spelling}
use Rattle.cert_text.specs.Lines.{cut, ended}
use Rattle.length_bound.specs.LengthAnswers.{AnswersLength, IsShown, LengthAnswer, at_least, bad_text, unsupported}
use Rattle.length_bound.specs.LengthText.{AreLengthLines}
use Rattle.length_bound.specs.declared.texts.LengthText.{LengthText}
use Rattle.command_answers.specs.Checks.{odds_words, refusal_line}
use Rattle.command_answers.specs.declared.statuses.Status.{Status}
use Rattle.command_answers.specs.declared.statuses.Status.TheVariants.{Done, Refused}

-- the line `accepted atleast` with the number, the FEN and the odds
abbrev pub bound_line : ℕ → Asked → List ℕ
bound_line n q = ended (codes "accepted atleast " ++ decimal n ++ 32 ∷ (spelling q ++ odds_words q.odds))

-- the status and the text that tell an answer to the text of a length
abbrev pub TellsBound : LengthAnswer → Status → List ℕ → Type 0
TellsBound (at_least n q) ending text = (ending ≡ Done) × (text ≡ bound_line n q)
TellsBound (bad_text n) ending text = (ending ≡ Refused) × (text ≡ refusal_line n (codes "text"))
TellsBound unsupported ending text = (ending ≡ Refused) × (text ≡ ended (codes "refused unsupported"))

-- the status and the text with which `atleast` answers these bytes
abbrev pub AnswersAtLeast : List ℕ → Status → List ℕ → Type 0
AnswersAtLeast input ending text = (answer : LengthAnswer) × AnswersLength (cut input) answer × TellsBound answer ending text

-- the bytes are the text of a length that its potentials show
abbrev pub ShowsLength : List ℕ → Type 0
ShowsLength input = (text : LengthText) × AreLengthLines (cut input) text × IsShown text
