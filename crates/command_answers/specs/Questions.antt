-- The answer to an input that is to begin with the lines of a position, or to be no more than those.
use Rattle.std.specs.Prelude.{ℕ, ◌≡◌, ◌⊎◌, List, ◌++◌, codes}
use Rattle.std.specs.Fmt.{decimal}
use Rattle.query_base.specs.Asked.{Asked}
use Rattle.cert_text.specs.Lines.{ended}
use Rattle.question_text.specs.Positions.{IsLonePosition, IsNoLonePosition}
use Rattle.question_text.specs.Questions.{Asks, AsksAlone, IsNoLoneQuestion, IsNoQuestion, after_question}
use Rattle.question_text.specs.declared.faults.InputFault.{InputFault}
use Rattle.question_text.specs.declared.faults.InputFault.TheVariants.{BadLine, BadFen}
use Rattle.command_answers.specs.declared.statuses.Status.{Status}
use Rattle.command_answers.specs.declared.statuses.Status.TheVariants.{BadInput}

-- the line that says what is wrong with an input
abbrev pub fault_line : InputFault → List ℕ
fault_line (BadLine n) = ended (codes "bad line " ++ decimal n)
fault_line (BadFen fault) = ended (codes "bad fen field " ++ decimal fault.field ++ codes " byte " ++ decimal fault.at)

-- The status and the text that answer an input which is to begin with the lines of a query: where it does, this holds of the query,
-- of what follows those lines, of the status and the text, and else the text says why it doesn't.
abbrev pub AnswersAsked : (Asked → List ℕ → Status → List ℕ → Type 0) → List ℕ → Status → List ℕ → Type 0
AnswersAsked Holds input status text =
    ((q : Asked) × Asks input q × Holds q (after_question input) status text)
    ⊎ ((why : InputFault) × IsNoQuestion input why × (status ≡ BadInput) × (text ≡ fault_line why))

-- The status and the text that answer an input which is to ask one query: where it does, this holds of the query, the status and the
-- text, and else the text says why it doesn't.
abbrev pub AnswersOne : (Asked → Type 0) → (InputFault → Type 0) → (Asked → Status → List ℕ → Type 0) → Status → List ℕ → Type 0
AnswersOne AsksFor HasFault Holds status text =
    ((q : Asked) × AsksFor q × Holds q status text)
    ⊎ ((why : InputFault) × HasFault why × (status ≡ BadInput) × (text ≡ fault_line why))

-- what answers an input which is to be the lines of a query
abbrev pub AnswersAlone : (Asked → Status → List ℕ → Type 0) → List ℕ → Status → List ℕ → Type 0
AnswersAlone Holds input status text = AnswersOne (AsksAlone input) (IsNoLoneQuestion input) Holds status text

-- what answers an input which is to be the lines of a query without a clock
abbrev pub AnswersPlain : (Asked → Status → List ℕ → Type 0) → List ℕ → Status → List ℕ → Type 0
AnswersPlain Holds input status text = AnswersOne (IsLonePosition input) (IsNoLonePosition input) Holds status text
