-- What `study` answers.
use Rattle.std.specs.Prelude.{ℕ, List}
use Rattle.query_base.specs.Asked.{Asked}
use Rattle.position_report.specs.Studies.{IsStudy}
use Rattle.command_answers.specs.Questions.{AnswersAlone}
use Rattle.command_answers.specs.declared.statuses.Status.{Status}
use Rattle.command_answers.specs.declared.statuses.Status.TheVariants as status

-- what is said of a query: its study
abbrev pub AnswersStudyOf : ℕ → ℕ → Asked → Status → List ℕ → Type 0
AnswersStudyOf depth nodes q status.Done text = IsStudy q depth nodes text
AnswersStudyOf depth nodes q _ text = ⊥

-- the status and the text with which `study` answers these bytes, which are to be the lines of a query
abbrev pub AnswersStudy : ℕ → ℕ → List ℕ → Status → List ℕ → Type 0
AnswersStudy depth nodes input ending text = AnswersAlone (AnswersStudyOf depth nodes) input ending text
