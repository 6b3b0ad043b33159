-- What `report` answers.
use Rattle.std.specs.Prelude.{ℕ, List}
use Rattle.query_base.specs.Asked.{Asked}
use Rattle.position_report.specs.Reports.{IsReport}
use Rattle.command_answers.specs.Questions.{AnswersAlone}
use Rattle.command_answers.specs.declared.statuses.Status.{Status}
use Rattle.command_answers.specs.declared.statuses.Status.TheVariants as status

-- what is said of a query: its report
abbrev pub AnswersReportOf : ℕ → ℕ → Asked → Status → List ℕ → Type 0
AnswersReportOf depth nodes q status.Done text = IsReport q depth nodes text
AnswersReportOf depth nodes q _ text = ⊥

-- the status and the text with which `report` answers these bytes, which are to be the lines of a query
abbrev pub AnswersReport : ℕ → ℕ → List ℕ → Status → List ℕ → Type 0
AnswersReport depth nodes input ending text = AnswersAlone (AnswersReportOf depth nodes) input ending text
