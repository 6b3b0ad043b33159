-- What `report` answers.
use Rattle.std.proofs.Common.{◌≡◌, ℕ, List, refl}
use Rattle.query_base.specs.Asked.{Asked}
use Rattle.question_text.specs.Questions.{AsksForOne}
use Rattle.command_answers.specs.Reports.{AnswersReport, AnswersReportOf}
use Rattle.command_answers.specs.declared.statuses.Status.{Status}
use Rattle.command_answers.specs.declared.statuses.Status.TheVariants.{Done}
use Rattle.retro_top.proofs.Asking.{said-alone}

-- a report is always done
pub always-done : (depth nodes : ℕ) (q : Asked) (ending : Status) (text : List ℕ) → AnswersReportOf depth nodes q ending text → ending ≡ Done
always-done depth nodes q Done text answers = refl
always-done depth nodes q _ text answers = absurd answers

pub report-done : (depth nodes : ℕ) (input : List ℕ) (ending : Status) (text : List ℕ) → AnswersReport depth nodes input ending text → AsksForOne input → ending ≡ Done
report-done depth nodes input ending text answers asks =
    let said = said-alone (AnswersReportOf depth nodes) (λ q. Unit {0}) input asks.0 ending text answers asks.1 tt in
    always-done depth nodes said.0 ending text said.2
