-- What is said of the query of an input that is the lines of one.
use Rattle.std.proofs.Common.{◌≡◌, inl, inr, ℕ, List, subst}
use Rattle.query_base.specs.Asked.{Asked}
use Rattle.question_text.specs.Positions.{IsLonePosition, IsNoLonePosition}
use Rattle.question_text.specs.Questions.{AsksAlone, IsNoLoneQuestion}
use Rattle.question_text.specs.declared.faults.InputFault.{InputFault}
use Rattle.question_text.proofs.OneQuestion.{alone-some, asks-one, position-one, position-some}
use Rattle.command_answers.specs.Questions.{AnswersAlone, AnswersOne, AnswersPlain}
use Rattle.command_answers.specs.declared.statuses.Status.{Status}
use Rattle.command_answers.specs.declared.statuses.Status.TheVariants.{Done}

said-one : (AsksFor : Asked → Type 0) (HasFault : InputFault → Type 0) (Said : Asked → Status → List ℕ → Type 0) (P : Asked → Type 0) → ((q r : Asked) → AsksFor q → AsksFor r → q ≡ r) → ((q : Asked) (why : InputFault) → AsksFor q → HasFault why → ⊥) → (q : Asked) (ending : Status) (text : List ℕ) → AnswersOne AsksFor HasFault Said ending text → AsksFor q → P q → (r : Asked) × P r × Said r ending text
said-one AsksFor HasFault Said P one never q ending text answers asks here = elim answers [
  | inl asked ↦ (asked.0, subst P (one q asked.0 asks asked.1) here, asked.2)
  | inr none ↦ absurd (never q none.0 asks none.1)
]

-- what is said of the query of such an input, and what holds of that query
pub said-alone : (Said : Asked → Status → List ℕ → Type 0) (P : Asked → Type 0) (input : List ℕ) (q : Asked) (ending : Status) (text : List ℕ) → AnswersAlone Said input ending text → AsksAlone input q → P q → (r : Asked) × P r × Said r ending text
said-alone Said P input q ending text answers alone here =
    said-one (AsksAlone input) (IsNoLoneQuestion input) Said P (λ a b x y. asks-one input a b x.begins y.begins) (alone-some input) q ending text answers alone here

-- the same where no clock may be named
pub said-plain : (Said : Asked → Status → List ℕ → Type 0) (P : Asked → Type 0) (input : List ℕ) (q : Asked) (ending : Status) (text : List ℕ) → AnswersPlain Said input ending text → IsLonePosition input q → P q → (r : Asked) × P r × Said r ending text
said-plain Said P input q ending text answers alone here =
    said-one (IsLonePosition input) (IsNoLonePosition input) Said P (λ a b x y. position-one input a b x.begins y.begins) (position-some input) q ending text answers alone here

-- where the answer is done, the input is such a one
pub done-one : (AsksFor : Asked → Type 0) (HasFault : InputFault → Type 0) (Said : Asked → Status → List ℕ → Type 0) (text : List ℕ) → AnswersOne AsksFor HasFault Said Done text → (q : Asked) × AsksFor q × Said q Done text
done-one AsksFor HasFault Said text answers = elim answers [
  | inl asked ↦ asked
  | inr none ↦ let e = none.2 in cc
]

pub done-alone : (Said : Asked → Status → List ℕ → Type 0) (input text : List ℕ) → AnswersAlone Said input Done text → (q : Asked) × AsksAlone input q × Said q Done text
done-alone Said input text answers = done-one (AsksAlone input) (IsNoLoneQuestion input) Said text answers
