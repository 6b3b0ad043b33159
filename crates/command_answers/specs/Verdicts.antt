-- What `verdict` answers.
use Rattle.std.specs.Prelude.{ℕ, ◌≡◌, ◌↔◌, Bool, IsTrue, List, [], ◌∷◌, ◌++◌, codes}
use Rattle.std.specs.List.{Contains}
use Rattle.query_base.specs.Asked.{Asked}
use Rattle.query_base.specs.Reach.{Holds}
use Rattle.query_base.specs.Targets.{target}
use Rattle.cert_text.specs.Lines.{ended}
use Rattle.position_report.specs.Lone.{IsAfforded, IsDear}
use Rattle.position_report.specs.Refutable.{IsRefutable}
use Rattle.codex_verdict.specs.Rights.{AreRights, claim_of}
use Rattle.codex_verdict.specs.Verdicts.{verdict_text}
use Rattle.codex_verdict.specs.declared.kinds.Right.{Right}
use Rattle.question_text.specs.Questions.{AsksAlone}
use Rattle.command_answers.specs.Questions.{AnswersAlone}
use Rattle.command_answers.specs.Solves.{IsCheap, spent_line}
use Rattle.command_answers.specs.declared.statuses.Status.{Status}
use Rattle.command_answers.specs.declared.statuses.Status.TheVariants as status

-- there are as many truth values as rights, and this holds of each right and its truth value, in order
abbrev pub Each : (Right → Bool → Type 0) → List Right → List Bool → Type 0
Each P [] [] = Unit {0}
Each P (right ∷ rights) (settled ∷ others) = P right settled × Each P rights others
Each P _ _ = ⊥

-- The target of the right's claim is refutable at the depth, if and only if this is true. Where it is, no game contradicts the claim, and
-- its proof is afforded by the nodes.
pub record IsSettled (q : Asked) (depth nodes : ℕ) (right : Right) (settled : Bool) : Type 0 where
  pub exactly : IsTrue settled ↔ IsRefutable (target q (claim_of right)) depth []
  pub holds : IsTrue settled → Holds (claim_of right) q
  pub afforded : IsTrue settled → IsAfforded depth nodes (claim_of right) q

-- the line of each right, in order
unfoldable pub right_lines : ℕ → List Right → List Bool → List ℕ
right_lines depth (right ∷ rights) (settled ∷ others) = verdict_text right settled depth ++ right_lines depth rights others
right_lines depth _ _ = []

-- these lines, or that there are none
abbrev pub verdicts_text : ℕ → List Right → List Bool → List ℕ
verdicts_text depth [] settled = ended (codes "no rights")
verdicts_text depth rights settled = right_lines depth rights settled

-- the target of some right's claim costs more than the nodes
pub record TellsDearRight (depth nodes : ℕ) (q : Asked) (rights : List Right) (text : List ℕ) : Type 0 where
  pub right : Right
  pub is_one : Contains rights right
  pub dear : IsDear depth nodes (claim_of right) q
  pub text_is : text ≡ spent_line nodes

-- what is said of these rights of a query
abbrev pub AnswersRights : ℕ → ℕ → Asked → List Right → Status → List ℕ → Type 0
AnswersRights depth nodes q rights status.Done text =
    (settled : List Bool) × Each (IsSettled q depth nodes) rights settled × (text ≡ verdicts_text depth rights settled)
AnswersRights depth nodes q rights status.Spent text = TellsDearRight depth nodes q rights text
AnswersRights depth nodes q rights _ text = ⊥

-- what is said of the rights that the query's position seems to give
abbrev pub AnswersPosition : ℕ → ℕ → Asked → Status → List ℕ → Type 0
AnswersPosition depth nodes q ending text =
    (rights : List Right) × AreRights q.board q.turn rights × AnswersRights depth nodes q rights ending text

-- the status and the text with which `verdict` answers these bytes, which are to be the lines of a query
abbrev pub AnswersVerdict : ℕ → ℕ → List ℕ → Status → List ℕ → Type 0
AnswersVerdict depth nodes input ending text = AnswersAlone (AnswersPosition depth nodes) input ending text

-- the input is the lines of a query, and the target of each right's claim has a cost of at most so many nodes
abbrev pub AsksForCheap : ℕ → ℕ → List ℕ → Type 0
AsksForCheap depth nodes input =
    (q : Asked) × AsksAlone input q × ((rights : List Right) → AreRights q.board q.turn rights → (right : Right) → Contains rights right → IsCheap depth nodes (claim_of right) q)
