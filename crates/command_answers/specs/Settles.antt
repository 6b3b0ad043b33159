-- What `settle` answers.
use Rattle.std.specs.Prelude.{ℕ, ◌≡◌, ◌<◌, ◌≤◌, ◌⊎◌, List, length}
use Rattle.board_base.specs.declared.moves.Move.{Move}
use Rattle.board_base.specs.declared.unmoves.Unmove.{Unmove}
use Rattle.query_base.specs.Asked.{Asked}
use Rattle.query_base.specs.Reach.{Contradicts}
use Rattle.query_base.specs.Targets.{target}
use Rattle.query_base.specs.declared.claims.Claim.{Claim}
use Rattle.cert_text.specs.Certificate.{Certificate, IsTextOf}
use Rattle.price_search.specs.FlatPrices.{FlatPricesSupport}
use Rattle.position_report.specs.Settlements.{IsCounterable}
use Rattle.position_report.specs.Answers.{IsProofOf}
use Rattle.position_report.specs.Plain.{HasPlainSketch}
use Rattle.position_report.specs.SearchSizes.{IsLargeSearch}
use Rattle.position_report.specs.Unsettled.{IsUnpriced, StaysUnsettled, WhereRefutable}
use Rattle.command_answers.specs.Limits.{most_bytes}
use Rattle.command_answers.specs.Questions.{fault_line}
use Rattle.command_answers.specs.Solves.{countered_line, spent_line, undecided_line}
use Rattle.command_answers.specs.Statements.{IsNoStatement, States}
use Rattle.question_text.specs.declared.faults.InputFault.{InputFault}
use Rattle.command_answers.specs.declared.statuses.Status.{Status}
use Rattle.command_answers.specs.declared.statuses.Status.TheVariants.{BadInput, Countered, Done}
use Rattle.command_answers.specs.declared.statuses.Status.TheVariants as status

-- The text is that of a certificate of the claim about the query, which proves it, goes back no further than the depth, and has at most
-- 500,000 nodes. It has at most 64 MiB, so that a check takes it.
pub record TellsSettlingProof (depth : ℕ) (claim : Claim) (q : Asked) (text : List ℕ) : Type 0 where
  pub cert : Certificate
  pub is_proof : IsProofOf depth cert claim q
  pub is_text : IsTextOf text cert
  pub short : length text ≤ most_bytes

-- The claim's target isn't refutable at the depth by rule lines, and flat prices don't support it. The text tells a line of it that is
-- open at the depth, ends elsewhere than at the array, and has fewer moves than the nodes. Where these are at most 250,000, flat prices
-- support no query on the line.
pub record TellsUnsettledLine (depth nodes : ℕ) (claim : Claim) (q : Asked) (text : List ℕ) : Type 0 where
  pub line : List Unmove
  pub unsettled : StaysUnsettled line (target q claim) depth
  pub few : length line < nodes
  pub unpriced : FlatPricesSupport (target q claim) → ⊥
  pub line_unpriced : nodes ≤ 250000 → IsUnpriced (target q claim) line
  pub text_is : text ≡ undecided_line line

-- the text tells a game that contradicts the claim, and has at most as many moves as the nodes
pub record TellsGame (nodes : ℕ) (claim : Claim) (q : Asked) (text : List ℕ) : Type 0 where
  pub game : List Move
  pub contradicts : Contradicts game claim q
  pub few : length game ≤ nodes
  pub text_is : text ≡ countered_line game

-- The whole search of the claim's target to the depth is larger than the nodes. Where the target is refutable by rule lines at some depth
-- up to this one, it costs more than the nodes, and flat prices don't support it. The text says that the nodes are spent.
pub record TellsSpentThere (depth nodes : ℕ) (claim : Claim) (q : Asked) (text : List ℕ) : Type 0 where
  pub large : IsLargeSearch (target q claim) depth nodes
  pub dear : WhereRefutable (target q claim) depth (λ n. nodes < n)
  pub unpriced : FlatPricesSupport (target q claim) → ⊥
  pub text_is : text ≡ spent_line nodes

-- what is said of a claim about a query
abbrev pub AnswersSettling : ℕ → ℕ → Claim → Asked → Status → List ℕ → Type 0
AnswersSettling depth nodes claim q status.Done text = TellsSettlingProof depth claim q text
AnswersSettling depth nodes claim q status.Undecided text = TellsUnsettledLine depth nodes claim q text
AnswersSettling depth nodes claim q status.Countered text = TellsGame nodes claim q text
AnswersSettling depth nodes claim q status.Spent text = TellsSpentThere depth nodes claim q text
AnswersSettling depth nodes claim q _ text = ⊥

-- The status and the text with which `settle` answers these bytes. Where a search by rule lines alone comes to a game within the same depth
-- and nodes, as that of `solve` does, a game is told. Where one node of a sketch refutes the target, without exact files, prices and marks, a
-- certificate is.
abbrev pub AnswersSettle : ℕ → ℕ → List ℕ → Status → List ℕ → Type 0
AnswersSettle depth nodes input status text =
    ((claim : Claim) × (q : Asked) × States input claim q × AnswersSettling depth nodes claim q status text × (IsCounterable depth nodes claim q → status ≡ Countered) × (HasPlainSketch (target q claim) → status ≡ Done))
    ⊎ ((why : InputFault) × IsNoStatement input why × (status ≡ BadInput) × (text ≡ fault_line why))
