-- What `solve` answers.
use Rattle.std.specs.Prelude.{ℕ, ◌≡◌, ◌<◌, ◌≤◌, ◌⊎◌, List, [], ◌∷◌, ◌++◌, codes, length}
use Rattle.std.specs.List.{flat_map}
use Rattle.board_base.specs.Texts.{move_text, unmove_words}
use Rattle.board_base.specs.declared.moves.Move.{Move}
use Rattle.board_base.specs.declared.unmoves.Unmove.{Unmove}
use Rattle.query_base.specs.Asked.{Asked}
use Rattle.query_base.specs.Targets.{target}
use Rattle.query_base.specs.declared.claims.Claim.{Claim}
use Rattle.cert_text.specs.Certificate.{Certificate, IsTextOf}
use Rattle.cert_text.specs.Lines.{ended}
use Rattle.position_report.specs.Refutable.{IsRefutable}
use Rattle.position_report.specs.Costs.{IsCost}
use Rattle.position_report.specs.Lone.{IsAfforded, IsDear}
use Rattle.position_report.specs.Answers.{IsCounter, IsProofOf, IsUndecided}
use Rattle.command_answers.specs.Plays.{number_line}
use Rattle.command_answers.specs.Questions.{fault_line}
use Rattle.command_answers.specs.Statements.{IsNoStatement, States}
use Rattle.question_text.specs.declared.faults.InputFault.{InputFault}
use Rattle.command_answers.specs.declared.statuses.Status.{Status}
use Rattle.command_answers.specs.declared.statuses.Status.TheVariants.{BadInput}
use Rattle.command_answers.specs.declared.statuses.Status.TheVariants as status

-- each move after a space
unfoldable pub move_words : List Move → List ℕ
move_words ms = flat_map (λ m. 32 ∷ move_text m) ms

-- the line that tells the first open line of unmoves
abbrev pub undecided_line : List Unmove → List ℕ
undecided_line line = ended (codes "undecided" ++ unmove_words line)

-- the line that tells a game against the claim
abbrev pub countered_line : List Move → List ℕ
countered_line game = ended (codes "countered" ++ move_words game)

-- the line that says how many nodes were spent
abbrev pub spent_line : ℕ → List ℕ
spent_line nodes = number_line (codes "spent ") nodes

-- the claim's target has a cost of at most so many nodes
abbrev pub IsCheap : ℕ → ℕ → Claim → Asked → Type 0
IsCheap depth nodes claim q = (n : ℕ) × IsCost (target q claim) depth [] n × (n ≤ nodes)

-- The claim's target is refutable at the depth, and its proof is afforded by the nodes. The text is that of a certificate of the claim
-- about the query, which proves it, goes back no further than the depth, and has at most 500,000 nodes.
pub record TellsProof (depth nodes : ℕ) (claim : Claim) (q : Asked) (text : List ℕ) : Type 0 where
  pub cert : Certificate
  pub is_proof : IsProofOf depth cert claim q
  pub is_text : IsTextOf text cert
  pub refutable : IsRefutable (target q claim) depth []
  pub afforded : IsAfforded depth nodes claim q

-- The claim's target isn't refutable at the depth, and the text tells its first open line, which ends elsewhere than at the array and
-- has fewer moves than the nodes.
pub record TellsOpenLine (depth nodes : ℕ) (claim : Claim) (q : Asked) (text : List ℕ) : Type 0 where
  pub line : List Unmove
  pub undecided : IsUndecided line (target q claim) depth
  pub few : length line < nodes
  pub text_is : text ≡ undecided_line line

-- The first open line of the claim's target ends at the array, and the text tells it as a game, which contradicts the claim and has
-- fewer moves than the nodes.
pub record TellsGameAgainst (depth nodes : ℕ) (claim : Claim) (q : Asked) (text : List ℕ) : Type 0 where
  pub game : List Move
  pub counter : IsCounter game claim q depth
  pub few : length game < nodes
  pub text_is : text ≡ countered_line game

-- the claim's target costs more than the nodes, and the text says that they are spent
pub record TellsSpent (depth nodes : ℕ) (claim : Claim) (q : Asked) (text : List ℕ) : Type 0 where
  pub dear : IsDear depth nodes claim q
  pub text_is : text ≡ spent_line nodes

-- what is said of a claim about a query
abbrev pub AnswersClaim : ℕ → ℕ → Claim → Asked → Status → List ℕ → Type 0
AnswersClaim depth nodes claim q status.Done text = TellsProof depth nodes claim q text
AnswersClaim depth nodes claim q status.Undecided text = TellsOpenLine depth nodes claim q text
AnswersClaim depth nodes claim q status.Countered text = TellsGameAgainst depth nodes claim q text
AnswersClaim depth nodes claim q status.Spent text = TellsSpent depth nodes claim q text
AnswersClaim depth nodes claim q _ text = ⊥

-- the status and the text with which `solve` answers these bytes
abbrev pub AnswersSolve : ℕ → ℕ → List ℕ → Status → List ℕ → Type 0
AnswersSolve depth nodes input status text =
    ((claim : Claim) × (q : Asked) × States input claim q × AnswersClaim depth nodes claim q status text)
    ⊎ ((why : InputFault) × IsNoStatement input why × (status ≡ BadInput) × (text ≡ fault_line why))
