-- What `dossier` answers.
use Rattle.std.specs.Prelude.{ℕ, ◌≡◌, ◌⊎◌, List, codes}
use Rattle.std.specs.List.{All}
use Rattle.query_base.specs.Asked.{Asked}
use Rattle.query_base.specs.declared.claims.Claim.{Claim}
use Rattle.line_claims.specs.Due.{parts_due}
use Rattle.line_claims.specs.Listing.{HasParts, LacksStep}
use Rattle.line_claims.specs.declared.claims.LineClaim.{LineClaim}
use Rattle.dossier_checker.specs.Proving.{IsDossier}
use Rattle.dossier_search.specs.ReachedParts.{IsDearPart, IsFirstOpenPart, IsPartAfforded, IsPartPriced, IsPartProved, IsPartRefutable, IsPartSketched}
use Rattle.question_text.specs.declared.faults.InputFault.{InputFault}
use Rattle.command_answers.specs.Lines.{step_line}
use Rattle.command_answers.specs.Plays.{number_line}
use Rattle.command_answers.specs.Questions.{fault_line}
use Rattle.command_answers.specs.Solves.{IsCheap, spent_line}
use Rattle.command_answers.specs.Statements.{IsNoLineStatement, StatesLine}
use Rattle.command_answers.specs.declared.statuses.Status.{Status}
use Rattle.command_answers.specs.declared.statuses.Status.TheVariants.{BadInput}
use Rattle.command_answers.specs.declared.statuses.Status.TheVariants as status

-- a certificate of at most 500,000 nodes, which goes back no further than the depth, proves each part due
abbrev pub AreProved : ℕ → LineClaim → Asked → Type 0
AreProved depth claim q = All (IsPartProved depth) (parts_due claim q)

-- flat prices support the part's target, or one node of a sketch refutes it, without exact files, prices and marks
abbrev pub IsPlainPart : Claim × Asked → Type 0
IsPlainPart part = IsPartPriced part ⊎ IsPartSketched part

-- the part's target has a cost of at most so many nodes, or there is such a plain reason
abbrev pub IsCheapPart : ℕ → ℕ → Claim × Asked → Type 0
IsCheapPart depth nodes part = IsCheap depth nodes part.0 part.1 ⊎ IsPlainPart part

-- so it is of the target of each part due
abbrev pub AreCheapParts : ℕ → ℕ → LineClaim → Asked → Type 0
AreCheapParts depth nodes claim q = All (IsCheapPart depth nodes) (parts_due claim q)

-- rule lines refute the part's target at the depth, or there is a plain reason
abbrev pub IsClearPart : ℕ → Claim × Asked → Type 0
IsClearPart depth part = IsPartRefutable depth part ⊎ IsPlainPart part

-- so it is of the target of each part due
abbrev pub AreClearParts : ℕ → LineClaim → Asked → Type 0
AreClearParts depth claim q = All (IsClearPart depth) (parts_due claim q)

-- the text is a dossier of the claim about the query, each of its parts is proved within the depth, and the proof of each is afforded by
-- the nodes
pub record TellsProofs (depth nodes : ℕ) (claim : LineClaim) (q : Asked) (text : List ℕ) : Type 0 where
  pub is_dossier : IsDossier text claim q
  pub proved : AreProved depth claim q
  pub afforded : All (IsPartAfforded depth nodes) (parts_due claim q)

-- what is said of a claim of several steps about a query
abbrev pub AnswersLineClaim : ℕ → ℕ → LineClaim → Asked → Status → List ℕ → Type 0
AnswersLineClaim depth nodes claim q status.Done text = TellsProofs depth nodes claim q text
AnswersLineClaim depth nodes claim q status.Refused text = (i : ℕ) × LacksStep claim q i × (text ≡ step_line i)
AnswersLineClaim depth nodes claim q status.Undecided text = (p : ℕ) × IsFirstOpenPart depth claim q p × (text ≡ number_line (codes "undecided part ") p)
AnswersLineClaim depth nodes claim q status.Spent text = (p : ℕ) × IsDearPart depth nodes claim q p × (text ≡ spent_line nodes)
AnswersLineClaim depth nodes claim q _ text = ⊥

-- the status and the text with which `dossier` answers these bytes
abbrev pub AnswersDossier : ℕ → ℕ → List ℕ → Status → List ℕ → Type 0
AnswersDossier depth nodes input ending text =
    ((claim : LineClaim) × (q : Asked) × StatesLine input claim q × AnswersLineClaim depth nodes claim q ending text)
    ⊎ ((why : InputFault) × IsNoLineStatement input why × (ending ≡ BadInput) × (text ≡ fault_line why))

-- the input states a claim of several steps whose parts are defined, and each is proved within the depth
abbrev pub StatesProvedLine : ℕ → List ℕ → Type 0
StatesProvedLine depth input = (claim : LineClaim) × (q : Asked) × StatesLine input claim q × HasParts claim q × AreProved depth claim q

-- The input states a claim of several steps whose parts are defined. Rule lines refute the target of each at the depth, or there is a plain
-- reason.
abbrev pub StatesClearLine : ℕ → List ℕ → Type 0
StatesClearLine depth input = (claim : LineClaim) × (q : Asked) × StatesLine input claim q × HasParts claim q × AreClearParts depth claim q

-- The input states a claim of several steps whose parts are defined. The target of each has a cost of at most so many nodes, or there is a
-- plain reason.
abbrev pub StatesCheapLine : ℕ → ℕ → List ℕ → Type 0
StatesCheapLine depth nodes input = (claim : LineClaim) × (q : Asked) × StatesLine input claim q × HasParts claim q × AreCheapParts depth nodes claim q
