-- Inputs of a claim line and the lines of the query that the claim is about.
use Rattle.std.specs.Prelude.{ℕ, ◌≡◌, ◌+◌, ◌⊎◌, List, Option, Some, None}
use Rattle.query_base.specs.Asked.{Asked}
use Rattle.query_base.specs.declared.claims.Claim.{Claim}
use Rattle.cert_text.specs.ClaimLines.{claim_of}
use Rattle.line_claims.specs.Lines.{line_claim_of}
use Rattle.line_claims.specs.declared.claims.LineClaim.{LineClaim}
use Rattle.question_text.specs.InputLines.{after_first, first_line}
use Rattle.question_text.specs.Questions.{AsksAlone, HasBadFen, IsNoLoneQuestion}
use Rattle.question_text.specs.declared.faults.InputFault.{InputFault}
use Rattle.question_text.specs.declared.faults.InputFault.TheVariants.{BadLine, BadFen}

-- the first line is this claim by its grammar, and the lines behind it are those of this query
pub record StatesBy {C : Type 0} (grammar : List ℕ → Option C) (input : List ℕ) (claim : C) (q : Asked) : Type 0 where
  pub first : grammar (first_line input) ≡ Some claim
  pub question : AsksAlone (after_first input) q

-- the lines behind a claim aren't those of a query, by this fault; they are counted from the claim on
abbrev pub IsNoneBehind : List ℕ → InputFault → Type 0
IsNoneBehind rest (BadLine n) = (m : ℕ) × IsNoLoneQuestion rest (BadLine m) × (n ≡ m + 1)
IsNoneBehind rest (BadFen fault) = HasBadFen rest fault

-- the first line is no claim by its grammar; or behind one the lines aren't those of a query
abbrev pub IsNoStatementBy : {C : Type 0} → (List ℕ → Option C) → List ℕ → InputFault → Type 0
IsNoStatementBy {C} grammar input why =
    ((grammar (first_line input) ≡ None) × (why ≡ BadLine 1))
    ⊎ ((claim : C) × (grammar (first_line input) ≡ Some claim) × IsNoneBehind (after_first input) why)

-- the input states this claim about this query
abbrev pub States : List ℕ → Claim → Asked → Type 0
States input claim q = StatesBy claim_of input claim q

-- the input states no claim about a query, by this fault
abbrev pub IsNoStatement : List ℕ → InputFault → Type 0
IsNoStatement input why = IsNoStatementBy claim_of input why

-- the input states this claim of several steps about this query
abbrev pub StatesLine : List ℕ → LineClaim → Asked → Type 0
StatesLine input claim q = StatesBy line_claim_of input claim q

-- the input states no claim of several steps about a query, by this fault
abbrev pub IsNoLineStatement : List ℕ → InputFault → Type 0
IsNoLineStatement input why = IsNoStatementBy line_claim_of input why
