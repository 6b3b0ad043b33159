-- What an input states is one claim about one query, or none.
use Rattle.std.proofs.Common.{inl, inr, ℕ, List, sym, ◌∙◌, subst}
use Rattle.std.proofs.lemmas.Option.{same_Some, none-some}
use Rattle.std.specs.Prelude.{Option}
use Rattle.query_base.specs.Asked.{Asked}
use Rattle.query_base.specs.declared.claims.Claim.{Claim}
use Rattle.cert_text.specs.ClaimLines.{claim_of}
use Rattle.question_text.specs.InputLines.{after_first}
use Rattle.question_text.specs.Questions.{AsksAlone}
use Rattle.question_text.specs.declared.faults.InputFault.{InputFault}
use Rattle.question_text.specs.declared.faults.InputFault.TheVariants.{BadLine, BadFen}
use Rattle.question_text.proofs.OneQuestion.{alone-some, asks-one}
use Rattle.command_answers.specs.Statements.{IsNoStatement, IsNoStatementBy, IsNoneBehind, States, StatesBy}

-- what holds of a claim and a query that the input states holds of those that it states
pub stated-by : {C : Type 0} (grammar : List ℕ → Option C) (P : C → Asked → Type 0) (input : List ℕ) (claim other : C) (q r : Asked) → StatesBy grammar input claim q → StatesBy grammar input other r → P claim q → P other r
stated-by {C} grammar P input claim other q r one two p =
    subst (λ (x : C). P x r) (same_Some _ _ (sym one.first ∙ two.first)) (subst (P claim) (asks-one (after_first input) q r one.question.begins two.question.begins) p)

pub stated : (P : Claim → Asked → Type 0) (input : List ℕ) (claim other : Claim) (q r : Asked) → States input claim q → States input other r → P claim q → P other r
stated P input claim other q r one two p = stated-by claim_of P input claim other q r one two p

none-behind : (rest : List ℕ) (q : Asked) (why : InputFault) → AsksAlone rest q → IsNoneBehind rest why → ⊥
none-behind rest q (BadLine n) alone behind = alone-some rest q (BadLine behind.0) alone behind.1
none-behind rest q (BadFen fault) alone bad = alone-some rest q (BadFen fault) alone bad

pub states-some-by : {C : Type 0} (grammar : List ℕ → Option C) (input : List ℕ) (claim : C) (q : Asked) (why : InputFault) → StatesBy grammar input claim q → IsNoStatementBy grammar input why → ⊥
states-some-by grammar input claim q why states (inl bad) = none-some claim (sym bad.0 ∙ states.first)
states-some-by grammar input claim q why states (inr behind) = none-behind (after_first input) q why states.question behind.2

pub states-some : (input : List ℕ) (claim : Claim) (q : Asked) (why : InputFault) → States input claim q → IsNoStatement input why → ⊥
states-some input claim q why states none = states-some-by claim_of input claim q why states none
