-- What `line` and `dossier` answer, and what holds where they are done.
use Rattle.std.proofs.Common.{◌≡◌, ℕ, List, [], ◌∷◌, ◌++◌, inl, inr, refl, subst, arith}
use Rattle.std.specs.Prelude.{◌↔◌}
use Rattle.std.specs.List.{All}
use Rattle.std.proofs.lemmas.List.Elements.{All-head, All-tail}
use Rattle.query_base.specs.Asked.{Asked}
use Rattle.line_claims.specs.Holding.{HoldsLine}
use Rattle.line_claims.specs.Lines.{line_claim_of}
use Rattle.line_claims.specs.Listing.{HasParts}
use Rattle.line_claims.specs.declared.claims.LineClaim.{LineClaim}
use Rattle.command_answers.specs.Proving.{IsDossier}
use Rattle.command_answers.specs.DossierAnswers.{DossierAnswer, bad_text_in, fault_in, line_accepted, no_head, no_part, other_part, unlisted_step}
use Rattle.command_answers.specs.DossierAnswers as dossiers
use Rattle.retro_top.specs.Answers.{IsUnspent}
use Rattle.command_answers.specs.Dossiers.{AnswersDossier, AnswersLineClaim, AreCheapParts, AreClearParts, IsCheapPart, IsClearPart, StatesCheapLine, StatesClearLine, StatesProvedLine}
use Rattle.command_answers.specs.Lines.{AnswersLine, ProvesLine, TellsDossier, accepted_steps_line}
use Rattle.command_answers.specs.Statements.{StatesLine}
use Rattle.command_answers.specs.declared.statuses.Status.{Status}
use Rattle.command_answers.specs.declared.statuses.Status.TheVariants.{Done, Refused, Undecided, Spent}
use Rattle.retro_top.proofs.Stated.{stated-by, states-some-by}
use Rattle.command_answers.proofs.OneDossier.{no_step}

-- there is one answer to a dossier
abbrev pub OneDossier : Type 0
OneDossier = (bytes : List ℕ) (a b : DossierAnswer) → dossiers.AnswersDossier bytes a → dossiers.AnswersDossier bytes b → a ≡ b

-- a claim is accepted exactly where the bytes are a dossier of it
abbrev pub AcceptedAreDossiers : Type 0
AcceptedAreDossiers = (bytes : List ℕ) (claim : LineClaim) (q : Asked) → dossiers.AnswersDossier bytes (line_accepted claim q) ↔ IsDossier bytes claim q

-- the claim of a dossier holds
abbrev pub DossiersProve : Type 0
DossiersProve = (bytes : List ℕ) (claim : LineClaim) (q : Asked) → IsDossier bytes claim q → HoldsLine claim q

-- what `line` accepts
pub record AcceptedBy (input text : List ℕ) : Type 0 where
  pub claim : LineClaim
  pub query : Asked
  pub answers : dossiers.AnswersDossier input (line_accepted claim query)
  pub is_dossier : IsDossier input claim query
  pub line : text ≡ accepted_steps_line claim query

accepted-by : AcceptedAreDossiers → (input : List ℕ) (answer : DossierAnswer) (text : List ℕ) → dossiers.AnswersDossier input answer → TellsDossier answer Done text → AcceptedBy input text
accepted-by law input (line_accepted claim q) text is tells = record { claim = claim; query = q; answers = is; is_dossier = (law input claim q).0 is; line = tells.1 }
accepted-by law input no_head text is tells = let e = tells.0 in cc
accepted-by law input (unlisted_step i) text is tells = let e = tells.0 in cc
accepted-by law input (no_part p) text is tells = let e = tells.0 in cc
accepted-by law input (bad_text_in p n) text is tells = let e = tells.0 in cc
accepted-by law input (fault_in p n f) text is tells = let e = tells.0 in cc
accepted-by law input (other_part p) text is tells = let e = tells.0 in cc

pub done-accepted : AcceptedAreDossiers → (input text : List ℕ) → AnswersLine input Done text → AcceptedBy input text
done-accepted law input text answers = accepted-by law input answers.0 text answers.1 answers.2

pub done-line : AcceptedAreDossiers → (input text : List ℕ) → AnswersLine input Done text → ProvesLine input
done-line law input text answers = let a = done-accepted law input text answers in (a.claim, a.query, a.is_dossier)

told-done : (answer : DossierAnswer) (claim : LineClaim) (q : Asked) (ending : Status) (text : List ℕ) → answer ≡ line_accepted claim q → TellsDossier answer ending text → ending ≡ Done
told-done (line_accepted other r) claim q ending text same tells = tells.0
told-done no_head claim q ending text same tells = cc
told-done (unlisted_step i) claim q ending text same tells = cc
told-done (no_part p) claim q ending text same tells = cc
told-done (bad_text_in p n) claim q ending text same tells = cc
told-done (fault_in p n f) claim q ending text same tells = cc
told-done (other_part p) claim q ending text same tells = cc

-- a dossier that proves its claim is accepted
pub line-done : OneDossier → AcceptedAreDossiers → (input : List ℕ) (ending : Status) (text : List ℕ) → AnswersLine input ending text → ProvesLine input → ending ≡ Done
line-done one law input ending text answers good =
    told-done answers.0 good.0 good.1 ending text (one input answers.0 (line_accepted good.0 good.1) answers.1 ((law input good.0 good.1).1 good.2)) answers.2

-- what holds of each holds of the one between
of_one : {A : Type 0} (P : A → Type 0) (before : List A) (x : A) (after : List A) → All P (before ++ x ∷ after) → P x
of_one P [] x after all = All-head P x after all
of_one P (y ∷ before) x after all = of_one P before x after (All-tail P y (before ++ x ∷ after) all)

line_claim-unspent : (depth nodes : ℕ) (claim : LineClaim) (q : Asked) (ending : Status) (text : List ℕ) → AnswersLineClaim depth nodes claim q ending text → HasParts claim q → AreCheapParts depth nodes claim q → IsUnspent ending
line_claim-unspent depth nodes claim q Done text answers has cheap = tt
line_claim-unspent depth nodes claim q Refused text answers has cheap = absurd (no_step claim q answers.0 has answers.1)
line_claim-unspent depth nodes claim q Undecided text answers has cheap = tt
line_claim-unspent depth nodes claim q Spent text answers has cheap =
    let first = answers.1 in
    elim (of_one (IsCheapPart depth nodes) first.before first.part first.after (subst (All (IsCheapPart depth nodes)) first.whole cheap)) [
      | inl enough ↦ absurd (omega (arith, first.here.dear.cost enough.0 enough.1, enough.2))
      | inr plain ↦ absurd (elim plain [ inl priced ↦ first.here.unpriced priced | inr sketched ↦ first.here.unsketched sketched ])
    ]
line_claim-unspent depth nodes claim q _ text answers has cheap = absurd answers

line_claim-done : (depth nodes : ℕ) (claim : LineClaim) (q : Asked) (ending : Status) (text : List ℕ) → AnswersLineClaim depth nodes claim q ending text → IsUnspent ending → AreClearParts depth claim q → ending ≡ Done
line_claim-done depth nodes claim q Done text answers unspent clear = refl
line_claim-done depth nodes claim q Undecided text answers unspent clear =
    let first = answers.1 in
    elim (of_one (IsClearPart depth) first.before first.part first.after (subst (All (IsClearPart depth)) first.whole clear)) [
      | inl refutable ↦ absurd (first.here.unrefuted refutable)
      | inr plain ↦ absurd (elim plain [ inl priced ↦ first.here.unpriced priced | inr sketched ↦ first.here.unsketched sketched ])
    ]
line_claim-done depth nodes claim q Refused text answers unspent clear = absurd unspent
line_claim-done depth nodes claim q Spent text answers unspent clear = absurd unspent
line_claim-done depth nodes claim q _ text answers unspent clear = absurd answers

-- a claim of several steps whose parts are defined, and cheap or with a plain reason
abbrev IsCheapLine : ℕ → ℕ → LineClaim → Asked → Type 0
IsCheapLine depth nodes claim q = HasParts claim q × AreCheapParts depth nodes claim q

-- where the nodes suffice, no search is spent
pub dossier-unspent : (depth nodes : ℕ) (input : List ℕ) (ending : Status) (text : List ℕ) → AnswersDossier depth nodes input ending text → StatesCheapLine depth nodes input → IsUnspent ending
dossier-unspent depth nodes input ending text answers cheap = elim answers [
  | inl said ↦
      let both = stated-by line_claim_of (IsCheapLine depth nodes) input cheap.0 said.0 cheap.1 said.1 cheap.2 said.2 (cheap.3, cheap.4) in
      line_claim-unspent depth nodes said.0 said.1 ending text said.3 both.0 both.1
  | inr none ↦ absurd (states-some-by line_claim_of input cheap.0 cheap.1 none.0 cheap.2 none.1)
]

-- where each part is clear and the nodes suffice, a dossier is written
pub dossier-done : (depth nodes : ℕ) (input : List ℕ) (ending : Status) (text : List ℕ) → AnswersDossier depth nodes input ending text → StatesClearLine depth input → StatesCheapLine depth nodes input → ending ≡ Done
dossier-done depth nodes input ending text answers good cheap =
    let unspent = dossier-unspent depth nodes input ending text answers cheap in
    elim answers [
      | inl said ↦ line_claim-done depth nodes said.0 said.1 ending text said.3 unspent (stated-by line_claim_of (AreClearParts depth) input good.0 said.0 good.1 said.1 good.2 said.2 good.4)
      | inr none ↦ absurd (states-some-by line_claim_of input good.0 good.1 none.0 good.2 none.1)
    ]

-- a dossier is written only where each part is proved within the depth
pub done-proved-line : (depth nodes : ℕ) (input text : List ℕ) → AnswersDossier depth nodes input Done text → StatesProvedLine depth input
done-proved-line depth nodes input text answers = elim answers [
  | inl said ↦ (said.0, said.1, said.2, said.3.is_dossier.listed, said.3.proved)
  | inr none ↦ let e = none.2 in cc
]

-- what `dossier` writes
pub record Made (input text : List ℕ) : Type 0 where
  pub claim : LineClaim
  pub query : Asked
  pub states : StatesLine input claim query
  pub is_dossier : IsDossier text claim query

pub done-made : (depth nodes : ℕ) (input text : List ℕ) → AnswersDossier depth nodes input Done text → Made input text
done-made depth nodes input text answers = elim answers [
  | inl said ↦ record { claim = said.0; query = said.1; states = said.2; is_dossier = said.3.is_dossier }
  | inr none ↦ let e = none.2 in cc
]
