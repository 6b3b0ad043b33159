-- Which status `solve` answers, and what it says.
use Rattle.std.proofs.Common.{◌≡◌, ◌≤◌, length, inl, inr, ℕ, List, [], refl, sym, subst, arith}
use Rattle.board_base.specs.declared.moves.Move.{Move}
use Rattle.query_base.specs.Asked.{Asked}
use Rattle.query_base.specs.Reach.{Contradicts, Holds}
use Rattle.query_base.specs.Targets.{target}
use Rattle.query_base.specs.declared.claims.Claim.{Claim}
use Rattle.cert_text.specs.Certificate.{Certificate, IsTextOf}
use Rattle.cert_checker.specs.Proving.{ProvesClaim}
use Rattle.command_answers.specs.Answers.{IsProofOf}
use Rattle.command_answers.specs.ClaimSearchLines.{EndsAtArray}
use Rattle.command_answers.specs.Refutable.{IsRefutable}
use Rattle.command_answers.proofs.Lines.OneLine.{line_one}
use Rattle.command_answers.specs.Settlements.{IsCounterable}
use Rattle.retro_top.specs.Answers.{IsUnspent, StatesCheap, StatesCounterable, StatesRefutable}
use Rattle.command_answers.specs.Solves.{AnswersClaim, AnswersSolve, IsCheap, countered_line}
use Rattle.command_answers.specs.Statements.{States}
use Rattle.command_answers.specs.declared.statuses.Status.{Status}
use Rattle.command_answers.specs.declared.statuses.Status.TheVariants.{Done, Undecided, Spent, Countered}
use Rattle.retro_top.proofs.Stated.{stated, states-some}

claim-unspent : (depth nodes : ℕ) (claim : Claim) (q : Asked) (ending : Status) (text : List ℕ) → AnswersClaim depth nodes claim q ending text → IsCheap depth nodes claim q → IsUnspent ending
claim-unspent depth nodes claim q Done text answers cheap = tt
claim-unspent depth nodes claim q Undecided text answers cheap = tt
claim-unspent depth nodes claim q Spent text answers cheap = absurd (omega (arith, answers.dear.cost cheap.0 cheap.1, cheap.2))
claim-unspent depth nodes claim q Countered text answers cheap = tt
claim-unspent depth nodes claim q _ text answers cheap = absurd answers

-- where the nodes suffice, no search is spent
pub cheap-unspent : (depth nodes : ℕ) (input : List ℕ) (ending : Status) (text : List ℕ) → AnswersSolve depth nodes input ending text → StatesCheap depth nodes input → IsUnspent ending
cheap-unspent depth nodes input ending text answers cheap = elim answers [
  | inl said ↦ claim-unspent depth nodes said.0 said.1 ending text said.3 (stated (IsCheap depth nodes) input cheap.0 said.0 cheap.1 said.1 cheap.2 said.2 cheap.3)
  | inr none ↦ absurd (states-some input cheap.0 cheap.1 none.0 cheap.2 none.1)
]

claim-done : (depth nodes : ℕ) (claim : Claim) (q : Asked) (ending : Status) (text : List ℕ) → AnswersClaim depth nodes claim q ending text → IsUnspent ending → IsRefutable (target q claim) depth [] → ending ≡ Done
claim-done depth nodes claim q Done text answers unspent refutable = refl
claim-done depth nodes claim q Undecided text answers unspent refutable = absurd (answers.undecided.open_line.unrefuted refutable)
claim-done depth nodes claim q Countered text answers unspent refutable = absurd (answers.counter.open_line.unrefuted refutable)
claim-done depth nodes claim q _ text answers unspent refutable = absurd unspent

-- where the target is refutable and the nodes suffice, a certificate is found
pub refutable-done : (depth nodes : ℕ) (input : List ℕ) (ending : Status) (text : List ℕ) → AnswersSolve depth nodes input ending text → StatesRefutable depth input → StatesCheap depth nodes input → ending ≡ Done
refutable-done depth nodes input ending text answers good cheap =
    let unspent = cheap-unspent depth nodes input ending text answers cheap in
    elim answers [
      | inl said ↦ claim-done depth nodes said.0 said.1 ending text said.3 unspent (stated (λ claim q. IsRefutable (target q claim) depth []) input good.0 said.0 good.1 said.1 good.2 said.2 good.3)
      | inr none ↦ absurd (states-some input good.0 good.1 none.0 good.2 none.1)
    ]

-- a certificate is found only where the target is refutable
pub done-refutable : (depth nodes : ℕ) (input text : List ℕ) → AnswersSolve depth nodes input Done text → StatesRefutable depth input
done-refutable depth nodes input text answers = elim answers [
  | inl said ↦ (said.0, said.1, said.2, said.3.refutable)
  | inr none ↦ let e = none.2 in cc
]

-- where `solve` or `settle` is done, its text is that of a certificate that proves the claim that the input states
pub record Solved (input text : List ℕ) : Type 0 where
  pub cert : Certificate
  pub states : States input cert.claim cert.query
  pub is_text : IsTextOf text cert
  pub proves : ProvesClaim cert
  pub holds : Holds cert.claim cert.query

pub solved-by : ((cert : Certificate) → ProvesClaim cert → Holds cert.claim cert.query) → (depth : ℕ) (input text : List ℕ) (claim : Claim) (q : Asked) (cert : Certificate) → States input claim q → IsProofOf depth cert claim q → IsTextOf text cert → Solved input text
solved-by law depth input text claim q cert states is_proof is_text = record {
  cert = cert;
  states = subst (λ (x : Claim). States input x cert.query) (sym is_proof.claim_is) (subst (States input claim) (sym is_proof.query_is) states);
  is_text = is_text;
  proves = is_proof.proves;
  holds = law cert is_proof.proves;
}

pub done-solved : ((cert : Certificate) → ProvesClaim cert → Holds cert.claim cert.query) → (depth nodes : ℕ) (input text : List ℕ) → AnswersSolve depth nodes input Done text → Solved input text
done-solved law depth nodes input text answers = elim answers [
  | inl said ↦ solved-by law depth input text said.0 said.1 said.3.cert said.2 said.3.is_proof said.3.is_text
  | inr none ↦ let e = none.2 in cc
]

claim-countered : (depth nodes : ℕ) (claim : Claim) (q : Asked) (ending : Status) (text : List ℕ) → AnswersClaim depth nodes claim q ending text → IsCounterable depth nodes claim q → ending ≡ Countered
claim-countered depth nodes claim q Done text answers can = absurd (can.counter.open_line.unrefuted answers.refutable)
claim-countered depth nodes claim q Undecided text answers can =
    let same : can.counter.line ≡ answers.line = line_one depth (target q claim) [] can.counter.line answers.line can.counter.open_line.first answers.undecided.open_line.first in
    absurd (answers.undecided.elsewhere (subst (EndsAtArray (target q claim)) same can.counter.at_array))
claim-countered depth nodes claim q Countered text answers can = refl
claim-countered depth nodes claim q Spent text answers can = absurd (omega (arith, answers.dear.cost can.cost can.is_cost, can.cheap))
claim-countered depth nodes claim q _ text answers can = absurd answers

-- where the first open line ends at the array and the nodes suffice, a game is found
pub counterable-countered : (depth nodes : ℕ) (input : List ℕ) (ending : Status) (text : List ℕ) → AnswersSolve depth nodes input ending text → StatesCounterable depth nodes input → ending ≡ Countered
counterable-countered depth nodes input ending text answers can = elim answers [
  | inl said ↦ claim-countered depth nodes said.0 said.1 ending text said.3 (stated (IsCounterable depth nodes) input can.0 said.0 can.1 said.1 can.2 said.2 can.3)
  | inr none ↦ absurd (states-some input can.0 can.1 none.0 can.2 none.1)
]

-- where `solve` or `settle` finds a game, it contradicts the claim that the input states, and has no more moves than the nodes
pub record CounteredBy (nodes : ℕ) (input text : List ℕ) : Type 0 where
  pub claim : Claim
  pub query : Asked
  pub game : List Move
  pub states : States input claim query
  pub contradicts : Contradicts game claim query
  pub few : length game ≤ nodes
  pub line : text ≡ countered_line game

pub countered-by : (depth nodes : ℕ) (input text : List ℕ) → AnswersSolve depth nodes input Countered text → CounteredBy nodes input text
countered-by depth nodes input text answers = elim answers [
  | inl said ↦ record {
    claim = said.0;
    query = said.1;
    game = said.3.game;
    states = said.2;
    contradicts = said.3.counter.contradicts;
    few = let less = said.3.few in omega arith;
    line = said.3.text_is;
  }
  | inr none ↦ let e = none.2 in cc
]
