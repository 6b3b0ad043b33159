-- Which status `settle` answers, and what it says.
use Rattle.std.proofs.Common.{◌≡◌, ◌⊎◌, inl, inr, ℕ, List, [], refl, sym, subst, arith}
use Rattle.query_base.specs.Asked.{Asked}
use Rattle.query_base.specs.Reach.{Holds}
use Rattle.query_base.specs.Targets.{target}
use Rattle.query_base.specs.declared.claims.Claim.{Claim}
use Rattle.cert_text.specs.Certificate.{Certificate}
use Rattle.price_search.specs.FlatPrices.{FlatPricesSupport, flat_prices}
use Rattle.balance_rule.proofs.Sound.{balance-unreached}
use Rattle.cert_checker.specs.Proving.{ProvesClaim}
use Rattle.cert_checker.proofs.Contradicted.{contradiction-reaches}
use Rattle.command_answers.specs.Plain.{HasPlainSketch}
use Rattle.command_answers.specs.Refutable.{IsRefutable}
use Rattle.retro_top.specs.SmallSearches.{IsSmallSearch}
use Rattle.command_answers.specs.Settlements.{IsCounterable}
use Rattle.command_answers.proofs.Unreached.{refutable-unreached}
use Rattle.retro_top.specs.Answers.{IsUnspent, StatesCheap, StatesCounterable, StatesPriced, StatesProved, StatesRefutable, StatesSketched, StatesSmall}
use Rattle.command_answers.specs.Settles.{AnswersSettle, AnswersSettling}
use Rattle.command_answers.specs.Solves.{IsCheap}
use Rattle.command_answers.specs.declared.statuses.Status.{Status}
use Rattle.command_answers.specs.declared.statuses.Status.TheVariants.{Done, Undecided, Spent, Countered}
use Rattle.retro_top.proofs.Solving.{CounteredBy, Solved, solved-by}
use Rattle.retro_top.proofs.Stated.{stated, states-some}

settling-done : (depth nodes : ℕ) (claim : Claim) (q : Asked) (ending : Status) (text : List ℕ) → AnswersSettling depth nodes claim q ending text → IsRefutable (target q claim) depth [] → IsCheap depth nodes claim q → ending ≡ Done
settling-done depth nodes claim q Done text answers ref cheap = refl
settling-done depth nodes claim q Undecided text answers ref cheap = absurd (answers.unsettled.unrefuted ref)
settling-done depth nodes claim q Countered text answers ref cheap =
    absurd (refutable-unreached depth (target q claim) ref answers.game (contradiction-reaches answers.game claim q answers.contradicts))
settling-done depth nodes claim q Spent text answers ref cheap = absurd (omega (arith, answers.dear depth cheap.0 (omega arith) ref cheap.1, cheap.2))
settling-done depth nodes claim q _ text answers ref cheap = absurd answers

-- no game contradicts a claim whose target flat prices support
settling-priced : (depth nodes : ℕ) (claim : Claim) (q : Asked) (ending : Status) (text : List ℕ) → AnswersSettling depth nodes claim q ending text → FlatPricesSupport (target q claim) → ending ≡ Done
settling-priced depth nodes claim q Done text answers e = refl
settling-priced depth nodes claim q Undecided text answers e = absurd (answers.unpriced e)
settling-priced depth nodes claim q Countered text answers e =
    absurd (balance-unreached (target q claim) e.set (flat_prices e.payers) e.supports answers.game (contradiction-reaches answers.game claim q answers.contradicts))
settling-priced depth nodes claim q Spent text answers e = absurd (answers.unpriced e)
settling-priced depth nodes claim q _ text answers e = absurd answers

-- where the target is refutable by rule lines and the nodes suffice, a certificate is found
settle-refuted : (depth nodes : ℕ) (input : List ℕ) (ending : Status) (text : List ℕ) → AnswersSettle depth nodes input ending text → StatesRefutable depth input → StatesCheap depth nodes input → ending ≡ Done
settle-refuted depth nodes input ending text answers good cheap = elim answers [
  | inl said ↦ settling-done depth nodes said.0 said.1 ending text said.3
      (stated (λ claim q. IsRefutable (target q claim) depth []) input good.0 said.0 good.1 said.1 good.2 said.2 good.3)
      (stated (IsCheap depth nodes) input cheap.0 said.0 cheap.1 said.1 cheap.2 said.2 cheap.3)
  | inr none ↦ absurd (states-some input good.0 good.1 none.0 good.2 none.1)
]

-- and where flat prices support it
settle-priced : (depth nodes : ℕ) (input : List ℕ) (ending : Status) (text : List ℕ) → AnswersSettle depth nodes input ending text → StatesPriced input → ending ≡ Done
settle-priced depth nodes input ending text answers good = elim answers [
  | inl said ↦ settling-priced depth nodes said.0 said.1 ending text said.3 (stated (λ claim q. FlatPricesSupport (target q claim)) input good.0 said.0 good.1 said.1 good.2 said.2 good.3)
  | inr none ↦ absurd (states-some input good.0 good.1 none.0 good.2 none.1)
]

-- and where one node of a sketch refutes it
settle-sketched : (depth nodes : ℕ) (input : List ℕ) (ending : Status) (text : List ℕ) → AnswersSettle depth nodes input ending text → StatesSketched input → ending ≡ Done
settle-sketched depth nodes input ending text answers good = elim answers [
  | inl said ↦ said.5 (stated (λ claim q. HasPlainSketch (target q claim)) input good.0 said.0 good.1 said.1 good.2 said.2 good.3)
  | inr none ↦ absurd (states-some input good.0 good.1 none.0 good.2 none.1)
]

pub settle-done : (depth nodes : ℕ) (input : List ℕ) (ending : Status) (text : List ℕ) → AnswersSettle depth nodes input ending text → (StatesRefutable depth input × StatesCheap depth nodes input) ⊎ StatesPriced input ⊎ StatesSketched input → ending ≡ Done
settle-done depth nodes input ending text answers good = elim good [
  | inl enough ↦ settle-refuted depth nodes input ending text answers enough.0 enough.1
  | inr plain ↦ elim plain [
    | inl priced ↦ settle-priced depth nodes input ending text answers priced
    | inr sketched ↦ settle-sketched depth nodes input ending text answers sketched
  ]
]

-- where the whole search is no larger than the nodes, it comes to its end
settling-small : (depth nodes : ℕ) (claim : Claim) (q : Asked) (ending : Status) (text : List ℕ) → AnswersSettling depth nodes claim q ending text → IsSmallSearch (target q claim) depth nodes → IsUnspent ending
settling-small depth nodes claim q Done text answers small = tt
settling-small depth nodes claim q Undecided text answers small = tt
settling-small depth nodes claim q Countered text answers small = tt
settling-small depth nodes claim q Spent text answers small = absurd (omega (arith, answers.large small.0 small.1, small.2))
settling-small depth nodes claim q _ text answers small = absurd answers

settle-small : (depth nodes : ℕ) (input : List ℕ) (ending : Status) (text : List ℕ) → AnswersSettle depth nodes input ending text → StatesSmall depth nodes input → IsUnspent ending
settle-small depth nodes input ending text answers good = elim answers [
  | inl said ↦ settling-small depth nodes said.0 said.1 ending text said.3 (stated (λ claim q. IsSmallSearch (target q claim) depth nodes) input good.0 said.0 good.1 said.1 good.2 said.2 good.3)
  | inr none ↦ absurd (states-some input good.0 good.1 none.0 good.2 none.1)
]

pub settle-unspent : (depth nodes : ℕ) (input : List ℕ) (ending : Status) (text : List ℕ) → AnswersSettle depth nodes input ending text → (StatesRefutable depth input × StatesCheap depth nodes input) ⊎ StatesPriced input ⊎ StatesSketched input ⊎ StatesSmall depth nodes input → IsUnspent ending
settle-unspent depth nodes input ending text answers good = elim good [
  | inl enough ↦ subst IsUnspent (sym (settle-refuted depth nodes input ending text answers enough.0 enough.1)) tt
  | inr others ↦ elim others [
    | inl priced ↦ subst IsUnspent (sym (settle-priced depth nodes input ending text answers priced)) tt
    | inr rest ↦ elim rest [
      | inl sketched ↦ subst IsUnspent (sym (settle-sketched depth nodes input ending text answers sketched)) tt
      | inr small ↦ settle-small depth nodes input ending text answers small
    ]
  ]
]

-- a certificate is found only where one proves the claim
pub done-provable-claim : (depth nodes : ℕ) (input text : List ℕ) → AnswersSettle depth nodes input Done text → StatesProved depth input
done-provable-claim depth nodes input text answers = elim answers [
  | inl said ↦ (said.0, said.1, said.3.cert, said.2, said.3.is_proof)
  | inr none ↦ let e = none.2 in cc
]

pub done-settled : ((cert : Certificate) → ProvesClaim cert → Holds cert.claim cert.query) → (depth nodes : ℕ) (input text : List ℕ) → AnswersSettle depth nodes input Done text → Solved input text
done-settled law depth nodes input text answers = elim answers [
  | inl said ↦ solved-by law depth input text said.0 said.1 said.3.cert said.2 said.3.is_proof said.3.is_text
  | inr none ↦ let e = none.2 in cc
]

-- where `solve` must come to a game, so does `settle`
pub settle-countered : (depth nodes : ℕ) (input : List ℕ) (ending : Status) (text : List ℕ) → AnswersSettle depth nodes input ending text → StatesCounterable depth nodes input → ending ≡ Countered
settle-countered depth nodes input ending text answers can = elim answers [
  | inl said ↦ said.4 (stated (IsCounterable depth nodes) input can.0 said.0 can.1 said.1 can.2 said.2 can.3)
  | inr none ↦ absurd (states-some input can.0 can.1 none.0 can.2 none.1)
]

-- the game that `settle` finds
pub unsettled-by : (depth nodes : ℕ) (input text : List ℕ) → AnswersSettle depth nodes input Countered text → CounteredBy nodes input text
unsettled-by depth nodes input text answers = elim answers [
  | inl said ↦ record {
    claim = said.0;
    query = said.1;
    game = said.3.game;
    states = said.2;
    contradicts = said.3.contradicts;
    few = said.3.few;
    line = said.3.text_is;
  }
  | inr none ↦ let e = none.2 in cc
]
