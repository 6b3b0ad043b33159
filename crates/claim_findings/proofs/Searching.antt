-- What one search comes to, and the least depth at which it proves a claim.
use Rattle.std.proofs.Common.{◌≡◌, ℕ, ◌-◌, ◌<◌, ◌≤◌, inl, inr, false, List, [], refl, sym, subst, arith}
use Rattle.std.proofs.lemmas.Bool.{both_ways}
use Rattle.std.specs.Prelude.{◌↔◌, IsTrue}
use Rattle.board_base.specs.declared.moves.Move.{Move}
use Rattle.query_base.specs.Asked.{Asked}
use Rattle.query_base.specs.Reach.{Contradicts, Reaches}
use Rattle.query_base.specs.Targets.{target}
use Rattle.query_base.specs.declared.claims.Claim.{Claim}
use Rattle.price_search.specs.FlatPrices.{FlatPricesSupport}
use Rattle.retro_search.specs.Outcomes.{HasProof, IfRefuted}
use Rattle.retro_search.specs.Plain.{HasPlainSketch}
use Rattle.retro_search.specs.Refutable.{IsRefutable}
use Rattle.retro_search.specs.SearchSizes.{IsLargeSearch}
use Rattle.retro_search.specs.Unsettled.{WhereRefutable}
use Rattle.retro_search.specs.declared.searchers.Outcome.{Outcome}
use Rattle.retro_search.specs.declared.searchers.Outcome.TheVariants.{Refuted, Open, Spent}
use Rattle.claim_findings.specs.Findings.{IsOutcome, IsProof, IsProvedAt, LacksPlainReasons, is_refuted}

-- what neither flat prices nor one node of a sketch refutes
lacks_reasons : (q a : Asked) (claim : Claim) (nodes : ℕ) → a ≡ target q claim → (1 ≤ nodes → FlatPricesSupport a → ⊥) → (HasPlainSketch a → ⊥) → LacksPlainReasons q claim nodes
lacks_reasons q a claim nodes is priced sketched some (inl e) = priced some (subst FlatPricesSupport (sym is) e)
lacks_reasons q a claim nodes is priced sketched some (inr has) = sketched (subst HasPlainSketch (sym is) has)

pub outcome_is : (q a : Asked) (claim : Claim) (depth nodes : ℕ) (outcome : Outcome) → a ≡ target q claim → ((g : List Move) → Reaches g a ↔ Contradicts g claim q) → IfRefuted outcome (λ height. HasProof a height depth) → (outcome ≡ Open → IsRefutable a depth [] → ⊥) → (outcome ≡ Spent → WhereRefutable a depth (λ n. nodes < n)) → (outcome ≡ Spent → IsLargeSearch a depth nodes) → (1 ≤ nodes → FlatPricesSupport a → IsTrue (is_refuted outcome)) → (HasPlainSketch a → IsTrue (is_refuted outcome)) → IsOutcome q claim depth nodes outcome
outcome_is q a claim depth nodes (Refuted height) is contradicted proof opened spent large priced sketched = record {
  proof = subst (λ (t : Asked). HasProof t height depth) is proof;
  holds = λ g against. proof.unreached g ((contradicted g).1 against);
}
outcome_is q a claim depth nodes Open is contradicted proof opened spent large priced sketched =
    (λ refutable. opened refl (subst (λ (t : Asked). IsRefutable t depth []) (sym is) refutable), lacks_reasons q a claim nodes is (λ some e. both_ways false refl (priced some e)) (λ has. both_ways false refl (sketched has)))
outcome_is q a claim depth nodes Spent is contradicted proof opened spent large priced sketched =
    (subst (λ (t : Asked). WhereRefutable t depth (λ n. nodes < n)) is (spent refl), lacks_reasons q a claim nodes is (λ some e. both_ways false refl (priced some e)) (λ has. both_ways false refl (sketched has)), subst (λ (t : Asked). IsLargeSearch t depth nodes) is (large refl))

-- what is refutable at a depth is so at each greater one
abbrev pub DeeperRefuteMore : Type 0
DeeperRefuteMore = (q : Asked) (k depth : ℕ) (ancestors : List Asked) → k ≤ depth → IsRefutable q k ancestors → IsRefutable q depth ancestors

-- a tree within a lower depth is one within this depth
higher : (q : Asked) (lower depth height : ℕ) → lower ≤ depth → HasProof q height lower → HasProof q height depth
higher q lower depth height less proof = record { tree = proof.tree; proves = proof.proves; high = proof.high; low = omega (arith, less, proof.low); unreached = proof.unreached }

-- what is refuted with nothing taken back is refuted at each depth
pub refuted_here : (q : Asked) (depth : ℕ) (outcome : Outcome) → IfRefuted outcome (λ height. HasProof q height 0) → IfRefuted outcome (λ height. HasProof q height depth)
refuted_here q depth (Refuted height) proof = higher q 0 depth height (omega arith) proof
refuted_here q depth Open proof = tt
refuted_here q depth Spent proof = tt

-- a proof at a lower depth is one at this depth
pub raised : (q : Asked) (claim : Claim) (lower depth height : ℕ) → lower ≤ depth → IsProvedAt q claim lower height → IsProvedAt q claim depth height
raised q claim lower depth height less proved = record {
  proof = higher (target q claim) lower depth height less proved.proof;
  holds = proved.holds;
}

-- the search one less deep leaves the target open
pub least_by_open : DeeperRefuteMore → (q : Asked) (claim : Claim) (most nodes depth : ℕ) → IsProvedAt q claim most depth → (IsRefutable (target q claim) (depth - 1) [] → ⊥) → LacksPlainReasons q claim nodes → IsProof q claim most nodes depth
least_by_open law q claim most nodes depth proved unrefuted lacks = record {
  proved = proved;
  least = λ k n below refutable cost. absurd (unrefuted (law (target q claim) k (depth - 1) [] (omega (arith, below)) refutable));
  plain = λ some e. absurd (lacks some e);
}

-- it is spent
pub least_by_spent : (q : Asked) (claim : Claim) (most nodes depth : ℕ) → IsProvedAt q claim most depth → WhereRefutable (target q claim) (depth - 1) (λ n. nodes < n) → LacksPlainReasons q claim nodes → IsProof q claim most nodes depth
least_by_spent q claim most nodes depth proved spent lacks = record {
  proved = proved;
  least = λ k n below refutable cost. spent k n (omega (arith, below)) refutable cost;
  plain = λ some e. absurd (lacks some e);
}

-- there is none
pub least_by_none : (q : Asked) (claim : Claim) (most nodes depth : ℕ) → IsProvedAt q claim most depth → depth ≤ 0 → IsProof q claim most nodes depth
least_by_none q claim most nodes depth proved none = record {
  proved = proved;
  least = λ k n below refutable cost. absurd (omega (arith, below, none));
  plain = λ some e. omega (arith, none);
}
