-- What a low tree of rule lines proves is refutable.
use Rattle.std.proofs.Common.{ℕ, zero, suc, ◌≤◌, inl, inr, List, ◌∷◌, subst, arith}
use Rattle.std.specs.List.{Contains}
use Rattle.board_base.specs.declared.unmoves.Unmove.{Unmove}
use Rattle.general_lemmas.proofs.Lists.{contains-cases, contains-none}
use Rattle.query_base.specs.Asked.{Asked}
use Rattle.unmove_gen.specs.Listed.{unmoves}
use Rattle.unmove_gen.specs.Predecessor.{predecessor}
use Rattle.cert_text.specs.Tree.{Tree, Forest, rule, back, expand, sketch, none, more}
use Rattle.cert_text.specs.declared.reasons.Reason.TheVariants.{Line, Balance}
use Rattle.sketch_findings.specs.Proving.{Proves, ProvesEach}
use Rattle.retro_search.specs.RuleLines.{AreByRuleLines, IsByRuleLines}
use Rattle.retro_search.specs.Refutable.{IsRefutable, IsShut}
use Rattle.retro_search.specs.Heights.{height, height_of_all}
use Rattle.query_base.proofs.Nearest.{covered}

-- what is shut is refutable at each depth
pub shut_refutable : (depth : ℕ) (q : Asked) (ancestors : List Asked) → IsShut q ancestors → IsRefutable q depth ancestors
shut_refutable zero q ancestors h = h
shut_refutable (suc depth) q ancestors h = inl h

mutual
  pub refutable_by : (t : Tree) (q : Asked) (depth : ℕ) (ancestors : List Asked) → Proves t q ancestors → IsByRuleLines t → height t ≤ depth → IsRefutable q depth ancestors
  refutable_by (rule (Balance set d)) q depth ancestors p lined low = absurd lined
  refutable_by (rule (Line r)) q depth ancestors p lined low = shut_refutable depth q ancestors (inl (r, p))
  refutable_by (back k) q depth ancestors p lined low = shut_refutable depth q ancestors (inr (covered ancestors k q p))
  refutable_by (sketch b) q depth ancestors p lined low = absurd lined
  refutable_by (expand kids) q zero ancestors p lined low = absurd (omega arith)
  refutable_by (expand kids) q (suc depth) ancestors p lined low =
      inr (p.0, refutable_each kids q (unmoves q) depth ancestors p.1 lined (omega arith))

  pub refutable_each : (f : Forest) (q : Asked) (us : List Unmove) (depth : ℕ) (ancestors : List Asked) → ProvesEach f q us ancestors → AreByRuleLines f → height_of_all f ≤ depth → (u : Unmove) → Contains us u → IsRefutable (predecessor q u) depth (q ∷ ancestors)
  refutable_each none q us depth ancestors p lined low u there = absurd (contains-none u (subst (λ (l : List Unmove). Contains l u) p there))
  refutable_each (more label tree rest) q us depth ancestors (others, first, p, each) lined low u there =
      elim (contains-cases label others u (subst (λ (l : List Unmove). Contains l u) first there)) [
        | inl same ↦ subst (λ (v : Unmove). IsRefutable (predecessor q v) depth (q ∷ ancestors)) same (refutable_by tree (predecessor q label) depth (q ∷ ancestors) p lined.0 (omega arith))
        | inr later ↦ refutable_each rest q others depth ancestors each lined.1 (omega arith) u later
      ]
