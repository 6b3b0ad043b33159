-- Refutations, by where they come from and by what they say.
use Rattle.std.proofs.Common.{◌≡◌, ℕ, suc, ◌+◌, ◌≤◌, List, [], sym, ap, ◌∙◌, subst, take, arith}
use Rattle.board_base.specs.declared.unmoves.Unmove.{Unmove}
use Rattle.query_base.specs.Asked.{Asked}
use Rattle.query_base.specs.Reach.{Reaches}
use Rattle.query_base.specs.Targets.{Covers}
use Rattle.query_base.specs.Ancestors.{CoversAt}
use Rattle.cert_text.specs.declared.reasons.Reason.{Reason}
use Rattle.cert_text.specs.declared.reasons.Reason.TheVariants.{Line, Balance}
use Rattle.sketch_findings.specs.Reasons.{ReasonSupports}
use Rattle.unmove_gen.specs.Listed.{unmoves}
use Rattle.cert_text.specs.Tree.{Tree, rule, back, expand}
use Rattle.cert_text.specs.Seen.{tree_of}
use Rattle.sketch_findings.specs.Proving.{Proves, ProvesEach}
use Rattle.retro_search.specs.Refutable.{IsRefutable}
use Rattle.retro_search.specs.Heights.{height}
use Rattle.retro_search.specs.LineCounts.{lines_in, lines_of_reason}
use Rattle.retro_search.specs.Searched.{Refutes}
use Rattle.retro_search.specs.RuleLines.{IsByRuleLines}
use Rattle.retro_search.specs.Grown.{AreChildren}
use Rattle.retro_search.specs.SketchTexts.{HasSketchTexts}
use Rattle.retro_search.specs.Kept.{IsRefutation, StandsAlone}
use Rattle.retro_search.specs.declared.refutations.Children.{Children}
use Rattle.retro_search.specs.declared.refutations.Refutation.{Refutation}
use Rattle.retro_search.proofs.Trees.Ancestors.{ancestor_near, proves_below, whole_extends}
use Rattle.retro_search.proofs.Trees.Heights.{refutable_by}

-- a refutation by a tree whose parts are known
by_tree : (r : Refutation) (t : Tree) (q : Asked) (depth : ℕ) (ancestors : List Asked) → tree_of r.node ≡ t → Proves t q (take r.lean ancestors) → height t ≡ r.height → r.height ≤ depth → lines_in t ≡ r.lines → r.lines ≤ 500000 → HasSketchTexts t → IsRefutation r q depth ancestors
by_tree r t q depth ancestors e proves high low counted few texts = record {
  proves = subst (λ (s : Tree). Proves s q (take r.lean ancestors)) (sym e) proves;
  high = ap height e ∙ high;
  low = low;
  counted = ap lines_in e ∙ counted;
  few = few;
  texts = subst HasSketchTexts (sym e) texts;
}

reason_few : (reason : Reason) → lines_of_reason reason ≤ 2
reason_few (Line r) = omega arith
reason_few (Balance set p) = omega arith

pub refutes_by_rule : (r : Refutation) (reason : Reason) (q : Asked) (ancestors : List Asked) → tree_of r.node ≡ rule reason → (r.height ≡ 0) → (r.lines ≡ lines_of_reason reason) → ReasonSupports q reason → IsRefutation r q 0 ancestors
refutes_by_rule r reason q ancestors e high counted h = by_tree r (rule reason) q 0 ancestors e h (sym high) (omega arith) (sym counted) (omega (arith, reason_few reason)) tt

pub refutes_by_ancestor : (r : Refutation) (k : ℕ) (q : Asked) (ancestors : List Asked) → tree_of r.node ≡ back k → (r.lean ≡ k) → (r.height ≡ 0) → (r.lines ≡ 1) → CoversAt q ancestors k → IsRefutation r q 0 ancestors
refutes_by_ancestor r k q ancestors e lean high counted h =
    let here : Proves (back k) q (take r.lean ancestors) = subst (λ (n : ℕ). Proves (back k) q (take n ancestors)) (sym lean) (ancestor_near k ancestors (λ a. Covers a q) h) in
    by_tree r (back k) q 0 ancestors e here (sym high) (omega arith) (sym counted) (omega arith) tt

pub refutes_alone : (r : Refutation) (t : Tree) (h n : ℕ) (q : Asked) (depth : ℕ) (ancestors : List Asked) → tree_of r.node ≡ t → r.lean ≡ 0 → r.height ≡ h → r.lines ≡ n → h ≤ depth → StandsAlone t q h n → IsRefutation r q depth ancestors
refutes_alone r t h n q depth ancestors e lean high counted low alone =
    let here : Proves t q (take r.lean ancestors) = subst (λ (m : ℕ). Proves t q (take m ancestors)) (sym lean) alone.proves in
    by_tree r t q depth ancestors e here (alone.high ∙ sym high) (omega arith) (alone.counted ∙ sym counted) (omega (arith, alone.few)) alone.texts

pub refutes_by_kids : (r : Refutation) (c : Children) (q : Asked) (done : List Unmove) (below : ℕ) (ancestors : List Asked) → tree_of r.node ≡ expand c.kids → r.lean ≡ c.lean → r.height ≡ c.highest + 1 → r.lines ≡ c.lines + 1 → done ≡ unmoves q → (Reaches [] q → ⊥) → AreChildren c q done below ancestors → IsRefutation r q (suc below) ancestors
refutes_by_kids r c q done below ancestors e lean high counted all elsewhere are =
    let each : ProvesEach c.kids q (unmoves q) (take c.lean ancestors) = subst (λ (us : List Unmove). ProvesEach c.kids q us (take c.lean ancestors)) all are.each in
    let here : Proves (expand c.kids) q (take r.lean ancestors) = subst (λ (m : ℕ). Proves (expand c.kids) q (take m ancestors)) (sym lean) (elsewhere, each) in
    by_tree r (expand c.kids) q (suc below) ancestors e here (omega (arith, are.high)) (omega (arith, are.low)) (omega (arith, are.counted)) (omega (arith, are.few)) are.texts

-- what holds at a depth holds at a greater one
pub refutes_deeper : (r : Refutation) (q : Asked) (depth more : ℕ) (ancestors : List Asked) → depth ≤ more → IsRefutation r q depth ancestors → IsRefutation r q more ancestors
refutes_deeper r q depth more ancestors h f =
    record { proves = f.proves; high = f.high; low = omega (arith, f.low); counted = f.counted; few = f.few; texts = f.texts }

pub refutes_whole : (r : Refutation) (q : Asked) (depth : ℕ) (ancestors : List Asked) → IsRefutation r q depth ancestors → Refutes (tree_of r.node) q depth ancestors
refutes_whole r q depth ancestors f = record {
  proves = proves_below (tree_of r.node) q (take r.lean ancestors) ancestors (whole_extends r.lean ancestors) f.proves;
  low = omega (arith, f.high, f.low);
}

pub refuted : (r : Refutation) (q : Asked) (depth : ℕ) (ancestors : List Asked) → IsRefutation r q depth ancestors → IsByRuleLines (tree_of r.node) → IsRefutable q depth ancestors
refuted r q depth ancestors f lined =
    let w = refutes_whole r q depth ancestors f in refutable_by (tree_of r.node) q depth ancestors w.proves lined w.low

pub alone : (r : Refutation) (q : Asked) (depth : ℕ) (ancestors : List Asked) → IsRefutation r q depth ancestors → r.lean ≡ 0 → StandsAlone (tree_of r.node) q r.height r.lines
alone r q depth ancestors f none = record {
  proves = subst (λ (n : ℕ). Proves (tree_of r.node) q (take n ancestors)) none f.proves;
  high = f.high;
  counted = f.counted;
  few = f.few;
  texts = f.texts;
}
