-- What a search came to is kept where lines of prices serve several siblings.
use Rattle.std.proofs.Common.{◌≡◌, ℕ, inl, refl, [], ◌∙◌, sym, subst, take, arith}
use Rattle.std.specs.Prelude.{IfErr, IfOk, Result, Ok, Err}
use Rattle.query_base.specs.Asked.{Asked}
use Rattle.cert_text.specs.Seen.{tree_of}
use Rattle.price_sharing.proofs.Repriced.{same_tree, still_proves}
use Rattle.sketch_findings.specs.Proving.{Proves}
use Rattle.retro_search.specs.Attempts.{ComesTo, IsPaidSearch}
use Rattle.retro_search.specs.Kept.{IsRefutation}
use Rattle.retro_search.specs.RuleLines.{IsByRuleLines}
use Rattle.retro_search.specs.SharedLines.{IsSameButLines, IsShared}
use Rattle.retro_search.specs.declared.refutations.Refutation.{Refutation}
use Rattle.retro_search.specs.declared.runs.Reasons.{Reasons}
use Rattle.retro_search.specs.declared.runs.Reasons.TheVariants.{RuleLines}
use Rattle.retro_search.specs.declared.unrefuted.Unrefuted.{Unrefuted}
use Rattle.retro_search.specs.declared.unrefuted.Unrefuted.TheVariants.{Memory}
use Rattle.retro_search.proofs.Trees.Repriced.{height_kept, lines_kept, texts_kept}

-- what is left as it is
pub left_alone : (came new : Result Refutation Unrefuted) (q : Asked) → new ≡ came → IsShared came q new
left_alone (Ok r) new q same =
    subst (λ (c : Result Refutation Unrefuted). IsShared (Ok r) q c) (sym same) (record { tree = same_tree (tree_of r.node) q; lean = refl; height = refl; lines = refl })
left_alone (Err why) new q same = same

-- why a query wasn't refuted stays, unless memory is wanting
pub still_stopped : (came new : Result Refutation Unrefuted) (q : Asked) (P : Unrefuted → Type 0) → IsShared came q new → P Memory → IfErr came P → IfErr new P
still_stopped (Ok r) (Ok s) q P same memory h = tt
still_stopped (Ok r) (Err why) q P same memory h = subst P (sym same) memory
still_stopped (Err why) new q P same memory h = subst (λ (c : Result Refutation Unrefuted). IfErr c P) (sym same) h

-- and a refutation stays one
still_found : (came new : Result Refutation Unrefuted) (q : Asked) (P Q : Refutation → Type 0) → IsShared came q new → ((r s : Refutation) → IsSameButLines r q s → P r → Q s) → IfOk came P → IfOk new Q
still_found (Ok r) (Ok s) q P Q same kept h = kept r s same h
still_found (Ok r) (Err why) q P Q same kept h = tt
still_found (Err why) new q P Q same kept h = subst (λ (c : Result Refutation Unrefuted). IfOk c Q) (sym same) tt

still_refutes : (q : Asked) (depth : ℕ) (r s : Refutation) → IsSameButLines r q s → IsRefutation r q depth [] → IsRefutation s q depth []
still_refutes q depth r s same is = record {
  proves = subst (λ (n : ℕ). Proves (tree_of s.node) q (take n [])) (sym same.lean) (still_proves (tree_of r.node) (tree_of s.node) q (take r.lean []) same.tree is.proves);
  high = height_kept (tree_of r.node) (tree_of s.node) q same.tree ∙ is.high ∙ sym same.height;
  low = omega (arith, same.height, is.low);
  counted = lines_kept (tree_of r.node) (tree_of s.node) q same.tree ∙ is.counted ∙ sym same.lines;
  few = omega (arith, same.lines, is.few);
  texts = texts_kept (tree_of r.node) (tree_of s.node) q same.tree is.texts;
}

-- so the search comes to what it came to
pub still_comes : (came new : Result Refutation Unrefuted) (q : Asked) (depth nodes : ℕ) (reasons : Reasons) → IsShared came q new → (reasons ≡ RuleLines → new ≡ came) → ComesTo came q depth nodes reasons → ComesTo new q depth nodes reasons
still_comes came new q depth nodes reasons same lined c = record {
  refuted = still_found came new q _ _ same (still_refutes q depth) c.refuted;
  lined = λ by. subst (λ (x : Result Refutation Unrefuted). IfOk x (λ found. IsByRuleLines (tree_of found.node))) (sym (lined by)) (c.lined by);
  unsettled = still_stopped came new q _ same tt c.unsettled;
  first = λ by. still_stopped came new q _ same tt (c.first by);
  deep = still_stopped came new q _ same tt c.deep;
  spent = still_stopped came new q _ same tt c.spent;
  outsized = still_stopped came new q _ same tt c.outsized;
  dear = λ by. still_stopped came new q _ same tt (c.dear by);
  priced = λ by e. still_stopped came new q _ same (inl refl) (c.priced by e);
  unpriced = λ by few. still_stopped came new q _ same tt (c.unpriced by few);
}

pub still_paid : (came new : Result Refutation Unrefuted) (q : Asked) (depth nodes : ℕ) → new ≡ came → IsPaidSearch came q depth nodes → IsPaidSearch new q depth nodes
still_paid came new q depth nodes same paid = subst (λ (c : Result Refutation Unrefuted). IsPaidSearch c q depth nodes) (sym same) paid
