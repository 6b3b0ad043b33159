use Rattle.std.proofs.Common.{◌≡◌, ◌≤◌, ◌⊎◌, ◌∙◌, ℕ, inl, inr}
use Rattle.std.specs.Prelude.{IfErr, Result, Ok, Err}
use Rattle.price_search.specs.FlatPrices.{FlatPricesSupport}
use Rattle.query_base.specs.Asked.{Asked}
use Rattle.retro_search.specs.Attempts.{ComesTo}
use Rattle.retro_search.specs.declared.refutations.Refutation.{Refutation}
use Rattle.retro_search.specs.declared.runs.Reasons.{Reasons}
use Rattle.retro_search.specs.declared.runs.Reasons.TheVariants.{All, RuleLines}
use Rattle.retro_search.specs.declared.unrefuted.Unrefuted.{Unrefuted}
use Rattle.retro_search.specs.declared.unrefuted.Unrefuted.TheVariants.{Memory, TooLarge}
use Rattle.retro_search.proofs.attempts.refute_bare.Goals as goal

err_always : {A E : Type 0} (r : Result A E) (P : E → Type 0) → ((e : E) → P e) → IfErr r P
err_always {A} {E} (Ok a) P h = tt
err_always {A} {E} (Err e) P h = h e

-- A search by rule lines alone does for a search by any reasons, where flat prices don't support the query, and more nodes are allowed
-- than half of those that fill a certificate.
for_any : (came : Result Refutation Unrefuted) (q : Asked) (depth nodes : ℕ) (own any : Reasons) → own ≡ RuleLines → (any ≡ All → FlatPricesSupport q → nodes ≡ 0) → (nodes ≤ 250000 → ⊥) → ComesTo came q depth nodes own → ComesTo came q depth nodes any
for_any came q depth nodes own any by none many w = record {
  refuted = w.refuted;
  lined = λ _. w.lined by;
  unsettled = w.unsettled;
  first = λ _. w.first by;
  deep = w.deep;
  spent = w.spent;
  outsized = w.outsized;
  dear = λ _. w.dear by;
  priced = λ all e. err_always came (λ why. (why ≡ Memory) ⊎ (nodes ≡ 0)) (λ why. inr (none all e));
  unpriced = λ all few. absurd (many few);
}

-- a tree that is too large isn't want of memory
not_memory : (nodes : ℕ) → (TooLarge ≡ Memory) ⊎ (nodes ≡ 0) → nodes ≡ 0
not_memory nodes (inl e) = cc
not_memory nodes (inr none) = none

pub returns-in-Err-TooLarge-clause-comes : goal.returns-in-Err-TooLarge-clause-comes
returns-in-Err-TooLarge-clause-comes c =
    let first = rw c.in-Err-TooLarge.field-0-is at c.in-Err-TooLarge.ensures.comes in
    let few = rw c.in-Err-TooLarge.field-0-is at c.in-Err-TooLarge.ensures.few_nodes in
    for_any _ c.args.query.now c.args.limits.depth c.args.limits.nodes _ _ c.bare-plain.ensures.reasons
    (λ all e. not_memory c.args.limits.nodes (first.priced (c.bare-bare.ensures.reasons ∙ all) e)) (few c.bare-bare.ensures.off) c.attempt-in-Err-TooLarge.ensures.comes
