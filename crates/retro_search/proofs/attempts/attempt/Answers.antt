use Rattle.std.proofs.Common.{◌≡◌, ℕ, ◌<◌, ◌∙◌, inl, inr, List, [], reverse, sym, subst, arith}
use Rattle.std.specs.Prelude.{IfErr, IfOk}
use Rattle.query_base.specs.Asked.{Asked}
use Rattle.retro_search.specs.Costs.{IsCost}
use Rattle.retro_search.specs.Kept.{IsRefutation}
use Rattle.retro_search.specs.SearchSizes.{IsSearchSize}
use Rattle.retro_search.specs.Searched.{IsCounted, IsOpen, IsUnsettled}
use Rattle.retro_search.specs.Unrefuted.{IfOpen, IfSpent}
use Rattle.retro_search.specs.Unsettled.{WhereRefutable}
use Rattle.retro_search.specs.declared.runs.Reasons.{Reasons}
use Rattle.retro_search.proofs.Bound.Goods.{root_afforded, root_paid, root_small}
use Rattle.retro_search.proofs.Costs.Deeper.{deeper_cost, deeper_refutable}
use Rattle.retro_search.proofs.Expansions.{if_err, if_large, if_spent}
use Rattle.retro_search.proofs.Roots.{if_ok}
use Rattle.retro_search.proofs.attempts.attempt.Goals as goal

-- where the cost at the depth is above the nodes, it is so at each depth up to it
counted_at : (reasons : Reasons) (nodes : ℕ) (q : Asked) (depth : ℕ) (above : List Asked) → above ≡ [] → (IsCounted reasons q depth (reverse above) → (n : ℕ) → IsCost q depth (reverse above) n → nodes < n) → WhereRefutable q depth (λ n. nodes < n)
counted_at reasons nodes q depth above none cost k n low ref own =
    let here : IsCounted reasons q depth [] → (m : ℕ) → IsCost q depth [] m → nodes < m = subst (λ (l : List Asked). IsCounted reasons q depth (reverse l) → (m : ℕ) → IsCost q depth (reverse l) m → nodes < m) none cost in
    here (inr (deeper_refutable q k depth [] low ref)) n (deeper_cost q k depth [] n low ref own)

pub search-requires-clause-sound : goal.search-requires-clause-sound
search-requires-clause-sound c = c.requires.sound

pub search-requires-clause-lined : goal.search-requires-clause-lined
search-requires-clause-lined c = c.requires.lined

pub returns-clause-comes : goal.returns-clause-comes
returns-clause-comes c =
    let q : Asked = c.args.query.now in
    let depth : ℕ = c.args.limits.depth in
    let none = c.new-ancestors.ensures.items in
    record {
      refuted = subst (λ (l : List Asked). IfOk c.search.result (λ found. IsRefutation found q depth (reverse l))) none c.search.ensures.refuted;
      lined = c.search.ensures.lined;
      unsettled = subst (λ (l : List Asked). IfErr c.search.result (λ s. IfOpen s (λ line. IsUnsettled line q depth (reverse l)))) none c.search.ensures.unsettled;
      first = λ by. subst (λ (l : List Asked). IfErr c.search.result (λ s. IfOpen s (λ line. IsOpen line q depth (reverse l)))) none (c.search.ensures.unrefuted by);
      deep = c.search.ensures.deep;
      spent = if_err c.search.result _ _ (λ s. if_spent s _ _ (counted_at _ c.args.limits.nodes q depth _ none)) c.search.ensures.spent;
      outsized = subst (λ (l : List Asked). IfErr c.search.result (λ s. IfSpent s ((n : ℕ) → IsSearchSize q depth (reverse l) n → c.args.limits.nodes < n))) none c.search.ensures.outsized;
      dear = λ by.
          subst (λ (l : List Asked). IfErr c.search.result (λ s. IfSpent s ((n : ℕ) → IsCost q depth (reverse l) n → c.args.limits.nodes < n))) none
          (if_err c.search.result _ _ (λ s. if_spent s _ _ (λ cost. cost (inl by))) c.search.ensures.spent);
      priced = λ by e. c.search.ensures.priced by e;
      unpriced = λ by few. c.search.ensures.unpriced by;
    }

pub returns-clause-plain : goal.returns-clause-plain
returns-clause-plain c by off =
    if_err c.search.result _ _ (λ s. if_large s _ _ (λ on. on off)) (c.search.ensures.too_large by)

pub returns-clause-few_nodes : goal.returns-clause-few_nodes
returns-clause-few_nodes c off few =
    if_err c.search.result _ _ (λ s. if_large s _ _ (λ many. let above = many off in omega (arith, above, few))) c.search.ensures.few_visits

pub returns-clause-lone : goal.returns-clause-lone
returns-clause-lone c by fresh =
    let q : Asked = c.args.query.now in
    let depth : ℕ = c.args.limits.depth in
    let none = c.new-ancestors.ensures.items in
    record {
      afforded = if_ok c.search.result _ _ (λ found well. root_afforded found q depth _ c.search.new.run _ none fresh c.args.limits.shallow well) (c.search.ensures.well by);
      paid = if_err c.search.result _ _ (λ s paid. root_paid s q depth _ _ none fresh c.args.limits.shallow paid) (c.search.ensures.paid by);
      small = if_err c.search.result _ _ (λ s small. root_small s q depth _ _ none fresh c.args.limits.shallow small) (c.search.ensures.small by);
    }

pub returns-clause-ready : goal.returns-clause-ready
returns-clause-ready c = record {
  sound = c.search.ensures.on.sound;
  lined = λ by. c.search.ensures.keeps (sym c.search.ensures.on.reasons ∙ by);
}
