use Rattle.std.proofs.Common.{inl, inr}
use Rattle.std.proofs.lemmas.Result.{IfOk-weaker}
use Rattle.std.proofs.lemmas.Bool.{both_ways}
use Rattle.proof_sentences.proofs.balancing.push_by_prices.Goals as goal

pub returns-then-counts_for : goal.returns-then-counts_for
returns-then-counts_for c =
    IfOk-weaker c.push_counted.result _ _ (λ done told. inl (rw c.lowered-plain.ensures at c.counts_for.ensures.0 c.if-counts_for.true, told)) (rw c.lowered-plain.ensures at c.push_counted.ensures)

pub returns-else-counts_for : goal.returns-else-counts_for
returns-else-counts_for c =
    IfOk-weaker c.push_priced.result _ _ (λ done told. inr (λ h. both_ways _ c.if-counts_for.false (c.counts_for.ensures.1 (rw c.lowered-plain.ensures h)), told)) c.push_priced.ensures
