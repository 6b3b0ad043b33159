use Rattle.std.proofs.Common.{ℕ, sym, subst}
use Rattle.std.proofs.lemmas.Bool.{both_ways}
use Rattle.ledger_search.specs.Contradictions.{IsContradictedAt}
use Rattle.ledger_search.proofs.Found.{below-more}
use Rattle.ledger_search.proofs.contradictions.is_contradicted.Goals as goal

pub loop-i-preserved : goal.loop-i-preserved
loop-i-preserved c =
    below-more (λ (s : ℕ). IsContradictedAt c.args.query.now c.args.ledger.now s → ⊥) c.loop-i.i c.loop-i.invariant
    (λ is. both_ways c.is_contradicted_at.result c.if-is_contradicted_at.false (c.is_contradicted_at.ensures.1 (subst (IsContradictedAt c.args.query.now c.args.ledger.now) (sym c.known.ensures) is)))
