use Rattle.std.proofs.Common.{arith}
use Rattle.ledger_rule.proofs.Counted.{counts-most}
use Rattle.ledger_rule.proofs.counting.least_count.Goals as goal

pub returns-clause-refuted : goal.returns-clause-refuted
returns-clause-refuted c = λ n low.
    let both = counts-most c.args.query.now c.args.account.now c.args.side c.args.squares n c.in-Some.cost c.requires c.in-Some.ensures.0 c.in-Some.ensures.1 in (
      λ less. both.0 (omega (arith, less, c.from.ensures, c.saturating_sub.ensures, c.min-over.ensures)),
      λ it. let above = both.1 it in omega (arith, above, low, c.from.ensures, c.saturating_sub.ensures, c.min-over.ensures),
    )
