use Rattle.std.proofs.Common.{[], refl}
use Rattle.retro_search.proofs.Telling.{has_proof, open_nowhere, refutable_low, spent_nowhere}
use Rattle.retro_search.proofs.Trees.Refuting.{refuted}
use Rattle.retro_search.proofs.searchers.outcome_of.Goals as goal

pub returns-in-Ok-clause-refuted : goal.returns-in-Ok-clause-refuted
returns-in-Ok-clause-refuted c = has_proof c.in-Ok.found c.args.query.now c.args.limits.depth c.in-Ok.ensures.comes.refuted

pub returns-in-Ok-clause-low : goal.returns-in-Ok-clause-low
returns-in-Ok-clause-low c by = refutable_low c.in-Ok.found c.args.query.now c.args.limits.depth c.in-Ok.ensures.comes.refuted (c.in-Ok.ensures.comes.lined by)

pub returns-in-Ok-clause-never_weaker : goal.returns-in-Ok-clause-never_weaker
returns-in-Ok-clause-never_weaker c k n low ref cost few = tt

pub returns-in-Ok-clause-exactly : goal.returns-in-Ok-clause-exactly
returns-in-Ok-clause-exactly c by unspent = (
  λ known. refuted c.in-Ok.found c.args.query.now c.args.limits.depth [] c.in-Ok.ensures.comes.refuted (c.in-Ok.ensures.comes.lined by),
  λ ref. tt,
)

pub returns-in-Err-Open-clause-open : goal.returns-in-Err-Open-clause-open
returns-in-Err-Open-clause-open c e =
    let o = rw c.in-Err-Open.field-0-is at c.in-Err-Open.ensures.comes.unsettled in
    o.unrefuted

pub returns-in-Err-Open-clause-never_weaker : goal.returns-in-Err-Open-clause-never_weaker
returns-in-Err-Open-clause-never_weaker c =
    open_nowhere _ c.args.query.now c.args.limits.depth _ (rw c.in-Err-Open.field-0-is at c.in-Err-Open.ensures.comes.unsettled)

pub returns-in-Err-Open-clause-exactly : goal.returns-in-Err-Open-clause-exactly
returns-in-Err-Open-clause-exactly c by unspent =
    let o = rw c.in-Err-Open.field-0-is at c.in-Err-Open.ensures.comes.unsettled in (λ known. absurd known, λ ref. o.unrefuted ref)

pub returns-in-Err-Spent-clause-spent : goal.returns-in-Err-Spent-clause-spent
returns-in-Err-Spent-clause-spent c e = rw c.in-Err-Spent.field-0-is at c.in-Err-Spent.ensures.comes.spent

pub returns-in-Err-Spent-clause-never_weaker : goal.returns-in-Err-Spent-clause-never_weaker
returns-in-Err-Spent-clause-never_weaker c =
    spent_nowhere c.args.limits.nodes _ c.args.limits.depth _ (rw c.in-Err-Spent.field-0-is at c.in-Err-Spent.ensures.comes.spent)

pub returns-in-Err-Spent-clause-exactly : goal.returns-in-Err-Spent-clause-exactly
returns-in-Err-Spent-clause-exactly c by unspent = absurd (unspent refl)

pub returns-in-Err-Spent-clause-large : goal.returns-in-Err-Spent-clause-large
returns-in-Err-Spent-clause-large c e = rw c.in-Err-Spent.field-0-is at c.in-Err-Spent.ensures.comes.outsized
