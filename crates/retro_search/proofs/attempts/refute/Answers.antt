use Rattle.std.proofs.Common.{ℕ, subst}
use Rattle.std.specs.Prelude.{Result, Ok, Err}
use Rattle.query_base.specs.Asked.{Asked}
use Rattle.retro_search.specs.Attempts.{ComesTo, IsPaidSearch, WhereLone}
use Rattle.retro_search.specs.declared.refutations.Refutation.{Refutation}
use Rattle.retro_search.specs.declared.runs.Reasons.{Reasons}
use Rattle.retro_search.specs.declared.unrefuted.Unrefuted.{Unrefuted}
use Rattle.retro_search.proofs.attempts.refute.Goals as goal

-- where no search of the query is lone
never_lone : (came : Result Refutation Unrefuted) (q : Asked) (depth nodes : ℕ) → WhereLone q depth (λ ps. ⊥) → IsPaidSearch came q depth nodes
never_lone (Ok r) q depth nodes never = record { afforded = λ ps n expanded l. absurd (never ps n expanded l); paid = tt; small = tt }
never_lone (Err s) q depth nodes never =
    record { afforded = tt; paid = λ ps n expanded l. absurd (never ps n expanded l); small = λ ps n expanded l. absurd (never ps n expanded l) }

pub returns-in-Err-TooLarge-clause-comes : goal.returns-in-Err-TooLarge-clause-comes
returns-in-Err-TooLarge-clause-comes c =
    subst (λ (r : Reasons). ComesTo c.refute_bare.result c.args.query.now c.args.limits.depth c.args.limits.nodes r) c.attempt.ensures.reasons c.refute_bare.ensures.comes

pub returns-in-Err-TooLarge-clause-lone : goal.returns-in-Err-TooLarge-clause-lone
returns-in-Err-TooLarge-clause-lone c by fresh =
    let first = rw c.in-Err-TooLarge.field-0-is at (c.in-Err-TooLarge.ensures.lone by fresh) in
    never_lone _ c.args.query.now c.args.limits.depth c.args.limits.nodes first.small
