use Rattle.std.proofs.Common.{sym, ◌∙◌, arith, below_more}
use Rattle.proof_prose.proofs.Runs.{run-told}
use Rattle.proof_prose.proofs.paragraphs.run_length.Goals as goal

pub returns-then-not-joins_at-clause-run : goal.returns-then-not-joins_at-clause-run
returns-then-not-joins_at-clause-run c =
    run-told c.args.first.now c.args.rest.now c.loop-i.i c.args.first.now (omega (arith, c.loop-i-test.true)) c.loop-i.invariant (λ lt. sym c.joins_at.ensures ∙ c.if-not-joins_at.true)

pub loop-i-preserved : goal.loop-i-preserved
loop-i-preserved c = below_more _ _ c.loop-i.invariant (sym c.joins_at.ensures ∙ c.if-not-joins_at.false)

pub returns-clause-run : goal.returns-clause-run
returns-clause-run c =
    run-told c.args.first.now c.args.rest.now _ c.args.first.now (omega arith) (λ k lt. c.loop-i.invariant k (omega (arith, lt, c.loop-i-test.false))) (λ lt. absurd (omega (arith, lt)))
