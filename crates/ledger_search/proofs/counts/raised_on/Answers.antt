use Rattle.std.proofs.Common.{ℕ, ◌<◌, length, arith, ◌∙◌}
use Rattle.std.specs.Prelude.{slice_index}
use Rattle.std.proofs.lemmas.List.{length-set}
use Rattle.ledger_facts.specs.declared.suppositions.Squares.TheVariants.{Class}
use Rattle.ledger_search.specs.Learning.{Raises}
use Rattle.ledger_search.proofs.Found.{filled-more}
use Rattle.ledger_search.proofs.counts.raised_on.Goals as goal

pub loop-k-preserved : goal.loop-k-preserved
loop-k-preserved c =
    let inside : c.loop-k.k < length c.loop-k.numbers = omega (arith, c.loop-k-test.true, c.loop-k.invariant.size) in
    record {
      size = length-set c.loop-k.numbers c.loop-k.k c.raised.result ∙ c.loop-k.invariant.size;
      done = filled-more (λ (k n : ℕ). Raises c.args.side (Class k) c.args.query.now c.args.account.now.set c.args.account.now.prices (slice_index c.args.least_on k) n) c.loop-k.numbers c.loop-k.k c.raised.result 0 inside c.loop-k.invariant.done c.raised.ensures;
    }

pub returns : goal.returns
returns c = λ k low. let past = c.loop-k.auto.k-end in c.loop-k.invariant.done k (omega (arith, low))
