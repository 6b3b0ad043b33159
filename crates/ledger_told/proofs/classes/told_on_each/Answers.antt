use Rattle.std.proofs.Common.{◌≡◌, ℕ, ◌<◌, length, arith, ◌∙◌}
use Rattle.std.proofs.lemmas.List.{length-set}
use Rattle.std.proofs.lemmas.List.FromFn.{fill_by_all}
use Rattle.ledger_search.proofs.Found.{filled-more}
use Rattle.ledger_told.specs.Due.{told_on}
use Rattle.ledger_told.proofs.classes.told_on_each.Goals as goal

pub loop-k-preserved : goal.loop-k-preserved
loop-k-preserved c =
    let inside : c.loop-k.k < length c.loop-k.numbers = omega (arith, c.loop-k-test.true, c.loop-k.invariant.size) in
    record {
      size = length-set c.loop-k.numbers c.loop-k.k c.told_on.result ∙ c.loop-k.invariant.size;
      done = filled-more (λ (k n : ℕ). n ≡ told_on c.args.query.now c.args.ledger.now c.args.side k) c.loop-k.numbers c.loop-k.k c.told_on.result 0 inside c.loop-k.invariant.done c.told_on.ensures;
    }

pub returns : goal.returns
returns c =
    let past = c.loop-k.auto.k-end in
    fill_by_all (told_on c.args.query.now c.args.ledger.now c.args.side) c.loop-k.numbers 16 0 c.loop-k.invariant.size (λ k low. c.loop-k.invariant.done k (omega (arith, low)))
