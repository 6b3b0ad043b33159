use Rattle.std.proofs.Common.{◌≡◌, ◌+◌, ℕ, List, Bool, true, false, cond, set, ap, sym, ◌∙◌, subst, arith}
use Rattle.past_sketches.proofs.Filling.{Filled, empty-start, filled-that}
use Rattle.figures.proofs.Singles.{filled-if}
use Rattle.figures.proofs.sets.squares_that.Goals as goal

pub loop-i-init : goal.loop-i-init
loop-i-init g c = λ p agrees. empty-start p _ c.from_bits-set.ensures.squares

pub loop-i-preserved : goal.loop-i-preserved
loop-i-preserved g c = λ p agrees.
    let same : c.known-s.result ≡ c.loop-i.i = c.known-s.ensures in
    let here : p c.loop-i.i ≡ c.test.result = ap p (sym same) ∙ sym (agrees c.known-s.result c.test.result (omega arith) c.test.ensures) in
    let made : cond c.test.result (set c.loop-i.set c.loop-i.i true) c.loop-i.set ≡ c.with_if-set.result = ap (λ (s : ℕ). cond c.test.result (set c.loop-i.set s true) c.loop-i.set) (sym same) ∙ sym c.with_if-set.ensures in
    subst (λ (l : List Bool). Filled p false l (c.loop-i.i + 1)) made (filled-if p c.loop-i.set c.loop-i.i c.test.result c.loop-i-test.true here (c.loop-i.invariant p agrees))

pub returns : goal.returns
returns g c = λ p agrees. filled-that p c.loop-i.set c.loop-i.i (omega arith) (c.loop-i.invariant p agrees)
