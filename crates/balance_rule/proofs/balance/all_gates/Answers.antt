use Rattle.std.proofs.Common.{◌≡◌, List, true, arith, ap, ◌∙◌}
use Rattle.std.proofs.lemmas.List.Sums.{sum_by_more}
use Rattle.capture_prices.specs.declared.prices.Gate.{Gate}
use Rattle.capture_prices.specs.Prices.{are_ascending}
use Rattle.balance_rule.proofs.Gates.{are-gates, gate-low}
use Rattle.balance_rule.proofs.balance.all_gates.Goals as goal

pub loop-gate-preserved : goal.loop-gate-preserved
loop-gate-preserved c =
    let gates : List Gate = c.gates-gate-items.result.now in
    let none : Gate = record { square = 0; toll = 0 } in
    let ascending : are_ascending 0 gates ≡ true = ap (are_ascending 0) c.gates-gate-items.ensures.value ∙ are-gates c.args.prices.now c.gates-gate-items.ensures.range in
    let low = gate-low 0 gates c.loop-gate.gate-index none ascending c.loop-gate-test.true in
    let more = sum_by_more (λ (g : Gate). g.toll) gates c.loop-gate.gate-index none c.loop-gate-test.true in
    record {
      number = omega (arith, more, c.from-all.ensures, c.loop-gate.invariant.number);
      small = omega (arith, low, c.from-all.ensures, c.loop-gate.invariant.small);
    }
