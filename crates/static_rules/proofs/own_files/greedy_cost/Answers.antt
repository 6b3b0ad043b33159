use Rattle.std.proofs.Common.{◌≡◌, ◌<◌, ◌≤◌, length, refl, rules, arith}
use Rattle.assignment.specs.Tables.{cost_at}
use Rattle.static_rules.proofs.OwnFiles.{none_given, one_more_given}
use Rattle.static_rules.proofs.own_files.greedy_cost.Goals as goal

pub loop-row-init : goal.loop-row-init
loop-row-init c = none_given c.args.costs.now _ refl

pub loop-row-preserved : goal.loop-row-preserved
loop-row-preserved c =
    let low : c.loop-row.row < length c.args.costs.now = omega (arith, c.loop-row-test.true, c.rows-row-end.ensures.value) in
    let own : c.from-cost.result ≡ cost_at c.args.costs.now c.loop-row.row c.in_ok-file.file = search rules in
    let small : c.from-cost.result ≤ 64 = search rules in
    one_more_given c.args.costs.now c.loop-row.row c.loop-row.cost c.from-cost.result c.in_ok-file.file c.loop-row.taken c.loop-row.invariant low c.in_ok-file.ensures.0 c.in_ok-file.ensures.1 own small
