use Rattle.std.proofs.Common.{arith, slice_index}
use Rattle.assignment.proofs.nearest.slack.Goals as goal

pub overflow_add-result : goal.overflow_add-result
overflow_add-result g c =
    let cost = c.requires.table.costs (slice_index c.args.p.now.rows c.args.m) (slice_index c.args.p.now.columns c.args.e) in
    let price = c.requires.sound.prices_small 32767 c.requires.table.costs c.args.e c.requires.to in
    omega arith
