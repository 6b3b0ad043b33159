use Rattle.std.proofs.Common.{◌+◌, slice_index, arith}
use Rattle.assignment.specs.Tables.{cost_at}
use Rattle.ledger_pairings.proofs.Changed.{column-least, still-least}
use Rattle.ledger_pairings.proofs.changes.cost_with_column.Goals as goal

pub loop-r-preserved : goal.loop-r-preserved
loop-r-preserved c =
    let before = c.loop-r.invariant in
    let x = still-least (λ k. cost_at c.args.rests.now k c.args.j + slice_index c.args.column.now k) c.loop-r.least c.min-least.result c.loop-r.r c.loop-r-test.true before.bound before.reached (omega (arith, c.min-least.ensures, c.from-in-loop-r.ensures)) in
    record { bound = x.0; reached = x.1 }

pub returns : goal.returns
returns c = λ changed is.
    let x = c.loop-r.invariant.reached in
    column-least c.args.rows.now c.args.rests.now changed c.told-rows c.requires.rests is.size c.args.j c.args.column.now c.loop-r.least x.0 c.requires.column is (λ k low. c.loop-r.invariant.bound k (let after = c.loop-r-test.false in omega (arith, after, low))) x.1 x.2
