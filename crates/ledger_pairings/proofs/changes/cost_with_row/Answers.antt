use Rattle.std.proofs.Common.{◌+◌, slice_index, arith}
use Rattle.assignment.specs.Tables.{cost_at}
use Rattle.ledger_pairings.proofs.Changed.{row-least, still-least}
use Rattle.ledger_pairings.proofs.changes.cost_with_row.Goals as goal

pub loop-c-preserved : goal.loop-c-preserved
loop-c-preserved c =
    let before = c.loop-c.invariant in
    let x = still-least (λ k. cost_at c.args.rests.now c.args.i k + slice_index c.args.row.now k) c.loop-c.least c.min-least.result c.loop-c.c c.loop-c-test.true before.bound before.reached (omega (arith, c.min-least.ensures, c.from-in-loop-c.ensures)) in
    record { bound = x.0; reached = x.1 }

pub returns : goal.returns
returns c = λ changed is.
    let x = c.loop-c.invariant.reached in
    row-least c.args.rows.now c.args.rests.now changed c.told-rows c.requires.rests is.size c.args.i c.args.row.now c.loop-c.least x.0 c.requires.row is (λ k low. c.loop-c.invariant.bound k (let after = c.loop-c-test.false in omega (arith, after, low))) x.1 x.2
