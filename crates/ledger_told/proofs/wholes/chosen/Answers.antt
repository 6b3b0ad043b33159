use Rattle.std.proofs.Common.{arith}
use Rattle.ledger_search.proofs.Found.{found-all, found-none, found-step}
use Rattle.ledger_told.specs.Due.{IsChosen}
use Rattle.ledger_told.proofs.wholes.chosen.Goals as goal

pub loop-i-init : goal.loop-i-init
loop-i-init c = found-none (IsChosen c.args.group c.args.query.now c.args.ledger.now c.args.set) _ c.from_bits-squares.ensures.squares

pub loop-i-preserved : goal.loop-i-preserved
loop-i-preserved c =
    found-step (IsChosen c.args.group c.args.query.now c.args.ledger.now c.args.set) c.loop-i.squares c.with_if-squares.result c.loop-i.i c.known-s.result c.is_chosen.result c.loop-i-test.true c.known-s.ensures c.with_if-squares.ensures c.is_chosen.ensures c.loop-i.invariant

pub returns : goal.returns
returns c =
    let past = c.loop-i.auto.i-end in
    found-all (IsChosen c.args.group c.args.query.now c.args.ledger.now c.args.set) c.loop-i.squares c.loop-i.i (omega arith) c.loop-i.invariant
