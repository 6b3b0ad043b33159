use Rattle.std.proofs.Common.{arith}
use Rattle.ledger_search.proofs.Found.{found-all, found-none, found-step}
use Rattle.ledger_told.specs.Due.{IsUnsure}
use Rattle.ledger_told.proofs.breeds.unsure.Goals as goal

pub loop-i-init : goal.loop-i-init
loop-i-init c = found-none (IsUnsure c.args.query.now c.args.ledger.now c.args.side c.args.breed) _ c.from_bits-squares.ensures.squares

pub loop-i-preserved : goal.loop-i-preserved
loop-i-preserved c =
    found-step (IsUnsure c.args.query.now c.args.ledger.now c.args.side c.args.breed) c.loop-i.squares c.with_if-squares.result c.loop-i.i c.known-s.result c.is_unsure.result c.loop-i-test.true c.known-s.ensures c.with_if-squares.ensures c.is_unsure.ensures c.loop-i.invariant

pub returns : goal.returns
returns c =
    let past = c.loop-i.auto.i-end in
    found-all (IsUnsure c.args.query.now c.args.ledger.now c.args.side c.args.breed) c.loop-i.squares c.loop-i.i (omega arith) c.loop-i.invariant
