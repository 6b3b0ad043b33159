use Rattle.std.proofs.Common.{arith}
use Rattle.ledger_search.proofs.Found.{found-all, found-none, found-step}
use Rattle.ledger_search.proofs.Learned.{IsFoundAt, finds}
use Rattle.ledger_search.proofs.learning.more.Goals as goal

pub loop-i-init : goal.loop-i-init
loop-i-init c = found-none (IsFoundAt c.args.query.now c.args.account.now.set c.args.account.now.prices c.args.question.now c.args.found) _ c.from_bits-squares.ensures.squares

pub loop-i-preserved : goal.loop-i-preserved
loop-i-preserved c =
    found-step (IsFoundAt c.args.query.now c.args.account.now.set c.args.account.now.prices c.args.question.now c.args.found) c.loop-i.squares c.with_if-squares.result c.loop-i.i c.known-s.result c.is_found.result c.loop-i-test.true c.known-s.ensures c.with_if-squares.ensures c.is_found.ensures c.loop-i.invariant

pub returns : goal.returns
returns c =
    let past = c.loop-i.auto.i-end in
    finds c.args.query.now c.args.account.now.set c.args.account.now.prices c.args.question.now c.args.found c.loop-i.squares
    (found-all (IsFoundAt c.args.query.now c.args.account.now.set c.args.account.now.prices c.args.question.now c.args.found) c.loop-i.squares c.loop-i.i (omega arith) c.loop-i.invariant)
