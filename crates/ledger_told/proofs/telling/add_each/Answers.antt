use Rattle.std.proofs.Common.{ℕ, subst, arith}
use Rattle.ledger_told.specs.Due.{IsSquareLine}
use Rattle.ledger_told.proofs.Joining.{first-more, first-none, first-whole}
use Rattle.ledger_told.proofs.telling.add_each.Goals as goal

pub loop-i-init : goal.loop-i-init
loop-i-init c = first-none c.args.topic.now c.args.query.now c.args.ledger.now c.args.lines.now.items

pub loop-i-preserved : goal.loop-i-preserved
loop-i-preserved c =
    first-more c.args.topic.now c.args.query.now c.args.ledger.now c.loop-i.i c.square_line-line.result _ _ _ c.loop-i.invariant
    (subst (λ (s : ℕ). IsSquareLine c.args.topic.now c.args.query.now c.args.ledger.now s c.square_line-line.result) c.known.ensures c.square_line-line.ensures)
    c.in_ok-add_line.ensures

pub returns : goal.returns
returns c = first-whole c.args.topic.now c.args.query.now c.args.ledger.now c.loop-i.i 64 _ _ (omega arith) c.loop-i.invariant
