use Rattle.std.proofs.Common.{ℕ, ◌+◌, ◌&&◌, cond, ap, ◌∙◌, arith}
use Rattle.board_base.specs.Board.{at, is_of}
use Rattle.static_rules.specs.Stayed.{may_be_spent}
use Rattle.static_rules.proofs.AtHome.{may_spend-all, may_spend-few, may_spend-more}
use Rattle.static_rules.proofs.stayed.may_be_spent_of.Goals as goal

pub with_home-n-requires : goal.with_home-n-requires
with_home-n-requires c = omega (arith, may_spend-few c.args.first.now c.args.side c.args.board.now c.args.set c.loop-i.i)

pub loop-i-preserved : goal.loop-i-preserved
loop-i-preserved c =
    may_spend-more c.args.first.now c.args.side c.args.board.now c.args.set c.loop-i.i c.loop-i.n c.with_home-n.result c.loop-i.invariant
    (c.with_home-n.ensures ∙ ap (λ (s : ℕ). c.loop-i.n + cond (is_of c.args.side (at c.args.first.now s) && may_be_spent c.args.first.now c.args.board.now c.args.set s) 1 0) c.known.ensures)

pub returns-clause-number : goal.returns-clause-number
returns-clause-number c = c.loop-i.invariant ∙ may_spend-all c.args.first.now c.args.side c.args.board.now c.args.set c.loop-i.i (omega arith)

pub returns-clause-few : goal.returns-clause-few
returns-clause-few c = omega (arith, may_spend-few c.args.first.now c.args.side c.args.board.now c.args.set c.loop-i.i)
