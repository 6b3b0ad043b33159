use Rattle.std.proofs.Common.{◌≡◌, ◌+◌, ◌∙◌, ℕ, true, set, ap, sym, arith}
use Rattle.balance_rule.specs.LeastWays.{seen_by}
use Rattle.sketch_account.proofs.Aiming.{aimed-end, aimed-no, aimed-start, aimed-yes}
use Rattle.sketch_account.proofs.goals.goals_of.Goals as goal
use Rattle.sketch_account.proofs.goals.goals_of.Goals.{then-is_promoted, else-is_promoted}

pub loop-f-init : goal.loop-f-init
loop-f-init c = λ o p R ground. aimed-start R c.args.ground.now.base.side c.args.ground.now.base.frozen c.args.figure.now c.free_squares-free.result c.pawn_goals-goals.result c.is_whole.ensures c.free_squares-free.ensures c.pawn_goals-goals.ensures

pub loop-f-preserved : goal.loop-f-preserved
loop-f-preserved c = λ o p R ground.
    let g = c.args.ground.now in
    let is = c.is_promoted.ensures o p R ground c.free_squares-free.ensures in
    elim c.if-is_promoted.branch [
      | then-is_promoted w ↦
          let made : c.if-is_promoted.goals ≡ set c.loop-f.goals (seen_by g.base.side (56 + c.loop-f.f)) true = w.goals-is ∙ w.with-goals.ensures ∙ ap (λ (n : ℕ). set c.loop-f.goals n true) w.seen_by.ensures in
          aimed-yes R g.base.side g.base.frozen c.args.figure.now c.loop-f.goals c.if-is_promoted.goals c.loop-f.f c.loop-f-test.true made (sym is ∙ w.if-is_promoted.true) (c.loop-f.invariant o p R ground)
      | else-is_promoted w ↦
          aimed-no R g.base.side g.base.frozen c.args.figure.now c.loop-f.goals c.if-is_promoted.goals c.loop-f.f c.loop-f-test.true w.goals-is (sym is ∙ w.if-is_promoted.false) (c.loop-f.invariant o p R ground)
    ]

pub returns : goal.returns
returns c = λ o p R ground e inside. aimed-end R c.args.ground.now.base.side c.args.ground.now.base.frozen c.args.figure.now c.loop-f.goals c.loop-f.f e (omega arith) inside (c.loop-f.invariant o p R ground)
