use Rattle.std.proofs.Common.{sym, ◌∙◌, arith}
use Rattle.diagram_study.proofs.OneMove.{all_pass, has_move, passes_more, some_fails}
use Rattle.claim_findings.proofs.Steps.{some_within}
use Rattle.diagram_study.proofs.retractions.have_move.Goals as goal

pub unwrap-u-requires : goal.unwrap-u-requires
unwrap-u-requires c = rw c.get.ensures (some_within c.args.left.now c.loop-i.i (omega arith))

pub returns-then-not-is_move : goal.returns-then-not-is_move
returns-then-not-is_move c =
    sym (some_fails (has_move c.args.m.now) c.args.left.now c.loop-i.i c.unwrap-u.result (sym c.get.ensures ∙ c.unwrap-u.ensures) (sym c.is_move.ensures.answer ∙ c.if-not-is_move.true))

pub loop-i-preserved : goal.loop-i-preserved
loop-i-preserved c =
    passes_more (has_move c.args.m.now) c.args.left.now c.loop-i.i c.unwrap-u.result (omega arith) (sym c.get.ensures ∙ c.unwrap-u.ensures) (sym c.is_move.ensures.answer ∙ c.if-not-is_move.false) c.loop-i.invariant

pub returns : goal.returns
returns c = sym (all_pass (has_move c.args.m.now) c.args.left.now c.loop-i.i (omega arith) c.loop-i.invariant)
