use Rattle.std.proofs.Common.{ℕ, ◌+◌, sym, subst, ◌∙◌, arith}
use Rattle.claim_findings.proofs.OpenFronts.{CutSoFar, cut_done, cut_quiet, cut_told, listed_here}
use Rattle.claim_findings.proofs.fronts.number_told.Goals as goal
use Rattle.claim_findings.proofs.fronts.number_told.Goals.{then-is_telling, else-is_telling}

pub pred-here-requires : goal.pred-here-requires
pred-here-requires c =
    listed_here c.args.query.now c.loop-i.here c.args.line.now c.loop-i.i c.unwrap-u.result c.requires c.loop-i.invariant.here_is (sym c.get.ensures ∙ c.unwrap-u.ensures)

pub loop-i-preserved : goal.loop-i-preserved
loop-i-preserved c =
    let there = sym c.get.ensures ∙ c.unwrap-u.ensures in
    elim c.if-is_telling.branch [
      | then-is_telling w ↦
          cut_told c.args.query.now c.loop-i.here c.pred-here.result c.args.line.now c.loop-i.i c.loop-i.number _ c.unwrap-u.result c.loop-i.invariant there (sym c.is_telling.ensures ∙ w.if-is_telling.true) w.number-is c.pred-here.ensures
      | else-is_telling w ↦
          subst (λ (n : ℕ). CutSoFar c.args.query.now c.args.line.now (c.loop-i.i + 1) n c.pred-here.result) (sym w.number-is) (cut_quiet c.args.query.now c.loop-i.here c.pred-here.result c.args.line.now c.loop-i.i c.loop-i.number c.unwrap-u.result c.loop-i.invariant there (sym c.is_telling.ensures ∙ w.if-is_telling.false) c.pred-here.ensures)
    ]

pub returns : goal.returns
returns c =
    cut_done c.args.query.now c.loop-i.here c.args.line.now c.loop-i.i c.loop-i.number c.loop-i.invariant (omega arith) (omega arith) (omega arith)
