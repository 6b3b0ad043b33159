use Rattle.std.proofs.Common.{◌∙◌, inr, sym, subst}
use Rattle.general_lemmas.proofs.Splits.{up_to}
use Rattle.diagram_study.specs.Looks.{AreHeights}
use Rattle.diagram_study.proofs.Looking.{heights_more, heights_past}
use Rattle.diagram_study.proofs.joining.greatest_height.Goals as goal
use Rattle.diagram_study.proofs.joining.greatest_height.Goals.{then-not-is_move+in-Refuted, else-not-is_move}

pub loop-seen-preserved : goal.loop-seen-preserved
loop-seen-preserved c =
    let grown = up_to c.args.looked.now c.loop-seen.seen-index c.seen-item.result c.loop-seen-test.true c.seen-item.is in
    elim c.if-not-is_move.branch [
      | then-not-is_move+in-Refuted w ↦
          subst (AreHeights c.args.but.now _) (sym (w.greatest-is ∙ w.max-greatest.ensures))
          (heights_more c.args.but.now _ _ c.seen-item.result c.loop-seen.greatest w.in-Refuted.height c.loop-seen.invariant (inr (sym c.is_move.ensures.answer ∙ w.if-not-is_move.true, w.in-Refuted.is)) grown)
      | else-not-is_move w ↦
          subst (AreHeights c.args.but.now _) (sym w.greatest-is)
          (heights_past c.args.but.now _ _ c.seen-item.result c.loop-seen.greatest c.loop-seen.invariant (sym c.is_move.ensures.answer ∙ w.if-not-is_move.false) grown)
    ]
