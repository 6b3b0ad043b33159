use Rattle.std.proofs.Common.{List, ◌++◌, ap, ◌∙◌, arith}
use Rattle.std.specs.List.{flat_map}
use Rattle.std.proofs.lemmas.List.{take_all}
use Rattle.ledger_told.specs.Line.{Line}
use Rattle.claim_findings.proofs.Steps.{piece_more}
use Rattle.diagram_study.specs.Texts.{held_text, if_lines}
use Rattle.diagram_study.specs.declared.held.HeldFound.{HeldFound}
use Rattle.diagram_study.proofs.held.tell_held.Goals as goal

pub loop-h-preserved : goal.loop-h-preserved
loop-h-preserved c =
    piece_more (λ (h : HeldFound). if_lines h.castle h.lines.items) c.args.text.now.items c.args.held.now c.loop-h.h-index c.h-item.result _ _ c.loop-h-test.true c.h-item.is c.loop-h.invariant
    (c.in_ok-push_each_if.ensures ∙ ap (λ (l : List Line). c.loop-h.text.items ++ if_lines c.h-item.result.castle l) c.as_slice.ensures.value)

pub returns : goal.returns
unfolding held_text
returns c = c.loop-h.invariant ∙ ap (λ (l : List HeldFound). c.args.text.now.items ++ flat_map (λ (h : HeldFound). if_lines h.castle h.lines.items) l) (take_all c.loop-h.h-index c.args.held.now (omega arith))
