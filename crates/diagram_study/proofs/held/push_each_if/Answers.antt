use Rattle.std.proofs.Common.{List, ◌++◌, ap, ◌∙◌, arith}
use Rattle.std.specs.List.{flat_map}
use Rattle.std.proofs.lemmas.List.{take_all}
use Rattle.ledger_told.specs.Line.{Line}
use Rattle.claim_findings.proofs.Steps.{piece_more}
use Rattle.diagram_study.specs.Texts.{if_line, if_lines}
use Rattle.diagram_study.proofs.held.push_each_if.Goals as goal

pub loop-line-preserved : goal.loop-line-preserved
loop-line-preserved c =
    piece_more (if_line c.args.castle) c.args.text.now.items c.args.lines.now c.loop-line.line-index c.line-item.result _ _ c.loop-line-test.true c.line-item.is c.loop-line.invariant c.in_ok-push_if.ensures

pub returns : goal.returns
unfolding if_lines
returns c = c.loop-line.invariant ∙ ap (λ (l : List Line). c.args.text.now.items ++ flat_map (if_line c.args.castle) l) (take_all c.loop-line.line-index c.args.lines.now (omega arith))
