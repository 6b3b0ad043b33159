use Rattle.std.proofs.Common.{List, ◌++◌, ap, ◌∙◌, arith}
use Rattle.std.specs.List.{flat_map}
use Rattle.std.proofs.lemmas.List.{take_all}
use Rattle.position_report.proofs.Joining.{added-more}
use Rattle.verdict_prose.specs.Sentences.{verdict_text}
use Rattle.position_report.specs.Reports.{verdicts_text}
use Rattle.verdict_prose.specs.declared.verdicts.Verdict.{Verdict}
use Rattle.position_report.proofs.reporting.push_verdicts.Goals as goal

pub loop-verdict-preserved : goal.loop-verdict-preserved
loop-verdict-preserved c =
    added-more (verdict_text c.args.query.now) c.args.out.now.items c.args.verdicts.now c.loop-verdict.verdict-index c.verdict-item.result _ _ c.loop-verdict-test.true c.verdict-item.is c.loop-verdict.invariant c.in_ok-tell_verdict.ensures

pub returns : goal.returns
unfolding verdicts_text
returns c = c.loop-verdict.invariant ∙ ap (λ (l : List Verdict). c.args.out.now.items ++ flat_map (verdict_text c.args.query.now) l) (take_all c.loop-verdict.verdict-index c.args.verdicts.now (omega arith))
