use Rattle.std.proofs.Common.{List, ◌++◌, ap, ◌∙◌, arith}
use Rattle.std.specs.List.{flat_map}
use Rattle.std.proofs.lemmas.List.{take_all}
use Rattle.line_claims.specs.declared.claims.LineClaim.TheVariants.{NotBoth}
use Rattle.claim_findings.specs.Lines.{decided_steps}
use Rattle.diagram_study.specs.Texts.{pair_lines}
use Rattle.diagram_study.specs.declared.pairs.PairFound.{PairFound}
use Rattle.claim_findings.proofs.Steps.{piece_more}
use Rattle.diagram_study.proofs.pairs.tell_pairs.Goals as goal

pub loop-f-preserved : goal.loop-f-preserved
loop-f-preserved c =
    piece_more (λ (f : PairFound). decided_steps f.finding f.stuck (NotBoth f.first f.second)) c.args.text.now.items c.args.found.now c.loop-f.f-index c.f-item.result _ _ c.loop-f-test.true c.f-item.is c.loop-f.invariant c.in_ok-push_pair.ensures

pub returns : goal.returns
unfolding pair_lines
returns c = c.loop-f.invariant ∙ ap (λ (l : List PairFound). c.args.text.now.items ++ flat_map (λ (f : PairFound). decided_steps f.finding f.stuck (NotBoth f.first f.second)) l) (take_all c.loop-f.f-index c.args.found.now (omega arith))
