use Rattle.std.specs.Prelude.{codes}
use Rattle.query_base.specs.declared.claims.Claim.TheVariants.{Illegal}
use Rattle.claim_findings.specs.Lines.{found_line}
use Rattle.diagram_study.specs.Texts.{other_line}
use Rattle.ledger_told.proofs.Joining.{ok_then}
use Rattle.diagram_study.proofs.Telling.{joins}
use Rattle.diagram_study.proofs.studies.tell_impossible.Goals as goal

pub returns : goal.returns
returns c =
    ok_then c.push_found-2.result _ _
    (λ e. joins c.args.text.now.items (found_line c.args.finding Illegal) (other_line c.args.against) _ _ c.in_ok-push_found.ensures (joins _ (codes "other side ") (found_line c.args.against Illegal) _ _ c.in_ok-extend_from_slice.ensures.items e))
    c.push_found-2.ensures
