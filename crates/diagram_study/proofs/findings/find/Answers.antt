use Rattle.std.specs.Prelude.{IsTrue, None}
use Rattle.std.proofs.Common.{sym, ◌∙◌}
use Rattle.board_base.specs.Legal.{is_move}
use Rattle.board_base.specs.declared.unmoves.Unmove.{Unmove}
use Rattle.claim_findings.specs.Findings.{is_proved}
use Rattle.diagram_study.proofs.JoinedTrees.{all_none, array_then}
use Rattle.diagram_study.proofs.findings.find.Goals as goal

pub unproved-requires-clause-array : goal.unproved-requires-clause-array
unproved-requires-clause-array c =
    array_then c.args.subject.now.query c.args.subject.now.limits.depth c.in_ok-seen.seen.left (is_proved c.joined_up-joined.result)
    (λ some elsewhere empty. c.joined_up-joined.ensures.sure some elsewhere (all_none (λ (u : Unmove). IsTrue (is_move None u.mv)) c.in_ok-seen.seen.left empty))
    (sym c.is_proved-2.ensures ∙ c.if-is_proved-2.false)
