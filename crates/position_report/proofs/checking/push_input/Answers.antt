use Rattle.std.proofs.Common.{◌++◌}
use Rattle.std.specs.Prelude.{codes}
use Rattle.prose_words.proofs.Squares.{thence}
use Rattle.cert_text.specs.ClaimLines.{claim_text}
use Rattle.position_report.specs.Proofs.{call_text, ended, input_text, position_lines}
use Rattle.position_report.proofs.checking.push_input.Goals as goal
use Rattle.prose_words.proofs.Behind.{behind}

pub returns : goal.returns
unfolding input_text
returns c =
    let o = c.args.out.now.items in
    let call = call_text (codes "To check it:\nretractor settle ") c.args.limits.depth c.args.limits.nodes (codes " << END | retractor check\n") in
    let claim = ended (claim_text c.args.shown.now.claim) in
    let position = position_lines c.args.shown.now.query in
    let h1 = thence o _ _ call claim c.in_ok-push_call.ensures c.in_ok-push_claim.ensures in
    let h2 = thence o _ _ (call ++ claim) position h1 c.in_ok-push_position.ensures in
    behind c.say.result o _ _ (call ++ claim ++ position) (codes "END\n") h2 c.say.ensures
