use Rattle.std.proofs.Common.{◌++◌}
use Rattle.std.specs.Prelude.{codes}
use Rattle.prose_words.proofs.Squares.{thence}
use Rattle.line_claims.specs.Lines.{line_claim_text}
use Rattle.position_report.specs.Proofs.{call_text, ended, line_input, position_lines}
use Rattle.position_report.proofs.line_help.push_input.Goals as goal
use Rattle.prose_words.proofs.Behind.{behind}

pub returns : goal.returns
unfolding line_input
returns c =
    let o = c.args.out.now.items in
    let call = call_text c.args.words.now c.args.limits.depth c.args.limits.nodes (codes " << END | retractor explain\n") in
    let claim = ended (line_claim_text c.args.claim.now) in
    let position = position_lines c.args.query.now in
    let h1 = thence o _ _ call claim c.in_ok-push_call.ensures c.in_ok-push_claim.ensures in
    let h2 = thence o _ _ (call ++ claim) position h1 c.in_ok-push_position.ensures in
    behind c.say.result o _ _ (call ++ claim ++ position) (codes "END\n") h2 c.say.ensures
