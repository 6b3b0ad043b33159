use Rattle.std.proofs.Common.{◌++◌}
use Rattle.std.specs.Prelude.{codes}
use Rattle.prose_words.proofs.Squares.{thence}
use Rattle.position_report.specs.Proofs.{call_text, position_lines}
use Rattle.position_report.proofs.asking.push_ask.Goals as goal
use Rattle.prose_words.proofs.Behind.{behind}

pub returns : goal.returns
returns c =
    let o = c.args.out.now.items in
    let call = call_text c.args.words.now c.args.limits.depth c.args.limits.nodes (codes " << END\n") in
    let position = position_lines c.args.query.now in
    let h1 = thence o _ _ call position c.in_ok-push_call.ensures c.in_ok-push_position.ensures in
    behind c.say.result o _ _ (call ++ position) (codes "END\n") h1 c.say.ensures
