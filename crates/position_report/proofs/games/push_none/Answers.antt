use Rattle.std.proofs.Common.{◌++◌}
use Rattle.std.specs.Prelude.{codes}
use Rattle.prose_words.proofs.Squares.{thence}
use Rattle.position_report.proofs.games.push_none.Goals as goal
use Rattle.prose_words.proofs.Behind.{behind}

pub returns : goal.returns
returns c =
    let o = c.args.out.now.items in
    let whose = c.args.whose.now in
    let h1 = thence o _ _ (codes "The game of no moves leads here") whose c.in_ok-say.ensures c.in_ok-say-2.ensures in
    behind c.say-3.result o _ _ (codes "The game of no moves leads here" ++ whose) (codes ".") h1 c.say-3.ensures
