use Rattle.std.proofs.Common.{◌++◌}
use Rattle.std.specs.Prelude.{codes}
use Rattle.std.specs.Fmt.{decimal}
use Rattle.prose_words.proofs.Squares.{thence}
use Rattle.verdict_prose.specs.Moves.{remain_word}
use Rattle.prose_words.proofs.Behind.{behind}
use Rattle.verdict_prose.proofs.last_moves.push_some_left.Goals as goal

pub returns : goal.returns
returns c =
    let o = c.args.out.now.items in
    let n = decimal c.args.n in
    let all = decimal c.args.all in
    let h1 = thence o _ _ (codes "Of the ") all c.in_ok-say.ensures c.in_ok-push_number.ensures in
    let h2 = thence o _ _ (codes "Of the " ++ all) (codes " conceivable last moves ") h1 c.in_ok-say-2.ensures in
    let h3 = thence o _ _ (codes "Of the " ++ all ++ codes " conceivable last moves ") n h2 c.in_ok-push_number-2.ensures in
    behind c.say-3.result o _ _ (codes "Of the " ++ all ++ codes " conceivable last moves " ++ n) (remain_word c.args.n) h3 (rw c.remain_word.ensures at c.say-3.ensures)
