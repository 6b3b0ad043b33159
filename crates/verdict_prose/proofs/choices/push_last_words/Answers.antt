use Rattle.std.proofs.Common.{◌++◌}
use Rattle.std.specs.Prelude.{None, codes}
use Rattle.prose_words.proofs.Squares.{thence}
use Rattle.verdict_prose.specs.Choices.{choice_from, last_words}
use Rattle.prose_words.proofs.Behind.{behind}
use Rattle.verdict_prose.proofs.choices.push_last_words.Goals as goal

pub returns : goal.returns
unfolding last_words
returns c =
    let o = c.args.out.now.items in
    let choice = choice_from (codes " or ") None c.args.board.now c.args.left.now in
    let h1 = thence o _ _ (codes "The last move was ") choice c.in_ok-say.ensures c.in_ok-push_choice.ensures in
    behind c.say-2.result o _ _ (codes "The last move was " ++ choice) (codes ".") h1 c.say-2.ensures
