use Rattle.std.proofs.Common.{◌++◌}
use Rattle.std.specs.Prelude.{codes}
use Rattle.board_base.specs.Texts.{square_text}
use Rattle.prose_words.proofs.Squares.{thence}
use Rattle.proof_story.specs.Movers.{became}
use Rattle.verdict_prose.specs.Sentences.{move_words}
use Rattle.prose_words.proofs.Behind.{behind}
use Rattle.verdict_prose.proofs.claims.push_move.Goals as goal

pub returns : goal.returns
unfolding move_words
returns c =
    let o = c.args.out.now.items in
    let from = square_text c.args.m.now.from in
    let to = square_text c.args.m.now.to in
    let h1 = thence o _ _ (codes "from ") from c.in_ok-say.ensures c.in_ok-push_square.ensures in
    let h2 = thence o _ _ (codes "from " ++ from) (codes " to ") h1 c.in_ok-say-2.ensures in
    let h3 = thence o _ _ (codes "from " ++ from ++ codes " to ") to h2 c.in_ok-push_square-2.ensures in
    behind c.push_became.result o _ _ (codes "from " ++ from ++ codes " to " ++ to) (became c.args.m.now.promo) h3 c.push_became.ensures
