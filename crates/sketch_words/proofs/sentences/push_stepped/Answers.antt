use Rattle.std.proofs.Common.{◌++◌, ◌==◌, cond}
use Rattle.std.specs.Prelude.{codes}
use Rattle.prose_words.proofs.Squares.{thence}
use Rattle.prose_words.proofs.Behind.{behind}
use Rattle.sketch_words.specs.Phrases.{without_words}
use Rattle.sketch_words.proofs.sentences.push_stepped.Goals as goal

pub returns : goal.returns
returns c =
    let h1 = thence c.args.out.now.items _ _ (without_words c.args.first c.args.exact.now) c.args.why.now (c.in_ok-push_without.ensures) (c.in_ok-say.ensures) in
    behind c.push_either.result c.args.out.now.items _ _ (without_words c.args.first c.args.exact.now ++ c.args.why.now) (cond (c.args.count == 0) (codes ". But no such move can have been last.") (codes ". So there was such a move. Consider the last one.")) h1 (c.push_either.ensures)
