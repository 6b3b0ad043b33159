use Rattle.std.proofs.Common.{◌++◌}
use Rattle.std.specs.Prelude.{codes}
use Rattle.prose_words.proofs.Squares.{thence}
use Rattle.prose_words.proofs.Behind.{behind}
use Rattle.sketch_words.specs.Words.{men_words}
use Rattle.sketch_words.specs.Phrases.{neither_words}
use Rattle.sketch_words.proofs.sentences.push_kept.Goals as goal

pub returns : goal.returns
returns c =
    let h0 = c.in_ok-say.ensures in
    let h1 = thence c.args.out.now.items _ _ (codes " By the right to castle the") (men_words c.args.kept.now) h0 (c.in_ok-push_men.ensures) in
    let h2 = thence c.args.out.now.items _ _ ((codes " By the right to castle the") ++ (men_words c.args.kept.now)) (codes " never moved") h1 (c.in_ok-say-2.ensures) in
    let h3 = thence c.args.out.now.items _ _ (((codes " By the right to castle the") ++ (men_words c.args.kept.now)) ++ (codes " never moved")) (neither_words c.args.others.now) h2 (c.in_ok-push_neither.ensures) in
    behind c.say-3.result c.args.out.now.items _ _ ((((codes " By the right to castle the") ++ (men_words c.args.kept.now)) ++ (codes " never moved")) ++ (neither_words c.args.others.now)) (codes ".") h3 (c.say-3.ensures)
