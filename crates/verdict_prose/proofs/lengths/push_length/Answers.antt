use Rattle.std.proofs.Common.{◌++◌}
use Rattle.std.specs.Prelude.{codes}
use Rattle.prose_words.proofs.Squares.{thence}
use Rattle.verdict_prose.specs.Sentences.{end_words, half_moves}
use Rattle.prose_words.proofs.Behind.{behind}
use Rattle.verdict_prose.proofs.lengths.push_length.Goals as goal

pub returns : goal.returns
returns c =
    let o = c.args.out.now.items in
    let half = half_moves c.args.n in
    let h1 = thence o _ _ (codes "No game leads here in fewer than ") half c.in_ok-say.ensures c.in_ok-push_half_moves.ensures in
    let h2 = thence o _ _ (codes "No game leads here in fewer than " ++ half) (codes ": each ends with ") h1 c.in_ok-say-2.ensures in
    behind c.push_end.result o _ _ (codes "No game leads here in fewer than " ++ half ++ codes ": each ends with ") (end_words c.args.n) h2 c.push_end.ensures
