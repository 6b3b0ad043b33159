use Rattle.std.specs.Prelude.{codes}
use Rattle.prose_words.proofs.Behind.{behind}
use Rattle.sketch_words.specs.Phrases.{or_words, files_words}
use Rattle.sketch_words.proofs.sentences.push_deed.Goals as goal

pub returns : goal.returns
returns c =
    let h0 = c.in_ok-say.ensures in
    behind c.push_or.result c.args.out.now.items _ _ (codes "capture by a pawn or promotion") (or_words (files_words c.args.exact.now)) h0 (rw (c.as_slice.ensures.value, c.in_ok-files.ensures) at c.push_or.ensures)
