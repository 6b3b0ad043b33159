use Rattle.std.specs.Prelude.{codes}
use Rattle.prose_words.proofs.Behind.{behind}
use Rattle.sketch_words.specs.Phrases.{deed_words}
use Rattle.sketch_words.proofs.sentences.push_without_a.Goals as goal

pub returns : goal.returns
returns c = behind c.push_deed.result c.args.out.now.items _ _ (codes " Without a ") (deed_words c.args.exact.now) c.in_ok-say.ensures c.push_deed.ensures
