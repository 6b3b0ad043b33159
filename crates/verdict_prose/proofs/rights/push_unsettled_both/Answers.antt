use Rattle.std.specs.Prelude.{codes}
use Rattle.verdict_prose.specs.Sentences.{may_both_words}
use Rattle.prose_words.proofs.Behind.{behind}
use Rattle.verdict_prose.proofs.rights.push_unsettled_both.Goals as goal

pub returns : goal.returns
returns c = behind c.push_may_both.result c.args.out.now.items _ _ (codes "Not settled: whether ") (may_both_words c.args.first c.args.second) c.in_ok-say.ensures c.push_may_both.ensures
