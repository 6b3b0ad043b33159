use Rattle.std.specs.Prelude.{codes}
use Rattle.verdict_prose.specs.Sentences.{whether_words}
use Rattle.prose_words.proofs.Behind.{behind}
use Rattle.verdict_prose.proofs.claims.push_unsettled.Goals as goal

pub returns : goal.returns
returns c = behind c.push_whether.result c.args.out.now.items _ _ (codes "Not settled: whether ") (whether_words c.args.claim.now) c.in_ok-say.ensures c.push_whether.ensures
