use Rattle.std.proofs.Common.{rules}
use Rattle.ledger_prose.specs.News.{is_news}
use Rattle.ledger_prose.proofs.news.news_in.Goals as goal

pub returns : goal.returns
returns c = c.squares_that.ensures (is_news c.args.known.now c.args.set) (λ s b low post. search rules)
