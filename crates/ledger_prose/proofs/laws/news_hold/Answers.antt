use Rattle.ledger_prose.proofs.Newer.{all-news}
use Rattle.ledger_prose.proofs.laws.news_hold.Goals as goal

pub returns : goal.returns
returns c = all-news
