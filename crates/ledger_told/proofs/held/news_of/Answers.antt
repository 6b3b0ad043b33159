use Rattle.std.proofs.Common.{arith}
use Rattle.ledger_told.proofs.News.{news-all, news-more}
use Rattle.ledger_told.proofs.held.news_of.Goals as goal

pub loop-line-init : goal.loop-line-init
loop-line-init c = c.new-news.ensures.items

pub loop-line-preserved : goal.loop-line-preserved
loop-line-preserved c =
    news-more c.args.known.now c.args.lines.now c.loop-line.line-index c.line-item.result _ _ c.loop-line-test.true c.line-item.is c.loop-line.invariant c.in_ok-add_new.ensures

pub returns : goal.returns
returns c = news-all c.args.known.now c.args.lines.now c.loop-line.line-index _ (omega arith) c.loop-line.invariant
