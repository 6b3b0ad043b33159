use Rattle.std.proofs.Common.{◌≡◌, map, take}
use Rattle.ledger_prose.specs.News.{news_of}
use Rattle.ledger_prose.proofs.news.news_of_all.Given as goal

abbrev pub invariant-loop-line : goal.invariant-loop-line
invariant-loop-line l = l.news.items ≡ map (news_of l.known) (take l.line-index l.lines)
