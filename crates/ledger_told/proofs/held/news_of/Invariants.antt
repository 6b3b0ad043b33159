use Rattle.std.proofs.Common.{take}
use Rattle.ledger_told.specs.Held.{AreNews}
use Rattle.ledger_told.proofs.held.news_of.Given as goal

abbrev pub invariant-loop-line : goal.invariant-loop-line
invariant-loop-line l = AreNews l.known (take l.line-index l.lines) l.news.items
