use Rattle.std.proofs.lemmas.Result.{IfOk-weaker}
use Rattle.ledger_told.specs.Held.{with_held}
use Rattle.ledger_told.specs.Told.{IsLineTrue}
use Rattle.ledger_told.proofs.News.{news-all-are}
use Rattle.ledger_told.proofs.held.lines_if_held.Goals as goal

pub returns-clause-told : goal.returns-clause-told
returns-clause-told c =
    IfOk-weaker c.news_of.result _ _
    (λ news are. record { lines = c.in_ok-lines.lines.items; told = rw c.with_held-held.ensures at c.in_ok-lines.ensures; are = rw c.as_slice.ensures.value at are })
    c.news_of.ensures

pub returns-clause-true_ : goal.returns-clause-true_
returns-clause-true_ c =
    let all = c.told_lines_hold.ensures c.with_held-held.result c.in_ok-lines.lines.items c.in_ok-lines.ensures in
    IfOk-weaker c.news_of.result _ _
    (λ news are. news-all-are (IsLineTrue (with_held c.args.query.now c.args.castle)) c.args.known.now c.in_ok-lines.lines.items news.items (rw c.as_slice.ensures.value at are) (rw c.with_held-held.ensures at all))
    c.news_of.ensures
