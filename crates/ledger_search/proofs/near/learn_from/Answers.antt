use Rattle.ledger_search.proofs.Grown.{grows}
use Rattle.ledger_search.proofs.near.learn_from.Goals as goal

pub returns-then-spare-le-SPARE : goal.returns-then-spare-le-SPARE
returns-then-spare-le-SPARE c = grows c.args.query.now c.args.account.now.set c.args.account.now.prices c.args.ledger.now c.learn.result c.learn.ensures
