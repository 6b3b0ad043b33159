use Rattle.ledger_search.proofs.Learned.{raises}
use Rattle.ledger_search.proofs.counts.raised.Goals as goal

pub returns : goal.returns
returns c = raises c.args.query.now c.args.account.now.set c.args.account.now.prices c.args.side c.args.squares c.args.least c.least_count.result c.max.result c.least_count.ensures.few c.least_count.ensures.refuted c.max.ensures
