use Rattle.ledger_search.proofs.Learned.{lowers}
use Rattle.ledger_search.proofs.counts.lowered.Goals as goal

pub returns : goal.returns
returns c = lowers c.args.query.now c.args.account.now.set c.args.account.now.prices c.args.side c.args.squares c.args.most c.most_count.result c.min.result c.most_count.ensures.few c.most_count.ensures.refuted c.min.ensures
