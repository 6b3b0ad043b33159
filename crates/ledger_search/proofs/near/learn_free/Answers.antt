use Rattle.ledger_search.proofs.Grown.{grown-on}
use Rattle.ledger_search.proofs.near.learn_free.Goals as goal

pub returns : goal.returns
returns c =
    let q = c.args.query.now in
    grown-on q c.args.ledger.now c.learn_by.result c.learn_by-2.result (grown-on q c.args.ledger.now c.learn_files-files.result c.learn_by.result c.learn_files-files.ensures c.learn_by.ensures) c.learn_by-2.ensures
