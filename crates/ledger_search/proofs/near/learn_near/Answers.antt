use Rattle.ledger_search.proofs.Grown.{grown-on}
use Rattle.ledger_search.proofs.near.learn_near.Goals as goal

pub returns : goal.returns
returns c =
    let q = c.args.query.now in
    let old = c.args.ledger.now in
    let white = grown-on q old c.learn_gated-gated.result c.learn_free-white.result c.learn_gated-gated.ensures c.learn_free-white.ensures in
    let black = grown-on q old c.learn_free-white.result c.learn_free-black.result white c.learn_free-black.ensures in
    let white_alone = grown-on q old c.learn_free-black.result c.learn_free-white_alone.result black c.learn_free-white_alone.ensures in
    grown-on q old c.learn_free-white_alone.result c.learn_free.result white_alone c.learn_free.ensures
