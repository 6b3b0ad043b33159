use Rattle.std.proofs.Common.{ap}
use Rattle.query_base.specs.Asked.{Asked}
use Rattle.static_rules.proofs.Tested.{more-from}
use Rattle.static_rules.proofs.set_rules.has_more.Goals as goal

pub returns : goal.returns
returns c =
    more-from c.args.query.now c.args.side c.args.set c.excess.result c.counts.result c.living_allowance-allowed.result c.query.inside.odds c.query.inside.board (ap (λ (q : Asked). q.odds) c.query.view_is) (ap (λ (q : Asked). q.board) c.query.view_is) c.excess.ensures c.counts.ensures c.living_allowance-allowed.ensures
