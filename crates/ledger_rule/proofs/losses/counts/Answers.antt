use Rattle.ledger_rule.proofs.Told.{counts-made}
use Rattle.ledger_rule.proofs.losses.counts.Goals as goal

pub returns : goal.returns
returns c = λ o p ground h way ends.
    let g = c.args.ground.now in
    counts-made g.frozen g.side h c.args.i way c.args.promoted c.args.struck c.agrees-became.result c.may_be_struck-exposed.result c.requires ends c.agrees-became.ensures (c.may_be_struck-exposed.ensures o p ground h way ends)
