use Rattle.std.proofs.Common.{refl}
use Rattle.ledger_search.proofs.Grown.{grown-none, grown-on}
use Rattle.ledger_search.proofs.near.learn_gated.Goals as goal

pub loop-i-init : goal.loop-i-init
loop-i-init c = grown-none c.args.query.now c.args.ledger.now c.args.ledger.now refl

pub loop-i-preserved : goal.loop-i-preserved
loop-i-preserved c = grown-on c.args.query.now c.args.ledger.now c.loop-i.known c.learn_gate-known.result c.loop-i.invariant c.learn_gate-known.ensures
