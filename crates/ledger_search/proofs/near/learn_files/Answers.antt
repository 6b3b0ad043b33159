use Rattle.std.proofs.Common.{refl}
use Rattle.ledger_search.proofs.Grown.{grown-none, grown-on}
use Rattle.ledger_search.proofs.near.learn_files.Goals as goal

pub loop-file-init : goal.loop-file-init
loop-file-init c = grown-none c.args.query.now c.args.ledger.now c.args.ledger.now refl

pub loop-file-preserved : goal.loop-file-preserved
loop-file-preserved c = grown-on c.args.query.now c.args.ledger.now c.loop-file.known c.learn_by-known.result c.loop-file.invariant c.learn_by-known.ensures
