use Rattle.cert_text.specs.Seen.{tree_of}
use Rattle.price_sharing.proofs.Repriced.{still_proves}
use Rattle.price_sharing.proofs.sharing.with_shared_lines.Goals as goal

pub returns-clause-proves : goal.returns-clause-proves
returns-clause-proves c ancestors p = still_proves (tree_of c.args.root.now) (tree_of c.in_ok-copy.copy) c.args.query.now ancestors c.in_ok-copy.ensures p
