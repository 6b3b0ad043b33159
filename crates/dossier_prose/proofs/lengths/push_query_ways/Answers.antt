use Rattle.std.proofs.Common.{sym}
use Rattle.dossier_prose.proofs.lengths.push_query_ways.Goals as goal

pub returns : goal.returns
returns c = rw (sym c.query.view_is) c.push_ways.ensures
