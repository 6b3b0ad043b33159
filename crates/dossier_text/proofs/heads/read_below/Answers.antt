use Rattle.std.proofs.Common.{sym}
use Rattle.dossier_text.proofs.HeadReads.{claimed, no_query}
use Rattle.dossier_text.proofs.heads.read_below.Goals as goal

pub returns-in-Some-take_query : goal.returns-in-Some-take_query
returns-in-Some-take_query c = claimed _ _ _ _ _ _ c.in-Some.ensures (sym c.in-Some-read_claim_line.ensures) c.in-Some-take_query.ensures

pub returns-in-None : goal.returns-in-None
returns-in-None c = no_query _ _ _ _ c.in-Some.ensures (sym c.in-Some-read_claim_line.ensures) c.in-None.ensures
