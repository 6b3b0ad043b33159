use Rattle.dossier_text.proofs.Proofs.{dossier_holds}
use Rattle.dossier_text.proofs.laws.dossiers_prove.Goals as goal

pub returns : goal.returns
returns c = dossier_holds c.certificates_prove.ensures c.parts_make_lines_hold.ensures
