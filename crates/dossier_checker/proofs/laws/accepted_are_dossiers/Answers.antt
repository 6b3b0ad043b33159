use Rattle.dossier_checker.proofs.AcceptedDossiers.{accepted_proves, dossier_accepted}
use Rattle.dossier_checker.proofs.laws.accepted_are_dossiers.Goals as goal

pub returns : goal.returns
returns c bytes claim q = (accepted_proves bytes claim q, dossier_accepted bytes claim q)
