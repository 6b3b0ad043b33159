use Rattle.dossier_checker.proofs.OneDossier.{one_dossier}
use Rattle.dossier_checker.proofs.laws.one_dossier_answer.Goals as goal

pub returns : goal.returns
returns c = one_dossier
