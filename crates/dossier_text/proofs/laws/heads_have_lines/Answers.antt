use Rattle.dossier_text.proofs.HeadTexts.{head_lined}
use Rattle.dossier_text.proofs.laws.heads_have_lines.Goals as goal

pub returns : goal.returns
returns c = head_lined
