use Rattle.dossier_text.proofs.HeadTexts.{head_short}
use Rattle.dossier_text.proofs.laws.heads_are_short.Goals as goal

pub returns : goal.returns
returns c = head_short
