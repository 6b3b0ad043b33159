use Rattle.dossier_text.proofs.HeadTexts.{head_plain}
use Rattle.dossier_text.proofs.laws.heads_bar_no_move.Goals as goal

pub returns : goal.returns
returns c = head_plain
