use Rattle.dossier_text.proofs.OneHead.{one_text}
use Rattle.dossier_text.proofs.laws.one_text_of_a_head.Goals as goal

pub returns : goal.returns
returns c = one_text
