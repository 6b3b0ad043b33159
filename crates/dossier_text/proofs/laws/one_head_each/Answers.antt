use Rattle.dossier_text.proofs.OneHead.{one_head}
use Rattle.dossier_text.proofs.laws.one_head_each.Goals as goal

pub returns : goal.returns
returns c = one_head
