use Rattle.dossier_text.proofs.PartTexts.{one_part}
use Rattle.dossier_text.proofs.laws.one_part_each.Goals as goal

pub returns : goal.returns
returns c = one_part
