use Rattle.dossier_text.proofs.CountTexts.{counted}
use Rattle.dossier_text.proofs.counts.read_count_line.Goals as goal

pub returns : goal.returns
returns c = counted c.args.line.now c.read_ended_count.result c.read_ended_count.ensures
