use Rattle.unmove_gen.proofs.Members.{list-passes}
use Rattle.retraction_bars.proofs.KeptOut.{out}
use Rattle.retraction_bars.proofs.laws.bars_keep_out.Goals as goal

pub returns : goal.returns
returns c = λ b q u len is listed. out q u b len (list-passes q u listed) is
