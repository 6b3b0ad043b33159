use Rattle.cert_text.proofs.SpelledLines.{node_read}
use Rattle.cert_text.proofs.laws.one_text_of_a_line.Goals as goal

pub returns : goal.returns
returns c = node_read
