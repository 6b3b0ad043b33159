use Rattle.retro_search.proofs.Lines.OneLine.{line_exists, line_one}
use Rattle.retro_search.proofs.laws.one_open_line_each.Goals as goal

pub returns : goal.returns
returns c = record { some = λ q depth ancestors. line_exists depth q ancestors; one = λ q depth ancestors a b e f. line_one depth q ancestors a b e f }
