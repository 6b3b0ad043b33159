use Rattle.std.proofs.Common.{sym}
use Rattle.length_bound.proofs.LengthGrammar.{last_1, last_1-end, last_2, last_2-end, last_3}
use Rattle.length_bound.proofs.reading.read_last.Goals as goal

pub returns-in_default-clause-bad : goal.returns-in_default-clause-bad
returns-in_default-clause-bad c = last_1-end _ c.in_default.ensures

pub returns-in_default-read_at_least_line-clause-bad : goal.returns-in_default-read_at_least_line-clause-bad
returns-in_default-read_at_least_line-clause-bad c = last_1 _ _ _ c.in-Some.ensures (sym c.in_default-read_at_least_line.ensures)

pub returns-in_default-first_line-clause-bad : goal.returns-in_default-first_line-clause-bad
returns-in_default-first_line-clause-bad c = last_2-end _ _ _ _ c.in-Some.ensures (sym c.in-Some-read_at_least_line.ensures) c.in_default-first_line.ensures

pub returns-in_default-read_moves_line-clause-bad : goal.returns-in_default-read_moves_line-clause-bad
returns-in_default-read_moves_line-clause-bad c =
    last_2 _ _ _ _ _ _ c.in-Some.ensures (sym c.in-Some-read_at_least_line.ensures) c.in-Some-first_line.ensures (sym c.in_default-read_moves_line.ensures)

pub returns-in-Some-first_line-2-clause-bad : goal.returns-in-Some-first_line-2-clause-bad
returns-in-Some-first_line-2-clause-bad c =
    last_3 _ _ _ _ _ _ _ _ _ c.in-Some.ensures (sym c.in-Some-read_at_least_line.ensures) c.in-Some-first_line.ensures (sym c.in-Some-read_moves_line.ensures) c.in-Some-first_line-2.ensures
