use Rattle.std.proofs.Common.{sym, ◌∙◌}
use Rattle.question_text.proofs.FirstLines.{line-more, line-only}
use Rattle.question_text.proofs.input_lines.split_first_line.Goals as goal

pub returns-in_default-clause-line : goal.returns-in_default-clause-line
returns-in_default-clause-line c = sym (line-only _ _ c.split_part.ensures.part (rw c.in_default.is at c.split_part.ensures.rest)).0

pub returns-in_default-clause-rest : goal.returns-in_default-clause-rest
returns-in_default-clause-rest c = sym (line-only _ _ c.split_part.ensures.part (rw c.in_default.is at c.split_part.ensures.rest)).1

pub returns-clause-line : goal.returns-clause-line
returns-clause-line c = c.without_return.ensures ∙ sym (line-more _ _ _ c.split_part.ensures.part (rw c.in-Some.is at c.split_part.ensures.rest)).0

pub returns-clause-rest : goal.returns-clause-rest
returns-clause-rest c = sym (line-more _ _ _ c.split_part.ensures.part (rw c.in-Some.is at c.split_part.ensures.rest)).1
