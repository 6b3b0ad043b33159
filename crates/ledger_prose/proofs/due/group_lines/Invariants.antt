use Rattle.std.proofs.Common.{◌≡◌, take}
use Rattle.std.specs.List.{filter}
use Rattle.ledger_prose.specs.Sentences.{is_of_group}
use Rattle.ledger_prose.proofs.due.group_lines.Given as goal

abbrev pub invariant-loop-line : goal.invariant-loop-line
invariant-loop-line l = l.kept.items ≡ filter (is_of_group l.group l.query l.lines) (take l.line-index l.lines)
