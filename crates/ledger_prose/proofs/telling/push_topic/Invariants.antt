use Rattle.std.proofs.Common.{◌≡◌, ◌++◌, take}
use Rattle.std.specs.List.{flat_map}
use Rattle.ledger_lines.specs.declared.lines.Line.{Line}
use Rattle.ledger_prose.specs.Sentences.{line_sentences}
use Rattle.ledger_prose.specs.Words.{spaced_words}
use Rattle.ledger_prose.proofs.telling.push_topic.Given as goal

abbrev pub invariant-loop-line : goal.invariant-loop-line
invariant-loop-line l = l.out.items ≡ l.fn.out.items ++ flat_map (λ (x : Line). spaced_words l.query (line_sentences l.topic l.query l.lines x)) (take l.line-index l.lines)
