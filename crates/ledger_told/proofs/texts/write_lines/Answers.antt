use Rattle.std.proofs.Common.{List, ◌++◌, ap, ◌∙◌, arith}
use Rattle.std.specs.List.{flat_map}
use Rattle.std.proofs.lemmas.List.{take_all}
use Rattle.ledger_lines.specs.declared.lines.Line.{Line}
use Rattle.ledger_told.specs.Told.{lines_text, whole_text}
use Rattle.ledger_told.proofs.texts.write_lines.Goals as goal

pub returns : goal.returns
unfolding lines_text
returns c = c.loop-line.invariant ∙ ap (λ (l : List Line). c.args.out.now.items ++ flat_map whole_text l) (take_all c.loop-line.line-index c.args.lines.now (omega arith))
