use Rattle.std.proofs.Common.{◌≡◌, ◌++◌, sym, subst}
use Rattle.std.specs.Prelude.{IfOk}
use Rattle.ledger_lines.specs.declared.lines.Line.{Line}
use Rattle.ledger_prose.specs.Words.{took_words}
use Rattle.ledger_prose.proofs.captures.push_took.Goals as goal

pub returns-in-Captures : goal.returns-in-Captures
returns-in-Captures c = subst (λ (l : Line). IfOk c.push_side_took.result (λ _. c.push_side_took.new.out.items ≡ c.args.out.now.items ++ took_words c.args.query.now l c.args.ways.now)) (sym c.in-Captures.is) c.push_side_took.ensures
