use Rattle.std.proofs.Common.{◌≡◌, ◌∙◌, List, ℕ, sym, subst}
use Rattle.std.specs.Prelude.{Some}
use Rattle.cert_text.specs.NodeLines.{node_line}
use Rattle.cert_text.proofs.SpelledLines.{node_read}
use Rattle.cert_text.proofs.WrittenTrees.{line_known, line_label}
use Rattle.cert_text.proofs.line_writing.write_line.Goals as goal

pub push_line-requires-clause-label : goal.push_line-requires-clause-label
push_line-requires-clause-label c = line_label c.args.line.now c.requires.line

pub returns-clause-read : goal.returns-clause-read
returns-clause-read c depth text e =
    subst (λ (l : List ℕ). node_line depth l ≡ Some c.args.line.now) (node_read depth text c.args.line.now e ∙ sym c.push_line.ensures.text) e

pub push_line-requires-clause-known : goal.push_line-requires-clause-known
push_line-requires-clause-known c = line_known c.args.line.now c.requires.line
