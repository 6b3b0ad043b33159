use Rattle.std.proofs.Common.{◌≡◌, ◌++◌, drop}
use Rattle.std.specs.List.{concat}
use Rattle.cert_text.specs.Written.{line_texts}
use Rattle.cert_text.proofs.sketch_writing.push_lines.Given as goal

abbrev pub invariant-loop-line : goal.invariant-loop-line
invariant-loop-line l = l.out.items ++ concat (line_texts (drop l.line-index l.lines)) ≡ l.fn.out.items ++ concat (line_texts l.lines)
