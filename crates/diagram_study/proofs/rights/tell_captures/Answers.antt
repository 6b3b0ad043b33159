use Rattle.std.proofs.Common.{List, ◌++◌, ap, ◌∙◌, arith}
use Rattle.std.specs.List.{flat_map}
use Rattle.std.proofs.lemmas.List.{take_all}
use Rattle.diagram_study.specs.Texts.{capture_line, capture_lines}
use Rattle.diagram_study.specs.declared.rights.RightFound.{RightFound}
use Rattle.diagram_study.proofs.rights.tell_captures.Goals as goal

pub returns : goal.returns
unfolding capture_lines
returns c = c.loop-f.invariant ∙ ap (λ (l : List RightFound). c.args.text.now.items ++ flat_map (λ (f : RightFound). capture_line f.finding f.stuck f.right) l) (take_all c.loop-f.f-index c.args.found.now (omega arith))
