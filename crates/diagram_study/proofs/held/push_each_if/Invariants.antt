use Rattle.std.proofs.Common.{◌≡◌, ◌++◌, take}
use Rattle.std.specs.List.{flat_map}
use Rattle.diagram_study.specs.Texts.{if_line}
use Rattle.diagram_study.proofs.held.push_each_if.Given as goal

abbrev pub invariant-loop-line : goal.invariant-loop-line
invariant-loop-line l = l.text.items ≡ l.initial.text.items ++ flat_map (if_line l.castle) (take l.line-index l.lines)
