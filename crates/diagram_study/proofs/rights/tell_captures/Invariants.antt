use Rattle.std.proofs.Common.{◌≡◌, ◌++◌, take}
use Rattle.std.specs.List.{flat_map}
use Rattle.diagram_study.specs.Texts.{capture_line}
use Rattle.diagram_study.proofs.rights.tell_captures.Given as goal

abbrev pub invariant-loop-f : goal.invariant-loop-f
invariant-loop-f l = l.text.items ≡ l.initial.text.items ++ flat_map (λ f. capture_line f.finding f.stuck f.right) (take l.f-index l.found)
