use Rattle.std.proofs.Common.{◌≡◌, ◌++◌, take}
use Rattle.std.specs.List.{flat_map}
use Rattle.diagram_study.specs.Texts.{if_lines}
use Rattle.diagram_study.proofs.held.tell_held.Given as goal

abbrev pub invariant-loop-h : goal.invariant-loop-h
invariant-loop-h l = l.text.items ≡ l.initial.text.items ++ flat_map (λ h. if_lines h.castle h.lines.items) (take l.h-index l.held)
