use Rattle.std.proofs.Common.{◌≡◌, ◌++◌, take}
use Rattle.std.specs.List.{flat_map}
use Rattle.diagram_study.specs.Texts.{castling_line}
use Rattle.diagram_study.proofs.rights.tell_castlings.Given as goal

abbrev pub invariant-loop-f : goal.invariant-loop-f
invariant-loop-f l = l.text.items ≡ l.initial.text.items ++ flat_map (λ f. castling_line f.finding f.stuck f.right) (take l.f-index l.found)
