use Rattle.std.proofs.Common.{◌≡◌, ◌≤◌, length, take}
use Rattle.std.specs.Prelude.{not}
use Rattle.std.specs.List.{filter}
use Rattle.diagram_study.specs.Rights.{is_demanded}
use Rattle.diagram_study.proofs.rights.due_rights.Given as goal

abbrev pub invariant-loop-right : goal.invariant-loop-right
invariant-loop-right l = record {
  due_are : l.due.items ≡ filter (λ r. not (is_demanded l.query r)) (take l.right-index l.each);
  few : length l.due.items ≤ l.right-index;
}
