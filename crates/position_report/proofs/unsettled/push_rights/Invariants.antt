use Rattle.std.proofs.Common.{take}
use Rattle.std.specs.List.{flat_map}
use Rattle.position_report.specs.Open.{open_right}
use Rattle.position_report.specs.Told.{AreTold}
use Rattle.position_report.proofs.unsettled.push_rights.Given as goal

abbrev pub invariant-loop-f : goal.invariant-loop-f
invariant-loop-f l = AreTold l.query (flat_map (open_right l.query) (take l.f-index l.rights)) l.fn.before l.run l.fn.out.items l.out.items
