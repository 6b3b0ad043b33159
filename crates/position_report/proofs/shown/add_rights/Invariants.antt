use Rattle.std.proofs.Common.{◌≡◌, ◌++◌, take}
use Rattle.std.specs.List.{flat_map}
use Rattle.position_report.specs.Shown.{right_shown}
use Rattle.position_report.proofs.shown.add_rights.Given as goal

abbrev pub invariant-loop-found : goal.invariant-loop-found
invariant-loop-found l = l.all.items ≡ l.fn.all.items ++ flat_map (right_shown l.query) (take l.found-index l.rights)
