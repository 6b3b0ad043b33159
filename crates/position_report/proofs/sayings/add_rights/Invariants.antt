use Rattle.std.proofs.Common.{◌≡◌, ◌++◌, take}
use Rattle.std.specs.List.{flat_map}
use Rattle.position_report.specs.Sayings.{right_verdicts}
use Rattle.position_report.proofs.sayings.add_rights.Given as goal

abbrev pub invariant-loop-found : goal.invariant-loop-found
invariant-loop-found l = l.verdicts.items ≡ l.fn.verdicts.items ++ flat_map (right_verdicts l.castlings l.given) (take l.found-index l.rights)
