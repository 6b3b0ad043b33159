use Rattle.std.proofs.Common.{◌≡◌, ◌++◌, take}
use Rattle.std.specs.List.{flat_map}
use Rattle.position_report.specs.Held.{if_prose}
use Rattle.position_report.proofs.held.push_each_held.Given as goal

abbrev pub invariant-loop-found : goal.invariant-loop-found
invariant-loop-found l = l.out.items ≡ l.fn.out.items ++ flat_map (if_prose l.query l.known) (take l.found-index l.held)
