use Rattle.std.proofs.Common.{◌≡◌, take}
use Rattle.std.specs.Prelude.{not}
use Rattle.std.specs.List.{filter}
use Rattle.retraction_bars.specs.Exceptions.{rests}
use Rattle.retraction_bars.proofs.exceptions.exceptions.Given as goal

abbrev pub invariant-loop-c : goal.invariant-loop-c
invariant-loop-c l = l.told.items ≡ filter (λ c. not (rests l.query l.main c)) (take l.c-index l.cs)
