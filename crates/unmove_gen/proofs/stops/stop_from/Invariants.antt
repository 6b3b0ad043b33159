use Rattle.std.proofs.Common.{◌-◌, ◌≤◌}
use Rattle.unmove_gen.specs.Cursors.{number_of}
use Rattle.std.specs.Option.{IfSome}
use Rattle.unmove_gen.specs.Numbers.{AreUnlisted}
use Rattle.unmove_gen.specs.Plain.{KnowsAlone}
use Rattle.unmove_gen.proofs.stops.stop_from.Given as goal

abbrev pub invariant-loop-there : goal.invariant-loop-there
invariant-loop-there l = record {
  forward : number_of l.fn.start ≤ number_of l.there;
  unlisted : AreUnlisted l.query (number_of l.fn.start) (number_of l.there);
  alone : IfSome l.facts (λ f. KnowsAlone l.query f.king l.seen l.free);
}

abbrev pub decreases-loop-there : goal.decreases-loop-there
decreases-loop-there l = 150000 - number_of l.there
