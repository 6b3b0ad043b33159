use Rattle.std.proofs.Common.{◌≡◌, ◌++◌, [], drop, take}
use Rattle.sketch_words.proofs.denials.push_denials.Given as goal
use Rattle.sketch_words.specs.Denials.{denials_words}

abbrev pub invariant-loop-i : goal.invariant-loop-i
invariant-loop-i l =
    l.fn.out.items ++ denials_words l.fn.odds l.spot l.all [] l.all ≡ l.out.items ++ denials_words l.fn.odds l.spot l.all (take l.i l.all) (drop l.i l.all)
