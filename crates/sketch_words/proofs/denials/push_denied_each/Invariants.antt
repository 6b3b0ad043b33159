use Rattle.std.proofs.Common.{◌≡◌, ◌++◌, [], drop, take}
use Rattle.sketch_words.proofs.denials.push_denied_each.Given as goal
use Rattle.sketch_words.specs.Denials.{denied_each}

abbrev pub invariant-loop-i : goal.invariant-loop-i
invariant-loop-i l =
    l.fn.out.items ++ denied_each l.all l.flaw [] l.all ≡ l.out.items ++ denied_each l.all l.flaw (take l.i l.all) (drop l.i l.all)
