use Rattle.std.proofs.Common.{◌≡◌, take, reverse}
use Rattle.retro_search.proofs.answering.reversed.Given as goal

abbrev pub invariant-loop-i : goal.invariant-loop-i
invariant-loop-i l = l.line ≡ take l.i (reverse l.unmoves)
