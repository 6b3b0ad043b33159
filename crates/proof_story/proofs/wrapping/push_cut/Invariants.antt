use Rattle.std.proofs.Common.{◌≡◌, ◌+◌, ◌≤◌, ◌++◌, drop}
use Rattle.proof_story.specs.Rows.{cut_from}
use Rattle.proof_story.proofs.wrapping.push_cut.Given as goal

abbrev pub invariant-loop-i : goal.invariant-loop-i
invariant-loop-i l =
    record { cut : l.out.items ++ cut_from l.column (drop l.i l.line) ≡ l.fn.out.items ++ cut_from 0 l.line; few : l.column ≤ l.i + 4 }
