use Rattle.std.proofs.Common.{◌≡◌, ◌-◌, length}
use Rattle.proof_story.specs.Story.{next, next_within}
use Rattle.proof_story.proofs.reading.next.Given as goal

abbrev pub invariant-loop : goal.invariant-loop
invariant-loop l = next_within (length l.story - l.counter) l.story l.at l.u ≡ next l.story l.fn.i l.u
