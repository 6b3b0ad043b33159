use Rattle.std.proofs.Common.{◌≡◌, ◌-◌, length}
use Rattle.proof_story.specs.Story.{words_at, words_within}
use Rattle.proof_story.proofs.reading.has_words.Given as goal

abbrev pub invariant-loop : goal.invariant-loop
invariant-loop l = words_within (length l.story - l.counter) l.story l.at ≡ words_at l.story l.fn.i
