use Rattle.std.proofs.Common.{take}
use Rattle.std.specs.List.{All}
use Rattle.proof_story.specs.Reading.{TellsCastlings}
use Rattle.proof_story.proofs.checking.all_tell_castlings.Given as goal

abbrev pub invariant-loop-paragraph : goal.invariant-loop-paragraph
invariant-loop-paragraph l = All (TellsCastlings) (take l.paragraph-index l.story)
