use Rattle.std.proofs.Common.{take}
use Rattle.std.specs.List.{All}
use Rattle.proof_story.specs.Reading.{IsUnmixed}
use Rattle.proof_story.proofs.checking.are_all_unmixed.Given as goal

abbrev pub invariant-loop-bundle : goal.invariant-loop-bundle
invariant-loop-bundle l = All (λ b. All (IsUnmixed l.board) b.ways.items) (take l.bundle-index l.bundles)
