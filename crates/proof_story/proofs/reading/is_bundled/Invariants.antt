use Rattle.std.proofs.Common.{◌≡◌, take, false}
use Rattle.std.specs.List.{list_any}
use Rattle.proof_story.specs.Story.{is_in_bundle}
use Rattle.proof_story.proofs.reading.is_bundled.Given as goal

abbrev pub invariant-loop-bundle : goal.invariant-loop-bundle
invariant-loop-bundle l = list_any (is_in_bundle l.u) (take l.bundle-index l.bundles) ≡ false
