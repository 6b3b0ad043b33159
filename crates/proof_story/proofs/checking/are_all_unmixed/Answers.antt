use Rattle.std.proofs.Common.{subst, take, List}
use Rattle.std.specs.List.{All}
use Rattle.std.proofs.lemmas.List.{take_all}
use Rattle.std.proofs.lemmas.List.Elements.{All-more}
use Rattle.proof_story.specs.Reading.{IsUnmixed}
use Rattle.proof_story.specs.declared.stories.Bundle.{Bundle}
use Rattle.proof_story.proofs.checking.are_all_unmixed.Goals as goal

pub loop-bundle-preserved : goal.loop-bundle-preserved
loop-bundle-preserved c =
    All-more (λ (b : Bundle). All (IsUnmixed c.args.board.now) b.ways.items) c.args.bundles.now c.loop-bundle.bundle-index c.bundle-item.result c.loop-bundle-test.true c.loop-bundle.invariant
    (subst (λ (x : Bundle). (λ (b : Bundle). All (IsUnmixed c.args.board.now) b.ways.items) x) c.bundle-item.is (c.is_bundle_unmixed.ensures c.if-not-is_bundle_unmixed.false))

pub returns : goal.returns
returns c = λ yes. subst (λ (l : List Bundle). All (λ (b : Bundle). All (IsUnmixed c.args.board.now) b.ways.items) l) (take_all c.loop-bundle.bundle-index c.args.bundles.now c.loop-bundle-test.false) c.loop-bundle.invariant
