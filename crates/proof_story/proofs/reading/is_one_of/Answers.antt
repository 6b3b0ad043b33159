use Rattle.std.proofs.Common.{sym, ◌∙◌}
use Rattle.std.specs.Prelude.{Some}
use Rattle.board_base.specs.Legal.{same_promo}
use Rattle.proof_story.proofs.Looks.{any-more}
use Rattle.proof_story.proofs.reading.is_one_of.Goals as goal

pub loop-kind-preserved : goal.loop-kind-preserved
loop-kind-preserved c =
    any-more (λ k. same_promo (Some k) c.args.captured) c.args.kinds.now c.loop-kind.kind-index _ c.loop-kind-test.true c.loop-kind.invariant (sym c.is_kind.ensures ∙ c.if-is_kind.false)
