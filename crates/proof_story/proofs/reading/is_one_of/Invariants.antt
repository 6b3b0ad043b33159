use Rattle.std.proofs.Common.{◌≡◌, take, false}
use Rattle.std.specs.List.{list_any}
use Rattle.std.specs.Prelude.{Some}
use Rattle.board_base.specs.Legal.{same_promo}
use Rattle.proof_story.proofs.reading.is_one_of.Given as goal

abbrev pub invariant-loop-kind : goal.invariant-loop-kind
invariant-loop-kind l = list_any (λ k. same_promo (Some k) l.captured) (take l.kind-index l.kinds) ≡ false
