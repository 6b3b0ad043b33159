use Rattle.std.proofs.Common.{inl, inr, subst, sym}
use Rattle.std.proofs.lemmas.Bool.{or_left, or_right}
use Rattle.board_base.specs.declared.lines.Direction.{Direction}
use Rattle.board_base.proofs.Ways.{diagonal}
use Rattle.board_base.proofs.rays.is_hit_diagonally.Goals as goal
use Rattle.board_base.specs.LinesThrough.{LiesAlong}

pub returns-clause-complete : goal.returns-clause-complete
returns-clause-complete c = λ t small h clear hit.
    let At : Direction → Type 0 = λ d. LiesAlong d c.args.s t in
    elim (diagonal c.args.s t h) [
      | inl down ↦ elim down [
        | inl left ↦ or_left _ _ (or_left _ _ (c.is_hit-down_left.ensures.complete t small (subst At (sym c.new.ensures) left) clear hit))
        | inr right ↦ or_left _ _ (or_right _ _ (c.is_hit-down_right.ensures.complete t small (subst At (sym c.new-2.ensures) right) clear hit))
      ]
      | inr up ↦ elim up [
        | inl left ↦ or_right _ _ (or_left _ _ (c.is_hit-up_left.ensures.complete t small (subst At (sym c.new-3.ensures) left) clear hit))
        | inr right ↦ or_right _ _ (or_right _ _ (c.is_hit-up_right.ensures.complete t small (subst At (sym c.new-4.ensures) right) clear hit))
      ]
    ]
