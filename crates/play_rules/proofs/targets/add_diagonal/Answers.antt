use Rattle.std.proofs.Common.{inl, inr, subst, sym}
use Rattle.std.proofs.lemmas.Bool.{and_parts}
use Rattle.board_base.specs.declared.lines.Direction.{Direction}
use Rattle.board_base.proofs.Ways.{diagonal}
use Rattle.play_rules.proofs.targets.add_diagonal.Goals as goal
use Rattle.board_base.specs.LinesThrough.{LiesAlong}

pub returns-clause-added : goal.returns-clause-added
returns-clause-added c = λ t small h.
    let parts = and_parts _ _ h in
    let At : Direction → Type 0 = λ d. LiesAlong d c.args.from t in
    elim (diagonal c.args.from t parts.0) [
      | inl down ↦ elim down [
        | inl left ↦ c.add_line-4.ensures.kept t (c.add_line-3.ensures.kept t (c.add_line-2.ensures.kept t (c.add_line.ensures.added t small (subst At (sym c.new.ensures) left) parts.1)))
        | inr right ↦ c.add_line-4.ensures.kept t (c.add_line-3.ensures.kept t (c.add_line-2.ensures.added t small (subst At (sym c.new-2.ensures) right) parts.1))
      ]
      | inr up ↦ elim up [
        | inl left ↦ c.add_line-4.ensures.kept t (c.add_line-3.ensures.added t small (subst At (sym c.new-3.ensures) left) parts.1)
        | inr right ↦ c.add_line-4.ensures.added t small (subst At (sym c.new-4.ensures) right) parts.1
      ]
    ]
