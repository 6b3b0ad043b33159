use Rattle.std.proofs.Common.{inl, inr}
use Rattle.std.proofs.lemmas.Bool.{or_left, or_right}
use Rattle.board_base.proofs.Hits.{knight-rows}
use Rattle.board_base.proofs.rays.is_hit_by_knight.Goals as goal

pub returns-clause-complete : goal.returns-clause-complete
returns-clause-complete c = λ t small knight far. elim (knight-rows c.args.s t far) [
  | inl x ↦ elim x [
    | inl w ↦ or_left _ _ (or_left _ _ (c.is_knight_below-below.ensures.complete t w.0 w.1 knight))
    | inr w ↦ or_left _ _ (or_right _ _ (c.is_knight_below-far_below.ensures.complete t w.0 w.1 knight))
  ]
  | inr x ↦ elim x [
    | inl w ↦ or_right _ _ (or_left _ _ (c.is_knight_above-above.ensures.complete t small w.0 w.1 knight))
    | inr w ↦ or_right _ _ (or_right _ _ (c.is_knight_above-far_above.ensures.complete t small w.0 w.1 knight))
  ]
]
