use Rattle.std.proofs.Common.{inl, inr}
use Rattle.std.proofs.lemmas.Bool.{or_left, or_right}
use Rattle.board_base.specs.Board.{file}
use Rattle.board_base.proofs.Hits.{away}
use Rattle.board_base.proofs.rays.is_knight_on.Goals as goal

pub returns-clause-complete : goal.returns-clause-complete
returns-clause-complete c = λ t row far knight. elim (away (file t) (file c.args.s) c.args.off far) [
  | inl low ↦ or_left _ _ (c.is_knight_left-left.ensures.complete t row low knight)
  | inr high ↦ or_right _ _ (c.is_knight_right-right.ensures.complete t row high knight)
]
