use Rattle.std.proofs.Common.{rules}
use Rattle.board_base.specs.Board.{at, is_of}
use Rattle.sketch_sets.proofs.crowds.men_of.Goals as goal

pub returns : goal.returns
returns c = c.squares_that.ensures (λ h. is_of c.args.colour (at c.args.board.now h)) (λ s b low post. search rules)
