use Rattle.std.proofs.Common.{ap, ◌∙◌}
use Rattle.board_base.specs.Board.{Places, at}
use Rattle.cage_rules.specs.Regions.{beginner}
use Rattle.board_base.proofs.LeftOut.{whole-array}
use Rattle.cage_rules.proofs.roaming.beginner.Goals as goal

pub returns : goal.returns
unfolding beginner
returns c = c.at.ensures.man ∙ ap (λ (b : Places). at b c.args.home) c.array.ensures ∙ whole-array c.args.home
