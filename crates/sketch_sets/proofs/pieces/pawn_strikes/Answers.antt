use Rattle.std.proofs.Common.{Bool, ◌||◌, ap, ◌∙◌}
use Rattle.board_base.specs.Board.{is_in}
use Rattle.board_base.specs.declared.lines.Change.{Change}
use Rattle.board_base.specs.declared.lines.Change.TheVariants.{Falls, Rises}
use Rattle.board_base.specs.declared.lines.Direction.{Direction}
use Rattle.board_base.proofs.Ways.{heading}
use Rattle.sketch_sets.specs.Shifts.{comes, forward}
use Rattle.sketch_sets.proofs.Attacking.{strikes-made}
use Rattle.sketch_sets.proofs.Sets.{told-either}
use Rattle.sketch_sets.proofs.pieces.pawn_strikes.Goals as goal

pub returns : goal.returns
returns c = λ e low.
    told-either c.shifted-left.result c.shifted-right.result c.either.result e low c.either.ensures
    ∙ ap (λ (x : Bool). x || is_in c.shifted-right.result e) (c.shifted-left.ensures e low ∙ ap (λ (d : Direction). comes d c.args.to e) (c.new.ensures ∙ ap (λ (r : Change). heading r Falls) c.forward-ahead.ensures))
    ∙ ap (λ (x : Bool). comes (heading (forward c.args.colour) Falls) c.args.to e || x) (c.shifted-right.ensures e low ∙ ap (λ (d : Direction). comes d c.args.to e) (c.new-2.ensures ∙ ap (λ (r : Change). heading r Rises) c.forward-ahead.ensures))
    ∙ strikes-made c.args.colour c.args.to e low
