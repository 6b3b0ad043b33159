use Rattle.std.proofs.Common.{Bool, ◌||◌, ap, ◌∙◌}
use Rattle.board_base.specs.Board.{is_in}
use Rattle.sketch_sets.specs.Shifts.{comes}
use Rattle.sketch_sets.proofs.Attacking.{turns-by}
use Rattle.sketch_sets.proofs.Sets.{told-either}
use Rattle.sketch_sets.proofs.pieces.turned.Goals as goal

pub returns : goal.returns
returns c = λ e low.
    c.shifted-3.ensures e low
    ∙ turns-by c.args.straight c.args.left c.args.right c.args.to c.either.result e low (λ t inside.
    told-either c.shifted.result c.shifted-2.result c.either.result t inside c.either.ensures
    ∙ ap (λ (x : Bool). x || is_in c.shifted-2.result t) (c.shifted.ensures t inside) ∙ ap (λ (x : Bool). comes c.args.left c.args.to t || x) (c.shifted-2.ensures t inside))
