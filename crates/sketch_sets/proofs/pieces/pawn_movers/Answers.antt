use Rattle.std.proofs.Common.{◌≡◌, Bool, ◌&&◌, ◌||◌, not, ap, ◌∙◌}
use Rattle.board_base.specs.Board.{is_in}
use Rattle.board_base.specs.declared.lines.Change.{Change}
use Rattle.board_base.specs.declared.lines.Change.TheVariants.{Stays}
use Rattle.board_base.specs.declared.lines.Direction.{Direction}
use Rattle.board_base.proofs.Ways.{heading}
use Rattle.sketch_sets.specs.Shifts.{comes}
use Rattle.sketch_sets.proofs.Attacking.{ahead, pawns-made}
use Rattle.sketch_sets.proofs.Sets.{told-both, told-either, told-less}
use Rattle.sketch_sets.proofs.pieces.pawn_movers.Goals as goal

pub returns : goal.returns
returns c = λ e low.
    let on : c.new-ahead.result ≡ ahead c.args.colour = c.new-ahead.ensures ∙ ap (λ (r : Change). heading r Stays) c.forward.ensures in
    told-either c.shifted-one.result c.both-3.result c.either.result e low c.either.ensures
    ∙ ap (λ (x : Bool). x || is_in c.both-3.result e) (c.shifted-one.ensures e low ∙ ap (λ (d : Direction). comes d c.both.result e) on)
    ∙ ap (λ (x : Bool). comes (ahead c.args.colour) c.both.result e || x) (told-both c.shifted-two.result c.pawn_squares-past.result.1 c.both-3.result e low c.both-3.ensures
    ∙ ap (λ (x : Bool). x && is_in c.pawn_squares-past.result.1 e) (c.shifted-two.ensures e low ∙ ap (λ (d : Direction). comes d c.both-2.result e) on)
    ∙ ap (λ (x : Bool). comes (ahead c.args.colour) c.both-2.result e && x) (c.pawn_squares-past.ensures.first e low))
    ∙ pawns-made c.args.fixed c.args.to c.both.result c.both-2.result c.args.colour e low
    (λ s inside. told-both c.args.to c.pawn_squares-past.result.0 c.both.result s inside c.both.ensures ∙ ap (λ (x : Bool). is_in c.args.to s && x) (c.pawn_squares-past.ensures.past s inside))
    (λ t inside. told-less c.shifted-one.result c.args.fixed c.outside.result c.both-2.result t inside c.outside.ensures c.both-2.ensures ∙ ap (λ (x : Bool). x && not (is_in c.args.fixed t)) (c.shifted-one.ensures t inside ∙ ap (λ (d : Direction). comes d c.both.result t) on))
