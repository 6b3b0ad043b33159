use Rattle.std.proofs.Common.{Bool, ◌&&◌, ◌||◌, not, ap, ◌∙◌}
use Rattle.board_base.specs.Board.{is_in}
use Rattle.sketch_sets.proofs.Sets.{told-either, told-less}
use Rattle.sketch_sets.proofs.Widening.{quiet-made}
use Rattle.sketch_sets.proofs.ways.quiet_origins.Goals as goal

pub returns : goal.returns
returns c = λ e low.
    told-less c.goers-from.result c.either-barred.result c.outside-2.result c.both.result e low c.outside-2.ensures c.both.ensures
    ∙ ap (λ (x : Bool). is_in c.goers-from.result e && not x) (told-either c.args.ground.now.fixed c.guards.result c.either-barred.result e low c.either-barred.ensures ∙ ap (λ (x : Bool). is_in c.args.ground.now.fixed e || x) (c.guards.ensures e low))
    ∙ quiet-made c.args.ground.now c.args.colour c.args.kind c.args.squares c.both-loose.result e (is_in c.goers-from.result e) (λ s inside. told-less c.args.squares c.args.ground.now.held c.outside.result c.both-loose.result s inside c.outside.ensures c.both-loose.ensures) (c.goers-from.ensures e low)
