use Rattle.std.proofs.Common.{ℕ, Bool, ◌&&◌, List, ap, sym, ◌∙◌, rules}
use Rattle.board_base.specs.Board.{is_in}
use Rattle.figures.proofs.Filling.{is_in-that}
use Rattle.figures.specs.Figures.{Figure}
use Rattle.sketch_sets.specs.Quiet.{quiet_on}
use Rattle.sketch_sets.specs.Tests.{some_that}
use Rattle.sketch_sets.specs.Wide.{room_on}
use Rattle.sketch_sets.proofs.Sets.{told-less}
use Rattle.sketch_sets.proofs.Widening.{from-officer, from-pawn}
use Rattle.sketch_sets.proofs.origins.origins_as.Goals as goal

pub returns-then-not-is_pawn : goal.returns-then-not-is_pawn
returns-then-not-is_pawn c = λ e low out.
    c.quiet_origins-from.ensures e low
    ∙ ap (λ (f : Figure). some_that f.squares (quiet_on c.args.ground.now f.colour c.args.kind e)) c.figure.view_is
    ∙ from-officer c.args.ground.now c.args.exact.now c.args.sketch.now c.args.figure.now e c.args.kind (sym c.is_pawn.ensures ∙ c.if-not-is_pawn.true)

pub returns : goal.returns
returns c = λ e low out.
    let p : ℕ → Bool = room_on c.args.exact.now c.args.sketch.now c.args.figure.now c.args.kind in
    ap (λ (l : List Bool). is_in l e) (c.those_that.ensures p (λ s b inside member post. search rules)) ∙ is_in-that (λ s. is_in c.both-others.result s && p s) e low
    ∙ ap (λ (x : Bool). x && p e) (told-less c.quiet_origins-from.result c.figure.inside.squares c.outside.result c.both-others.result e low c.outside.ensures c.both-others.ensures)
    ∙ from-pawn c.args.ground.now c.args.exact.now c.args.sketch.now c.args.figure.now e c.args.kind (is_in c.quiet_origins-from.result e) (is_in c.figure.inside.squares e)
    (c.quiet_origins-from.ensures e low ∙ ap (λ (f : Figure). some_that f.squares (quiet_on c.args.ground.now f.colour c.args.kind e)) c.figure.view_is)
    (ap (λ (f : Figure). is_in f.squares e) c.figure.view_is ∙ out)
