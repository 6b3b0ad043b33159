use Rattle.std.proofs.Common.{List, Bool, ap, ◌∙◌}
use Rattle.board_base.specs.Board.{opponent}
use Rattle.board_base.specs.declared.men.Colour.{Colour}
use Rattle.figures.specs.Touching.{kings_of}
use Rattle.sketch_sets.specs.Tests.{meets}
use Rattle.sketch_sets.proofs.Touched.{check-made}
use Rattle.sketch_sets.proofs.checks.gives_check.Goals as goal

pub returns : goal.returns
returns c =
    c.meets.ensures ∙ ap (λ (l : List Bool). meets l c.touched_squares.result) (c.kings_of-kings.ensures ∙ ap (λ (x : Colour). kings_of c.args.sketch.now x) c.other.ensures)
    ∙ ap (meets (kings_of c.args.sketch.now (opponent c.args.colour))) c.touched_squares.ensures ∙ check-made c.args.sketch.now c.args.colour
