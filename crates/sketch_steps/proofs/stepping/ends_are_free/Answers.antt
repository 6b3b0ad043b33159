use Rattle.std.proofs.Common.{List, Bool, ap, ◌∙◌, arith}
use Rattle.board_base.specs.Board.{is_in}
use Rattle.figures.specs.Figures.{Figure}
use Rattle.sketch_steps.proofs.Telling.{ends-made}
use Rattle.sketch_steps.proofs.stepping.ends_are_free.Goals as goal

pub returns : goal.returns
returns c = ends-made c.args.sketch.now c.args.figure.now c.args.from c.args.to c.has.result c.is_end.result c.has-2.result (omega arith) (omega arith)
    (c.has.ensures.member ∙ ap (λ (f : Figure). is_in f.squares c.args.to) c.figure.view_is)
    c.is_end.ensures
    (c.has-2.ensures.member ∙ ap (λ (l : List Bool). is_in l c.args.from) c.fixed_squares-fixed.ensures)
