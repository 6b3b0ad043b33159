use Rattle.std.proofs.Common.{ℕ, Bool, ◌&&◌, not, ◌==◌, ap, sym, ◌∙◌}
use Rattle.board_base.specs.Board.{file, is_in, rank}
use Rattle.board_base.specs.Legal.{last_rank}
use Rattle.figures.specs.Figures.{Figure}
use Rattle.figures.specs.Steps.{Step}
use Rattle.sketch_sets.specs.Files.{straight}
use Rattle.sketch_steps.proofs.Telling.{gone-made, gone-none}
use Rattle.sketch_steps.proofs.stepping.is_gone.Goals as goal

pub returns-then-not-on : goal.returns-then-not-on
returns-then-not-on c = gone-none c.args.exact.now c.args.sketch.now c.args.figure.now c.args.step.now (sym (ap (λ (n : ℕ). is_in c.args.exact.now n) c.file.ensures ∙ ap (λ (x : Step). is_in c.args.exact.now (file x.from)) c.step.view_is) ∙ c.if-not-on.true)

pub returns : goal.returns
returns c =
    ap (λ (on : Bool). on && c.squares_are_free-free.result && c.may_be.result && not (c.rank.result == c.last_rank.result) && c.goes_straight-straight.result && c.keeps.result) (sym c.if-not-on.false)
    ∙ gone-made c.args.exact.now c.args.sketch.now c.args.figure.now c.args.step.now _ c.squares_are_free-free.result c.may_be.result c.goes_straight-straight.result c.keeps.result c.rank.result c.last_rank.result
    (ap (λ (n : ℕ). is_in c.args.exact.now n) c.file.ensures ∙ ap (λ (x : Step). is_in c.args.exact.now (file x.from)) c.step.view_is)
    c.squares_are_free-free.ensures
    c.may_be.ensures
    (c.rank.ensures ∙ ap (λ (x : Step). rank x.to) c.step.view_is)
    (c.last_rank.ensures ∙ ap (λ (f : Figure). last_rank f.colour) c.figure.view_is)
    (c.goes_straight-straight.ensures ∙ ap (λ (x : Step). straight c.figure.inside.colour x.from x.to) c.step.view_is ∙ ap (λ (f : Figure). straight f.colour c.args.step.now.from c.args.step.now.to) c.figure.view_is)
    c.keeps.ensures
