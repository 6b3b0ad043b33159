use Rattle.std.proofs.Common.{◌<◌, ◌++◌, List, ℕ, length, get_or, refl, ap, ◌∙◌, arith}
use Rattle.std.specs.Fmt.{decimal}
use Rattle.sketch_text.proofs.Written.{figure_written, figures_written}
use Rattle.sketch_text.proofs.writing.push_figures.Goals as goal

pub loop-figure-init : goal.loop-figure-init
loop-figure-init c = figures_written c.args.figures.now c.args.out.now.items

pub loop-figure-preserved : goal.loop-figure-preserved
loop-figure-preserved c =
    let inside : c.loop-figure.figure-index < length c.args.figures.now = omega arith in
    figure_written c.args.figures.now c.loop-figure.figure-index _ c.args.out.now.items c.loop-figure.out.items c.push_short.new.out.items inside refl
    (c.push_short.ensures.text ∙ ap (λ (l : List ℕ). l ++ decimal (get_or c.args.figures.now c.loop-figure.figure-index 0)) c.push.ensures.items) (omega (arith, c.push_short.ensures.short, ap (λ (l : List ℕ). length l) c.push.ensures.items)) c.loop-figure.invariant
