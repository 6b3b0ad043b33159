use Rattle.std.proofs.Common.{◌≤◌, ◌<◌, length, ap, sym, ◌∙◌, arith}
use Rattle.past_sketches.specs.Figures.{Sketch, figure_at}
use Rattle.figures.proofs.Numbered.{at-none, at-some}
use Rattle.figures.proofs.sketches.Sketch.get.Goals as goal

pub returns-then-i-figures : goal.returns-then-i-figures
returns-then-i-figures c =
    let low : c.args.i < length c.as_slice-figures.result.now = omega arith in
    at-some c.as_slice-figures.result.now c.args.i c.index-figures-i.result low (sym c.index-figures-i.is) ∙ ap (λ (T : Sketch). figure_at T c.args.i) (c.as_slice-figures.ensures.value ∙ c.self.view_is)

pub returns-else-i-figures : goal.returns-else-i-figures
returns-else-i-figures c =
    let past : length c.as_slice-figures.result.now ≤ c.args.i = omega arith in
    at-none c.as_slice-figures.result.now c.args.i past ∙ ap (λ (T : Sketch). figure_at T c.args.i) (c.as_slice-figures.ensures.value ∙ c.self.view_is)
