use Rattle.std.proofs.Common.{◌||◌, List, Bool, take, ap, sym, ◌∙◌, arith}
use Rattle.std.specs.List.{list_any}
use Rattle.std.proofs.lemmas.List.{take_all}
use Rattle.std.proofs.lemmas.List.Folds.{list_any_more}
use Rattle.board_base.specs.Board.{is_in}
use Rattle.figures.proofs.Filling.{none-in-zero}
use Rattle.figures.specs.Figures.{Figure, Sketch}
use Rattle.sketch_sets.proofs.Sets.{told-either}
use Rattle.sketch_sets.proofs.unions.over_figures.Goals as goal

pub loop-figure-init : goal.loop-figure-init
loop-figure-init g c = λ e p low agrees. ap (λ (l : List Bool). is_in l e) c.from_bits-squares.ensures.squares ∙ none-in-zero e

pub loop-figure-preserved : goal.loop-figure-preserved
loop-figure-preserved g c = λ e p low agrees.
    let figures : Sketch = c.figures-figure-items.result.now in
    told-either c.loop-figure.squares c.sets.result c.either-squares.result e low c.either-squares.ensures
    ∙ ap (λ (x : Bool). x || is_in c.sets.result e) (c.loop-figure.invariant e p low agrees)
    ∙ ap (λ (x : Bool). list_any p (take c.loop-figure.figure-index figures) || x) (agrees c.figure-item.result c.sets.result c.sets.ensures)
    ∙ sym (list_any_more p figures c.loop-figure.figure-index c.figure-item.result c.loop-figure-test.true ∙ ap (λ (f : Figure). list_any p (take c.loop-figure.figure-index figures) || p f) (sym c.figure-item.is))

pub returns : goal.returns
returns g c = λ e p low agrees.
    let figures : Sketch = c.figures-figure-items.result.now in
    c.loop-figure.invariant e p low agrees ∙ ap (list_any p) (take_all c.loop-figure.figure-index figures (omega arith)) ∙ ap (list_any p) c.figures-figure-items.ensures.value
