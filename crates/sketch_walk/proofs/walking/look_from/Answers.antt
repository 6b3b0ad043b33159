use Rattle.std.proofs.Common.{◌≡◌, ◌<◌, ℕ, length, ap, sym, ◌∙◌, subst}
use Rattle.std.specs.Prelude.{Some}
use Rattle.figures.specs.Figures.{Figure, Sketch, figure_at}
use Rattle.figures.proofs.Numbered.{at-some}
use Rattle.sketch_walk.specs.Walks.{found_at, may_come, origin_at}
use Rattle.sketch_walk.proofs.Advancing.{past-square, past-way}
use Rattle.sketch_walk.proofs.walking.look_from.Goals as goal

pub returns-then-not-may_come-clause-found : goal.returns-then-not-may_come-clause-found
returns-then-not-may_come-clause-found c = λ o are.
    let T : Sketch = c.args.sketch.now in
    let f : Figure = c.index-figures-i.result in
    let low : c.args.cursor.by < length c.figures-figures.result.now = subst (λ (S : Sketch). c.args.cursor.by < length S) (sym c.figures-figures.ensures.value) c.requires.here in
    let found : figure_at T c.args.cursor.by ≡ Some f = sym (at-some c.figures-figures.result.now c.args.cursor.by f low (sym c.index-figures-i.is) ∙ ap (λ (S : Sketch). figure_at S c.args.cursor.by) c.figures-figures.ensures.value) in
    past-square o c.args.exact.now T c.args.cursor c.past_square.result f found c.requires.here (ap (may_come f) (sym c.known-to.ensures) ∙ sym c.may_come.ensures ∙ c.if-not-may_come.true) (c.past_square.ensures.left (found_at o c.args.exact.now T) (length T) c.requires.here)

pub look_at-requires-clause-figure : goal.look_at-requires-clause-figure
look_at-requires-clause-figure c =
    let low : c.args.cursor.by < length c.figures-figures.result.now = subst (λ (S : Sketch). c.args.cursor.by < length S) (sym c.figures-figures.ensures.value) c.requires.here in
    sym (at-some c.figures-figures.result.now c.args.cursor.by c.index-figures-i.result low (sym c.index-figures-i.is) ∙ ap (λ (S : Sketch). figure_at S c.args.cursor.by) c.figures-figures.ensures.value)

pub returns-in-None-clause-found : goal.returns-in-None-clause-found
returns-in-None-clause-found c = λ o are.
    let T : Sketch = c.args.sketch.now in
    let f : Figure = c.index-figures-i.result in
    let low : c.args.cursor.by < length c.figures-figures.result.now = subst (λ (S : Sketch). c.args.cursor.by < length S) (sym c.figures-figures.ensures.value) c.requires.here in
    let found : figure_at T c.args.cursor.by ≡ Some f = sym (at-some c.figures-figures.result.now c.args.cursor.by f low (sym c.index-figures-i.is) ∙ ap (λ (S : Sketch). figure_at S c.args.cursor.by) c.figures-figures.ensures.value) in
    let off : origin_at f.colour c.args.cursor.to c.args.cursor.way < 64 → ⊥ = λ low. c.in-None.ensures (subst (λ (g : Figure). origin_at g.colour c.known-to.result c.args.cursor.way < 64) (sym c.figure.view_is) (subst (λ (t : ℕ). origin_at f.colour t c.args.cursor.way < 64) (sym c.known-to.ensures) low)) in
    past-way o c.args.exact.now T c.args.cursor c.past_way.result f found c.requires.here off (c.past_way.ensures.left (found_at o c.args.exact.now T) (length T) c.requires.here)
