use Rattle.std.proofs.Common.{◌≡◌, ◌<◌, true, ap, sym, ◌∙◌, arith}
use Rattle.std.proofs.lemmas.Bool.{false_from_ne_true, lt-ltb, ltb-true}
use Rattle.figures.specs.Figures.{Figure}
use Rattle.figures.specs.Steps.{Step}
use Rattle.sketch_sets.specs.Files.{is_above, is_below, is_beside}
use Rattle.sketch_steps.proofs.Telling.{yields-above, yields-below, yields-off}
use Rattle.sketch_steps.proofs.stepping.yields.Goals as goal

pub returns-then-not-is_pawn_beside : goal.returns-then-not-is_pawn_beside
returns-then-not-is_pawn_beside c = yields-off c.args.step.now c.args.other.now (ap (λ (x : Step). is_beside x.from c.args.other.now) (sym c.step.view_is) ∙ sym c.is_pawn_beside.ensures ∙ c.if-not-is_pawn_beside.true)

pub returns-then-other-step : goal.returns-then-other-step
returns-then-other-step c =
    let on : is_beside c.args.step.now.from c.args.other.now ≡ true = ap (λ (x : Step). is_beside x.from c.args.other.now) (sym c.step.view_is) ∙ sym c.is_pawn_beside.ensures ∙ c.if-not-is_pawn_beside.false in
    c.stands_below.ensures ∙ ap (λ (x : Step). is_below x.from c.args.other.now) c.step.view_is ∙ yields-below c.args.step.now c.args.other.now on (lt-ltb c.args.other.now.place c.args.step.now.place (omega (arith, ap (λ (f : Figure). f.place) c.other.view_is, ap (λ (x : Step). x.place) c.step.view_is, c.if-other-step.true)))

pub returns : goal.returns
returns c =
    let on : is_beside c.args.step.now.from c.args.other.now ≡ true = ap (λ (x : Step). is_beside x.from c.args.other.now) (sym c.step.view_is) ∙ sym c.is_pawn_beside.ensures ∙ c.if-not-is_pawn_beside.false in
    c.stands_above.ensures ∙ ap (λ (x : Step). is_above x.from c.args.other.now) c.step.view_is ∙ yields-above c.args.step.now c.args.other.now on (false_from_ne_true _ (λ h. let low : c.args.other.now.place < c.args.step.now.place = ltb-true c.args.other.now.place c.args.step.now.place h in absurd (omega (arith, low, ap (λ (f : Figure). f.place) c.other.view_is, ap (λ (x : Step). x.place) c.step.view_is, c.if-other-step.false))))
