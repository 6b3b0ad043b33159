use Rattle.std.proofs.Common.{◌≤◌, [], ◌∷◌, length, length-append, take, ap, ◌∙◌, subst, arith, not, rules}
use Rattle.std.specs.List.{list_all}
use Rattle.figures.specs.Figures.{Sketch, each_changed}
use Rattle.sketch_steps.specs.Cleared.{changed_of, clears}
use Rattle.sketch_steps.specs.Places.{has_low_place}
use Rattle.sketch_steps.proofs.Before.{changed-same, each-more, each-told, low-item}
use Rattle.sketch_steps.proofs.taken.each_before.Goals as goal

pub changed-requires-clause-figure : goal.changed-requires-clause-figure
changed-requires-clause-figure c =
    low-item c.figures-figure-items.result.now c.loop-i.i c.figure-item.result (ap (list_all has_low_place) c.figures-figure-items.ensures.value ∙ c.requires.figures) c.loop-i-test.true c.figure-item.is

pub loop-i-preserved : goal.loop-i-preserved
loop-i-preserved c = record {
  size = omega (arith, ap length c.push.ensures, length-append c.loop-i.before (c.changed.result ∷ []), c.loop-i.invariant.size);
  made = each-more c.args.colour c.args.step.now c.figures-figure-items.result.now c.loop-i.i c.figure-item.result c.changed.result [] c.loop-i.before c.push.new.self c.loop-i-test.true c.figure-item.is (c.changed.ensures ∙ changed-same c.args.colour c.args.step.now c.squares_that-kept.result c.loop-i.i c.figure-item.result (c.squares_that-kept.ensures (λ s. not (clears c.args.colour c.args.step.now s)) (λ s b low post. search rules))) c.loop-i.invariant.made c.push.ensures;
}

pub returns : goal.returns
returns c =
    let past : length c.args.sketch.now ≤ c.loop-i.i = subst (λ (T : Sketch). length T ≤ c.loop-i.i) c.figures-figure-items.ensures.value (omega arith) in
    c.loop-i.invariant.made ∙ ap (λ (T : Sketch). each_changed (changed_of c.args.colour c.args.step.now) 0 (take c.loop-i.i T)) c.figures-figure-items.ensures.value
    ∙ each-told c.args.colour c.args.step.now c.args.sketch.now c.loop-i.i past
