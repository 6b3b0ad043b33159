use Rattle.std.proofs.Common.{◌≡◌, ◌∙◌, length, ap, sym}
use Rattle.std.proofs.lemmas.Bool.{both_ways}
use Rattle.figures.specs.Figures.{Figure}
use Rattle.sketch_grounds.proofs.Backing.{growing-end, growing-less, growing-more}
use Rattle.sketch_grounds.proofs.EachSet.{least-is}
use Rattle.sketch_grounds.proofs.zones.zone_of.Goals as goal

pub returns-then-is_same-clause-zone : goal.returns-then-is_same-clause-zone
returns-then-is_same-clause-zone c = growing-end c.args.wall c.args.figure.now c.steps.within c.backed-more.result c.requires c.backed-more.ensures (c.is_same.ensures.0 c.if-is_same.true) c.steps.invariant

pub returns-then-is_same-clause-value : goal.returns-then-is_same-clause-value
returns-then-is_same-clause-value c =
    let whole : length c.args.figure.now.squares ≡ 64 = ap (λ (x : Figure). length x.squares) (sym c.figure.view_is) ∙ c.is_whole.ensures in
    least-is c.args.wall c.args.figure.now c.steps.within whole c.steps.invariant.size (growing-end c.args.wall c.args.figure.now c.steps.within c.backed-more.result c.requires c.backed-more.ensures (c.is_same.ensures.0 c.if-is_same.true) c.steps.invariant) c.steps.invariant.least

pub returns-then-is_same-clause-least : goal.returns-then-is_same-clause-least
returns-then-is_same-clause-least c = c.steps.invariant.least

pub steps-smaller : goal.steps-smaller
steps-smaller c = growing-less c.args.wall c.args.figure.now c.steps.within c.backed-more.result c.backed-more.ensures (λ same. both_ways _ c.if-is_same.false (c.is_same.ensures.1 same)) c.steps.invariant

pub steps-preserved : goal.steps-preserved
steps-preserved c = growing-more c.args.wall c.args.figure.now c.steps.within c.backed-more.result c.backed-more.ensures c.steps.invariant
