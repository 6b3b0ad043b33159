use Rattle.std.proofs.Common.{◌≡◌, ◌<◌, ◌∙◌, ◌++◌, ◌∷◌, [], ℕ, List, Bool, get_or, length, ap, sym, subst, arith}
use Rattle.std.proofs.lemmas.Bool.{and_parts}
use Rattle.std.proofs.lemmas.List.{take_all}
use Rattle.std.specs.List.{Contains}
use Rattle.arrayvec.specs.ArrayVec.{ArrayVec}
use Rattle.cage_rules.specs.Sets.{union}
use Rattle.figures.specs.Figures.{Figure, Sketch}
use Rattle.past_account.specs.Zones.{AreZones}
use Rattle.sketch_grounds.specs.LeastZones.{is_pair, pair_zones}
use Rattle.sketch_grounds.specs.Wide.{AreWide}
use Rattle.sketch_grounds.proofs.Joining.{are-more, are-none, wide-more, wide-none, zones-more, zones-same}
use Rattle.sketch_grounds.proofs.Pairs.{pair-wide}
use Rattle.sketch_grounds.proofs.zones.zones_of.Goals as goal
use Rattle.sketch_grounds.proofs.zones.zones_of.Goals.{in-Some, in-None}

pub loop-figure-init : goal.loop-figure-init
loop-figure-init c = record { few = omega (arith, ap (λ (l : List (List Bool)). length l) c.new-sets.ensures); wide = wide-none c.new-sets.result.items c.none-squares.result c.new-sets.ensures; are = c.new-sets.ensures; zones = are-none c.args.wall c.args.sketch.now c.new-sets.result.items c.new-sets.ensures }

pub loop-figure-preserved : goal.loop-figure-preserved
loop-figure-preserved c =
    let S : Sketch = c.args.sketch.now in
    let f : Figure = c.figure-item.result in
    let i : ℕ = c.loop-figure.figure-index in
    let value : c.figures-figure-items.result.now ≡ S = c.figures-figure-items.ensures.value in
    let low : i < length S = omega (arith, c.loop-figure-test.true, ap (λ (l : Sketch). length l) value) in
    let here : get_or S i f ≡ f = ap (λ (l : Sketch). get_or l i f) (sym value) ∙ sym c.figure-item.is in
    let member : Contains S f = (i, low, here) in
    elim c.match-pair_zone.branch [
      | in-Some w ↦
          let zone : List Bool = w.in-Some.zone in
          let made : c.match-pair_zone.sets.items ≡ c.loop-figure.sets.items ++ zone ∷ [] = ap (λ (x : ArrayVec (List Bool)). x.items) w.sets-is ∙ w.push.ensures.items ∙ ap (λ (z : List Bool). c.loop-figure.sets.items ++ z ∷ []) w.new.ensures in
          let e : c.match-pair_zone.squares ≡ union c.loop-figure.squares zone = w.squares-is ∙ w.either-squares.ensures in
          record {
            few = omega (arith, w.push.ensures.len, ap (λ (x : ArrayVec (List Bool)). length x.items) w.sets-is, c.loop-figure.invariant.few);
            wide = wide-more c.loop-figure.sets.items c.match-pair_zone.sets.items c.loop-figure.squares c.match-pair_zone.squares zone c.is_whole.ensures w.in-Some.ensures.2 (pair-wide zone (ap is_pair w.in-Some.ensures.1 ∙ (and_parts _ _ w.in-Some.ensures.0).1)) made e c.loop-figure.invariant.wide;
            are = zones-more c.args.wall S i f c.loop-figure.sets.items c.match-pair_zone.sets.items zone low here w.in-Some.ensures.0 w.in-Some.ensures.1 made c.loop-figure.invariant.are;
            zones = are-more c.args.wall S f c.loop-figure.sets.items c.match-pair_zone.sets.items zone member w.in-Some.ensures.3 made c.loop-figure.invariant.zones;
          }
      | in-None w ↦
          let same : c.match-pair_zone.sets.items ≡ c.loop-figure.sets.items = ap (λ (x : ArrayVec (List Bool)). x.items) w.sets-is in
          record {
            few = omega (arith, ap (λ (l : List (List Bool)). length l) same, c.loop-figure.invariant.few);
            wide = subst (λ (l : List (List Bool)). AreWide l c.match-pair_zone.squares) (sym same) (subst (AreWide c.loop-figure.sets.items) (sym w.squares-is) c.loop-figure.invariant.wide);
            are = same ∙ zones-same c.args.wall S i f c.loop-figure.sets.items low here w.in-None.ensures c.loop-figure.invariant.are;
            zones = subst (AreZones c.args.wall S) (sym same) c.loop-figure.invariant.zones;
          }
    ]

pub returns-clause-value : goal.returns-clause-value
returns-clause-value c = c.loop-figure.invariant.are ∙ ap (pair_zones c.args.wall) (take_all c.loop-figure.figure-index c.args.sketch.now (omega (arith, c.loop-figure-test.false, ap (λ (l : Sketch). length l) c.figures-figure-items.ensures.value)))
