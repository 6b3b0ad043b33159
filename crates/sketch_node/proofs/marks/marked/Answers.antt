use Rattle.std.proofs.Common.{◌≡◌, Bool, List, true, ap, subst, sym, ◌∙◌}
use Rattle.std.proofs.lemmas.List.Elements.{All-weaker}
use Rattle.capture_prices.specs.Prices.{PriceList, are_prices}
use Rattle.figures.specs.Figures.{Sketch}
use Rattle.sketch_account.specs.Account.{CostTooMuch, against}
use Rattle.sketch_account.specs.Zones.{room_past}
use Rattle.sketch_account.specs.Basis.{Basis}
use Rattle.sketch_node.specs.Nodes.{HasTree, IsMarkableOn}
use Rattle.sketch_node.proofs.Several.{IsForcedFor, marks-refute}
use Rattle.sketch_node.proofs.marks.marked.Goals as goal

pub returns-then-are_markable-clause-sound : goal.returns-then-are_markable-clause-sound
returns-then-are_markable-clause-sound c = λ exact tree.
    let x : Basis = c.of-scales.result in
    let S : Sketch = c.args.sketch.now in
    let odds : x.odds ≡ c.args.odds = ap (λ (b : Basis). b.odds) c.of-scales.ensures.value in
    let prices : x.prices ≡ c.args.prices.now = ap (λ (b : Basis). b.prices) c.of-scales.ensures.value in
    let known : are_prices x.prices ≡ true = ap are_prices prices ∙ c.are_known.ensures in
    marks-refute c.args.odds c.args.held exact S c.args.numbers.now
    (All-weaker (IsMarkableOn x S) (IsForcedFor c.args.odds c.args.held S) (λ n is. (
      is.index,
      is.from_one,
      record {
        set = x.wall;
        zones = x.zones;
        prices = x.prices;
        frozen = c.of-scales.ensures.frozen;
        forced = record {
          fixed = c.of-scales.ensures.fixed;
          zones_are = c.of-scales.ensures.zones;
          prices = known;
          above = subst (λ (o : List Bool). CostTooMuch o x.prices x.wall (room_past x.wall x.zones) (against is.index S)) odds is.forced.above;
        };
      },
    )) c.args.numbers.now (c.are_markable.ensures.0 c.if-are_markable.true))
    (subst (HasTree c.args.odds c.args.held exact) c.with_marks.ensures tree)
