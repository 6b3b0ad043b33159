use Rattle.std.proofs.Common.{◌≡◌, Bool, List, ap, subst, sym}
use Rattle.sketch_grounds.specs.Account.{CostTooMuch, by_marks}
use Rattle.sketch_grounds.specs.Closes.{costs}
use Rattle.sketch_grounds.specs.Zones.{room_past}
use Rattle.sketch_account.specs.Basis.{Basis, IsAbove}
use Rattle.sketch_account.proofs.accounts.closes.Goals as goal

pub returns-clause-exact : goal.returns-clause-exact
returns-clause-exact c = (
  λ h. subst (λ (b : Basis). IsAbove b (by_marks c.args.sketch.now)) c.of-scales.ensures.value (c.weigh.ensures.above.0 h),
  λ above. c.weigh.ensures.above.1 (subst (λ (b : Basis). IsAbove b (by_marks c.args.sketch.now)) (sym c.of-scales.ensures.value) above),
)

pub returns-clause-sound : goal.returns-clause-sound
returns-clause-sound c = λ h.
    let x : Basis = c.of-scales.result in
    let odds : x.odds ≡ c.args.odds = ap (λ (b : Basis). b.odds) c.of-scales.ensures.value in
    costs x.wall x.zones x.prices c.of-scales.ensures.frozen (record {
      fixed = c.of-scales.ensures.fixed;
      zones_are = c.of-scales.ensures.zones;
      prices = c.weigh.ensures.known;
      above = subst (λ (o : List Bool). CostTooMuch o x.prices x.wall (room_past x.wall x.zones) (by_marks c.args.sketch.now)) odds (c.weigh.ensures.above.0 h).above;
    })
