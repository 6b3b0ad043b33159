use Rattle.std.proofs.Common.{◌∙◌}
use Rattle.sketch_grounds.specs.Zones.{Room, room_past}
use Rattle.sketch_account.proofs.accounts.Scales.set_prices.Goals as goal

pub invariant_of-self : goal.invariant_of-self
invariant_of-self c =
    let x = c.self.inside in
    let R : Room = room_past x.wall x.zones in
    let white = c.self.invariant.0 in
    let black = c.self.invariant.1 in (
      record {
        side = c.set_prices.ensures.side ∙ white.side;
        wall_is = c.set_prices.ensures.wall ∙ white.wall_is;
        ground = c.set_prices.ensures.ground x.odds x.prices R white.ground;
      },
      record {
        side = c.set_prices-2.ensures.side ∙ black.side;
        wall_is = c.set_prices-2.ensures.wall ∙ black.wall_is;
        ground = c.set_prices-2.ensures.ground x.odds x.prices R black.ground;
      },
    )
