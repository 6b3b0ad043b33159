use Rattle.std.proofs.Common.{Bool, List, ap, subst, sym, ◌∙◌}
use Rattle.play_rules.specs.Reach.{IsWithin}
use Rattle.figures.specs.Figures.{fixed_squares}
use Rattle.sketch_grounds.specs.Frozen.{IsFrozenIn}
use Rattle.sketch_grounds.specs.Zones.{AreZones}
use Rattle.sketch_grounds.specs.LeastZones.{pair_zones}
use Rattle.sketch_grounds.proofs.Joining.{frozen-fixed}
use Rattle.sketch_account.specs.Basis.{Basis}
use Rattle.sketch_account.proofs.accounts.Scales.of.Goals as goal

pub returns-clause-value : goal.returns-clause-value
returns-clause-value c =
    c.new.ensures
    ∙ ap (λ (zones : List (List Bool)). record { odds = c.args.odds; prices = c.args.prices; wall = c.greatest_frozen-wall.result; zones = zones }) c.zones_of.ensures.value
    ∙ ap (λ (wall : List Bool). record { odds = c.args.odds; prices = c.args.prices; wall = wall; zones = pair_zones wall c.args.sketch.now }) c.greatest_frozen-wall.ensures.value

pub returns-clause-frozen : goal.returns-clause-frozen
returns-clause-frozen c = subst (λ (b : Basis). IsFrozenIn c.args.held c.args.sketch.now b.wall) (sym c.new.ensures) c.greatest_frozen-wall.ensures.frozen

pub returns-clause-fixed : goal.returns-clause-fixed
returns-clause-fixed c = subst (λ (b : Basis). IsWithin b.wall (fixed_squares c.args.sketch.now)) (sym c.new.ensures) (frozen-fixed c.args.held c.args.sketch.now c.greatest_frozen-wall.result c.is_whole.ensures c.greatest_frozen-wall.ensures.frozen)

pub returns-clause-zones : goal.returns-clause-zones
returns-clause-zones c = subst (λ (b : Basis). AreZones b.wall c.args.sketch.now b.zones) (sym c.new.ensures) c.zones_of.ensures.zones
