use Rattle.std.proofs.Common.{◌≡◌, Bool, List, [], ap, sym, subst, ◌∙◌}
use Rattle.capture_prices.specs.Prices.{PriceList}
use Rattle.balance_rule.specs.Grounds.{IsGround as IsOpenGround}
use Rattle.balance_rule.specs.declared.grounds.Ground.{Ground as OpenGround}
use Rattle.sketch_grounds.specs.Zones.{room_past}
use Rattle.sketch_account.specs.Grounds.{IsGround}
use Rattle.sketch_account.proofs.grounds.ground_of.Goals as goal

pub returns-then-is_empty-clause-ground : goal.returns-then-is_empty-clause-ground
returns-then-is_empty-clause-ground c =
    let b = c.ground_of-base.result in
    let p : PriceList = c.args.prices.now in
    let base : IsOpenGround c.args.odds p b = subst (λ (o : List Bool). IsOpenGround o p b) c.query_at.ensures c.ground_of-base.ensures.ground in
    let none : c.args.zones.now ≡ [] = c.is_empty.ensures.0 c.if-is_empty.true in
    subst (λ (zones : List (List Bool)). IsGround c.args.odds p (room_past c.args.wall zones) c.open_ground.result) (sym none)
    (subst (λ (wall : List Bool). IsGround c.args.odds p (room_past wall []) c.open_ground.result) c.ground_of-base.ensures.frozen (c.open_ground.ensures.ground c.args.odds p base))

pub returns-else-is_empty-clause-ground : goal.returns-else-is_empty-clause-ground
returns-else-is_empty-clause-ground c =
    let b = c.ground_of-base.result in
    let p : PriceList = c.args.prices.now in
    let base : IsOpenGround c.args.odds p b = subst (λ (o : List Bool). IsOpenGround o p b) c.query_at.ensures c.ground_of-base.ensures.ground in
    subst (λ (wall : List Bool). IsGround c.args.odds p (room_past wall c.args.zones.now) c.zoned_ground.result) c.ground_of-base.ensures.frozen (c.zoned_ground.ensures.ground c.args.odds base)

pub returns-then-is_empty-clause-side : goal.returns-then-is_empty-clause-side
returns-then-is_empty-clause-side c = ap (λ (g : OpenGround). g.side) c.open_ground.ensures.base ∙ c.ground_of-base.ensures.side

pub returns-then-is_empty-clause-wall : goal.returns-then-is_empty-clause-wall
returns-then-is_empty-clause-wall c = ap (λ (g : OpenGround). g.frozen) c.open_ground.ensures.base ∙ c.ground_of-base.ensures.frozen

pub returns-else-is_empty-clause-side : goal.returns-else-is_empty-clause-side
returns-else-is_empty-clause-side c = ap (λ (g : OpenGround). g.side) c.zoned_ground.ensures.base ∙ c.ground_of-base.ensures.side

pub returns-else-is_empty-clause-wall : goal.returns-else-is_empty-clause-wall
returns-else-is_empty-clause-wall c = ap (λ (g : OpenGround). g.frozen) c.zoned_ground.ensures.base ∙ c.ground_of-base.ensures.frozen
