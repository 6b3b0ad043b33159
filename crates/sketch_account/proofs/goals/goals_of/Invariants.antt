use Rattle.std.proofs.Common.{Bool, List}
use Rattle.capture_prices.specs.Prices.{PriceList}
use Rattle.sketch_grounds.specs.Zones.{Room}
use Rattle.sketch_account.specs.Grounds.{IsGround}
use Rattle.sketch_account.proofs.Aiming.{Aimed}
use Rattle.sketch_account.proofs.goals.goals_of.Given as goal

abbrev pub invariant-loop-f : goal.invariant-loop-f
invariant-loop-f l = (o : List Bool) (p : PriceList) (R : Room) → IsGround o p R l.ground → Aimed R l.ground.base.side l.ground.base.frozen l.figure l.goals l.f
