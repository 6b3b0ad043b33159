use Rattle.std.proofs.Common.{◌≡◌, ◌<◌, ◌≤◌, ℕ, Bool, true, List}
use Rattle.board_base.specs.Legal.{is_officer}
use Rattle.board_base.specs.declared.men.Colour.{Colour}
use Rattle.board_base.specs.declared.men.Kind.{Kind}
use Rattle.men_fates.specs.Ways.{toll}
use Rattle.capture_prices.specs.Prices.{PriceList, gate, take}
use Rattle.balance_rule.specs.Costs.{never}
use Rattle.balance_rule.specs.Grounds.{ArePromoted}
use Rattle.balance_rule.specs.LeastWays.{IsLeast, IsReach}
use Rattle.balance_rule.proofs.Brought.{by_files}
use Rattle.balance_rule.proofs.fates.toll_promoted.Given as goal

abbrev pub invariant-loop-f : goal.invariant-loop-f
invariant-loop-f l = record {
  small : l.least ≤ never;
  least : (p : PriceList) (set : List Bool) (c : Colour) (kind : Kind) (h : ℕ) → h < 64 → IsReach p set c h l.reach → is_officer kind ≡ true → ArePromoted set c kind l.regions → IsLeast c set h (by_files set c h kind l.fn.s l.f) (toll (take p c) (gate p) h) l.least;
}
