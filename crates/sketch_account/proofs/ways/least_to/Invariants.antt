use Rattle.std.proofs.Common.{◌≡◌, ◌-◌, ◌<◌, ◌≤◌, ℕ, Bool, List, true}
use Rattle.board_base.specs.Board.{is_in}
use Rattle.capture_prices.specs.Prices.{PriceList, gate, take}
use Rattle.men_fates.specs.Ways.{toll}
use Rattle.balance_rule.specs.Costs.{never}
use Rattle.balance_rule.specs.LeastWays.{IsLeast, IsReach}
use Rattle.sketch_account.proofs.Coming.{comes_before}
use Rattle.sketch_account.proofs.ways.least_to.Given as goal

abbrev pub invariant-goals : goal.invariant-goals
invariant-goals l = record {
  small : l.least ≤ never;
  here : l.i < 64 → is_in l.fn.goals l.i ≡ true;
  least : (p : PriceList) (set : List Bool) (h : ℕ) (on_board : h < 64) → IsReach p set l.fn.side h l.reach → IsLeast l.fn.side set h (comes_before p set l.fn.side h l.fn.goals l.fn.plain l.fn.other on_board l.i) (toll (take p l.fn.side) (gate p) h) l.least;
}

abbrev pub decreases-goals : goal.decreases-goals
decreases-goals l = 64 - l.i
