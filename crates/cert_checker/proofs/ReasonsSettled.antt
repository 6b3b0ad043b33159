-- It can be settled whether a reason supports a query, and whether an ancestor covers it.
use Rattle.std.proofs.Common.{ℕ, ◌+◌, ◌<◌, ◌≤◌, inr, Bool, List}
use Rattle.std.specs.Prelude.{IsSomeAnd, IsTrue, Option, Some, None}
use Rattle.board_base.specs.Board.{array_of}
use Rattle.board_base.specs.declared.men.Colour.TheVariants.{White, Black}
use Rattle.capture_prices.specs.Prices.{PriceList, are_prices}
use Rattle.query_base.specs.Asked.{Asked}
use Rattle.query_base.specs.Ancestors.{CoversAt, ancestor}
use Rattle.query_base.specs.Targets.{Covers}
use Rattle.query_base.proofs.Settled.{covers_settled}
use Rattle.static_rules.specs.SetRules.{IsSettled}
use Rattle.static_rules.proofs.EachLine.{line_settled, set_settled}
use Rattle.balance_rule.specs.Balance.{BalanceSupports, men_on, most_cost, side_cost}
use Rattle.cert_text.specs.declared.reasons.Reason.{Reason}
use Rattle.cert_text.specs.declared.reasons.Reason.TheVariants.{Line, Balance}
use Rattle.cert_checker.specs.Reasons.{ReasonSupports}
use Rattle.general_lemmas.proofs.Settling.{Settled, at_most, below, both, same, test}

balance-settled : (q : Asked) (set : List Bool) (p : PriceList) → Settled (BalanceSupports q set p)
balance-settled q set p =
    let white : ℕ = side_cost q.odds q.board p set White in
    let black : ℕ = side_cost q.odds q.board p set Black in
    let few : Settled ((men_on White q.board ≤ men_on White (array_of q.odds)) × (men_on Black q.board ≤ men_on Black (array_of q.odds))) = both _ _ (at_most _ _) (at_most _ _) in
    let above : Settled (most_cost q.odds p < white + black) = below (most_cost q.odds p) (white + black) in
    same ((IsSettled q.odds q set × IsTrue (are_prices p)) × (((men_on White q.board ≤ men_on White (array_of q.odds)) × (men_on Black q.board ≤ men_on Black (array_of q.odds))) × (most_cost q.odds p < white + black))) (BalanceSupports q set p)
    (λ h. record { settled = h.0.0; prices = h.0.1; white = h.1.0.0; black = h.1.0.1; above = h.1.1 }) (λ h. ((h.settled, h.prices), ((h.white, h.black), h.above))) (both _ _ (both _ _ (set_settled q.odds q set) (test (are_prices p))) (both _ _ few above))

-- a reason supports a query, or it doesn't
pub reason_settled : (q : Asked) (r : Reason) → Settled (ReasonSupports q r)
reason_settled q (Line r) = line_settled q r
reason_settled q (Balance set p) = balance-settled q set p

some-covers : (o : Option Asked) (q : Asked) → Settled (IsSomeAnd o (λ a. Covers a q))
some-covers None q = inr (λ h. h)
some-covers (Some a) q = covers_settled a q

-- the ancestor so many steps above covers a query, or it doesn't
pub covering_settled : (q : Asked) (ancestors : List Asked) (k : ℕ) → Settled (CoversAt q ancestors k)
covering_settled q ancestors k = some-covers (ancestor ancestors k) q
