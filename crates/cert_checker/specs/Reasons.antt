-- When a reason of one line supports a query.
use Rattle.query_base.specs.Asked.{Asked}
use Rattle.static_rules.specs.Supports.{Supports}
use Rattle.balance_rule.specs.Balance.{BalanceSupports}
use Rattle.cert_text.specs.declared.reasons.Reason.{Reason}
use Rattle.cert_text.specs.declared.reasons.Reason.TheVariants.{Line, Balance}

-- the rule line supports the query, or the set and the prices do
abbrev pub ReasonSupports : Asked → Reason → Type 0
ReasonSupports q (Line r) = Supports q r
ReasonSupports q (Balance set p) = BalanceSupports q set p
