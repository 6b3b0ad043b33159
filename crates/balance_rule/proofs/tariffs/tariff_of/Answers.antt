use Rattle.std.proofs.Common.{◌∙◌, ap, List, []}
use Rattle.capture_prices.specs.Prices.{takes, toll_at}
use Rattle.capture_prices.specs.declared.prices.Gate.{Gate}
use Rattle.balance_rule.specs.LeastWays.{seen_by}
use Rattle.balance_rule.proofs.Priced.{tariff-made}
use Rattle.balance_rule.proofs.tariffs.tariff_of.Goals as goal

pub returns : goal.returns
returns c = λ frozen falls.
    tariff-made c.args.prices.now frozen c.args.side c.args.exposed c.takes.result.now c.takes-2.result.now [] _ c.takes.ensures.range falls c.takes.ensures.value (c.takes-2.ensures.value ∙ ap (takes c.args.prices.now) c.other.ensures)
    c.takes_seen.ensures (λ i inside. c.gates_seen.ensures i inside ∙ ap (λ (l : List Gate). toll_at l (seen_by c.args.side i)) c.gates.ensures.value) c.earned_seen.ensures
