use Rattle.std.proofs.Common.{◌≡◌}
use Rattle.std.specs.List.{flat_map, range_with_len}
use Rattle.balance_prose.specs.Pricing.{item_words}
use Rattle.balance_prose.proofs.pricing.shade_prices.Given as goal

abbrev pub invariant-loop-price : goal.invariant-loop-price
invariant-loop-price l = l.list.items ≡ flat_map (item_words l.usual l.prices l.shade) (range_with_len 0 l.price)
