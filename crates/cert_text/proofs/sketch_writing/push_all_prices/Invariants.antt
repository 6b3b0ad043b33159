use Rattle.std.proofs.Common.{◌≡◌, ◌++◌, drop}
use Rattle.std.specs.List.{concat}
use Rattle.cert_text.specs.Written.{price_texts}
use Rattle.cert_text.proofs.sketch_writing.push_all_prices.Given as goal

abbrev pub invariant-loop-price : goal.invariant-loop-price
invariant-loop-price l = l.out.items ++ concat (price_texts (drop l.price-index l.prices)) ≡ l.fn.out.items ++ concat (price_texts l.prices)
