use Rattle.std.proofs.Common.{◌∙◌, [], arith}
use Rattle.prose_words.proofs.Squares.{flat_more, flat_whole}
use Rattle.balance_prose.specs.Pricing.{item_words, shade_words}
use Rattle.balance_prose.proofs.pricing.shade_prices.Goals as goal

pub loop-price-preserved : goal.loop-price-preserved
loop-price-preserved c = c.in_ok-push_item.ensures ∙ flat_more (item_words c.args.usual c.args.prices.now c.args.shade) [] _ _ c.loop-price.invariant

pub returns : goal.returns
unfolding shade_words
returns c = flat_whole (item_words c.args.usual c.args.prices.now c.args.shade) [] _ _ 97 c.loop-price.invariant (omega arith)
