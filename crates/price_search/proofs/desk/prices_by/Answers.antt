use Rattle.std.proofs.Common.{sym, ◌∙◌}
use Rattle.std.proofs.lemmas.Option.{IfSome_then}
use Rattle.price_search.proofs.LowPrices.{found-low, none-left}
use Rattle.price_search.proofs.desk.prices_by.Goals as goal

pub returns-clause-low : goal.returns-clause-low
returns-clause-low c =
    IfSome_then c.if_balanced.result c.if_balanced.ensures.supports (λ p supports.
    found-low c.args.query.now c.args.set p supports (λ a flat. none-left c.find_flat-flat.result (sym c.is_some.ensures ∙ c.if-is_some.false) (c.find_flat-flat.ensures.flat a flat)))
