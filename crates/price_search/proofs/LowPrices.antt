-- Flat prices are told apart by what a capture costs.
use Rattle.std.proofs.Common.{◌≡◌, false, List, refl, ap, sym, subst, eq-eqb}
use Rattle.std.proofs.lemmas.Bool.{both_ways}
use Rattle.std.specs.Prelude.{Bool, Option, IsSome, is_some, nat_eq, slice_index}
use Rattle.query_base.specs.Asked.{Asked}
use Rattle.capture_prices.specs.Prices.{PriceList}
use Rattle.balance_rule.specs.Balance.{BalanceSupports}
use Rattle.price_search.specs.FlatPrices.{AreLow, flat_prices, once_prices}
use Rattle.price_search.specs.declared.payers.Payers.{Payers}
use Rattle.price_search.specs.declared.payers.Payers.TheVariants.{Both, WhiteAlone, BlackAlone}

-- prices are others where a side's first one is another
white-apart : (p r : PriceList) → nat_eq (slice_index p.white 0) (slice_index r.white 0) ≡ false → p ≡ r → ⊥
white-apart p r other same = both_ways _ other (eq-eqb _ _ (ap (λ (x : PriceList). slice_index x.white 0) same))

black-apart : (p r : PriceList) → nat_eq (slice_index p.black 0) (slice_index r.black 0) ≡ false → p ≡ r → ⊥
black-apart p r other same = both_ways _ other (eq-eqb _ _ (ap (λ (x : PriceList). slice_index x.black 0) same))

-- flat prices say who pays
flat-same : (a b : Payers) → flat_prices a ≡ flat_prices b → a ≡ b
flat-same Both Both same = refl
flat-same Both WhiteAlone same = absurd (black-apart (flat_prices Both) (flat_prices WhiteAlone) refl same)
flat-same Both BlackAlone same = absurd (white-apart (flat_prices Both) (flat_prices BlackAlone) refl same)
flat-same WhiteAlone Both same = absurd (black-apart (flat_prices WhiteAlone) (flat_prices Both) refl same)
flat-same WhiteAlone WhiteAlone same = refl
flat-same WhiteAlone BlackAlone same = absurd (white-apart (flat_prices WhiteAlone) (flat_prices BlackAlone) refl same)
flat-same BlackAlone Both same = absurd (white-apart (flat_prices BlackAlone) (flat_prices Both) refl same)
flat-same BlackAlone WhiteAlone same = absurd (white-apart (flat_prices BlackAlone) (flat_prices WhiteAlone) refl same)
flat-same BlackAlone BlackAlone same = refl

-- flat prices are low where those with 1 in their place don't support the query
pub flat-low : (q : Asked) (set : List Bool) (p : PriceList) (a : Payers) → p ≡ flat_prices a → (BalanceSupports q set (once_prices a) → ⊥) → AreLow q set p
flat-low q set p a is none b same supports =
    none (subst (λ (x : Payers). BalanceSupports q set (once_prices x)) (sym (flat-same a b (subst (λ (x : PriceList). x ≡ flat_prices b) is same))) supports)

-- so are prices that support it where no flat ones do
pub found-low : (q : Asked) (set : List Bool) (p : PriceList) → BalanceSupports q set p → ((a : Payers) → BalanceSupports q set (flat_prices a) → ⊥) → AreLow q set p
found-low q set p supports none b same once = none b (subst (λ (x : PriceList). BalanceSupports q set x) same supports)

-- what isn't there isn't given
pub none-left : (r : Option PriceList) → is_some r ≡ false → IsSome r → ⊥
none-left r none some = both_ways (is_some r) none some
