-- The side that can't have homes.
use Rattle.std.proofs.Common.{◌≡◌, Bool, true, false, cond, List, refl, subst}
use Rattle.std.specs.Prelude.{None, Some}
use Rattle.std.proofs.lemmas.Option.{same_Some}
use Rattle.balance_rule.specs.Balance.{BalanceSupports}
use Rattle.board_base.specs.declared.men.Colour.{Colour}
use Rattle.board_base.specs.declared.men.Colour.TheVariants.{White, Black}
use Rattle.capture_prices.specs.Prices.{PriceList}
use Rattle.query_base.specs.Asked.{Asked}
use Rattle.proof_sentences.specs.Reasons.{homeless_side}
use Rattle.proof_sentences.specs.Sentences.{Says, is_homeless}
use Rattle.proof_sentences.specs.declared.sentences.BalanceFact.TheVariants.{Homeless}
use Rattle.proof_sentences.specs.declared.sentences.Sentence.TheVariants.{OnBalance}

-- the side that is found is so
found-side : (white black : Bool) (c : Colour) → cond white (Some White) (cond black (Some Black) None) ≡ Some c → (P : Colour → Type 0) → (white ≡ true → P White) → (black ≡ true → P Black) → P c
found-side true black c e P w b = subst P (same_Some White c e) (w refl)
found-side false true c e P w b = subst P (same_Some Black c e) (b refl)
found-side false false c e P w b = absurd cc

pub homeless-says : (q : Asked) (set : List Bool) (p : PriceList) (c : Colour) → BalanceSupports q set p → homeless_side q set ≡ Some c → Says (OnBalance (Homeless c set)) q
homeless-says q set p c h e =
    found-side (is_homeless q set White) (is_homeless q set Black) c e (λ (x : Colour). Says (OnBalance (Homeless x set)) q)
    (λ is. ((h.settled.frozen, h.settled.as_array), h.white, is))
    (λ is. ((h.settled.frozen, h.settled.as_array), h.black, is))
