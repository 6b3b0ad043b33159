-- A supposition that counts no captures leaves the prices as they are.
use Rattle.std.proofs.Common.{◌≡◌, ℕ, ◌+◌, true, false, refl, ap, sym, subst, arith}
use Rattle.std.specs.Prelude.{◌↔◌, IsTrue, nat_lt}
use Rattle.std.proofs.lemmas.Bool.{both_ways, lt-ltb, ltb-true}
use Rattle.board_base.specs.declared.men.Colour.{Colour}
use Rattle.board_base.specs.declared.men.Colour.TheVariants.{White, Black}
use Rattle.query_base.specs.Asked.{Asked}
use Rattle.capture_prices.specs.Prices.{PriceList, are_prices}
use Rattle.ledger_facts.specs.Accounts.{earned_over, list_for, paid_over, side_cost_if}
use Rattle.ledger_facts.specs.Refuted.{IsRefuted}
use Rattle.ledger_facts.specs.declared.suppositions.Supposition.{Supposition}
use Rattle.ledger_facts.specs.declared.suppositions.Supposition.TheVariants.{Began, Went, Stands, Gone, AtMost, AtLeast}
use Rattle.ledger_rule.specs.Counting.{is_count}
use Rattle.ledger_rule.specs.Kept.{IsAccount}
use Rattle.ledger_rule.specs.declared.accounts.Account.{Account}

pub uncounted-list : (x : Supposition) (p : PriceList) (c : Colour) → is_count x ≡ false → list_for x p c ≡ p
uncounted-list (Began t homes) p c other = refl
uncounted-list (Went t straight) p c other = refl
uncounted-list (Stands k promoted) p c other = refl
uncounted-list (Gone k promoted struck) p c other = refl
uncounted-list (AtMost side squares n) p c other = absurd (both_ways true other refl)
uncounted-list (AtLeast side squares n) p c other = absurd (both_ways true other refl)

pub uncounted-paid : (x : Supposition) → is_count x ≡ false → paid_over x ≡ 0
uncounted-paid (Began t homes) other = refl
uncounted-paid (Went t straight) other = refl
uncounted-paid (Stands k promoted) other = refl
uncounted-paid (Gone k promoted struck) other = refl
uncounted-paid (AtMost side squares n) other = absurd (both_ways true other refl)
uncounted-paid (AtLeast side squares n) other = absurd (both_ways true other refl)

pub uncounted-earned : (x : Supposition) → is_count x ≡ false → earned_over x ≡ 0
uncounted-earned (Began t homes) other = refl
uncounted-earned (Went t straight) other = refl
uncounted-earned (Stands k promoted) other = refl
uncounted-earned (Gone k promoted struck) other = refl
uncounted-earned (AtMost side squares n) other = absurd (both_ways true other refl)
uncounted-earned (AtLeast side squares n) other = absurd (both_ways true other refl)

-- what the men of both sides cost decides
pub account-decides : (x : Supposition) (q : Asked) (a : Account) (white black : ℕ) → IsAccount q a → is_count x ≡ false → white ≡ side_cost_if x q.odds q.board a.prices a.set White → black ≡ side_cost_if x q.odds q.board a.prices a.set Black
    → IsTrue (nat_lt a.most (white + black)) ↔ IsRefuted x q a.set a.prices
account-decides x q a white black kept other white_is black_is =
    let whites = uncounted-list x a.prices White other in
    let blacks = uncounted-list x a.prices Black other in
    let white_same = ap (λ (p : PriceList). side_cost_if x q.odds q.board p a.set White) whites in
    let black_same = ap (λ (p : PriceList). side_cost_if x q.odds q.board p a.set Black) blacks in
    let paid = uncounted-paid x other in
    let earned = uncounted-earned x other in
    let most = kept.most in (
      λ yes. record {
        settled = kept.settled;
        white_prices = subst (λ (p : PriceList). IsTrue (are_prices p)) (sym whites) kept.known;
        black_prices = subst (λ (p : PriceList). IsTrue (are_prices p)) (sym blacks) kept.known;
        white = kept.white.few;
        black = kept.black.few;
        above = omega (arith, most, paid, earned, white_is, black_is, white_same, black_same, ltb-true _ _ yes);
      },
      λ it. lt-ltb _ _ (omega (arith, most, paid, earned, white_is, black_is, white_same, black_same, it.above)),
    )
