-- What men earn at most within sets of squares.
use Rattle.std.proofs.Common.{◌≡◌, ℕ, ◌<◌, inl, inr, Bool, true, cond, ◌&&◌, List, slice_index, ap, sym, ◌∙◌, arith}
use Rattle.std.proofs.lemmas.Bool.{and_from, and_parts, cases_Bool}
use Rattle.board_base.specs.Board.{is_in, opponent}
use Rattle.board_base.specs.declared.men.Colour.{Colour}
use Rattle.cage_rules.specs.Sets.{squares_that}
use Rattle.cage_rules.proofs.Filling.{is_in-that}
use Rattle.men_fates.specs.Fates.{may_fall}
use Rattle.capture_prices.specs.Prices.{PriceList, class_of, take, takes}
use Rattle.balance_rule.specs.Costs.{earned, greatest_on, most_earned}
use Rattle.balance_rule.proofs.Greatests.{greatest-listed, only-greatest}

-- tests that agree on the board
pub greatest-same : (p q : ℕ → Bool) (f : ℕ → ℕ) → ((s : ℕ) → s < 64 → p s ≡ q s) → greatest_on p f ≡ greatest_on q f
greatest-same p q f same =
    let listed = greatest-listed p f in
    only-greatest q f _ _ (record {
      above = λ s inside passes. listed.above s inside (same s inside ∙ passes);
      found = λ some. let had = listed.found some in (had.0, had.1, sym (same had.0 had.1) ∙ had.2, had.3);
    }) (greatest-listed q f)

pub most-earned : (p : PriceList) (frozen : List Bool) (c : Colour) (exposed within open_ : List Bool) (enemy : List ℕ) (n : ℕ) → exposed ≡ squares_that (may_fall frozen c) → enemy ≡ takes p (opponent c)
    → ((s : ℕ) → s < 64 → is_in open_ s ≡ (is_in within s && is_in exposed s)) → n ≡ greatest_on (is_in open_) (λ s. slice_index enemy (class_of s)) → n ≡ most_earned p frozen c (is_in within)
most-earned p frozen c exposed within open_ enemy n falls enemy_is both is =
    let listed = greatest-listed (is_in open_) (λ s. slice_index enemy (class_of s)) in
    let exposed-is : (s : ℕ) → s < 64 → is_in exposed s ≡ may_fall frozen c s = λ s inside. ap (λ (l : List Bool). is_in l s) falls ∙ is_in-that (may_fall frozen c) s inside in
    let price-is : (s : ℕ) → slice_index enemy (class_of s) ≡ take p (opponent c) s = λ s. ap (λ (l : List ℕ). slice_index l (class_of s)) enemy_is in
    is ∙ only-greatest (is_in within) (earned p frozen c) _ _ (record {
      above = λ s inside member. elim (cases_Bool (may_fall frozen c s)) [
        | inl may ↦
            let e : earned p frozen c s ≡ take p (opponent c) s = ap (λ (b : Bool). cond b (take p (opponent c) s) 0) may in
            let bound = listed.above s inside (both s inside ∙ and_from _ _ member (exposed-is s inside ∙ may)) in
            omega (arith, price-is s, bound, e)
        | inr safe ↦ let e : earned p frozen c s ≡ 0 = ap (λ (b : Bool). cond b (take p (opponent c) s) 0) safe in omega arith
      ];
      found = λ some.
          let had = listed.found some in
          let parts = and_parts (is_in within had.0) (is_in exposed had.0) (sym (both had.0 had.1) ∙ had.2) in
          let may : may_fall frozen c had.0 ≡ true = sym (exposed-is had.0 had.1) ∙ parts.1 in
          let e : earned p frozen c had.0 ≡ take p (opponent c) had.0 = ap (λ (b : Bool). cond b (take p (opponent c) had.0) 0) may in
          (had.0, had.1, parts.0, e ∙ sym (price-is had.0) ∙ had.3);
    }) (greatest-listed (is_in within) (earned p frozen c))
