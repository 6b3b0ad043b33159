-- Prices by the squares as a side sees them.
use Rattle.std.proofs.Common.{◌≡◌, ℕ, zero, suc, ◌<◌, ◌≤◌, inl, inr, Bool, true, cond, List, [], ◌∷◌, slice_index, ap, ◌∙◌, arith}
use Rattle.std.proofs.lemmas.Bool.{and_parts, cases_Bool, leb-true}
use Rattle.std.specs.Prelude.{IsTrue}
use Rattle.std.specs.List.{list_all}
use Rattle.board_base.specs.Board.{is_in, opponent}
use Rattle.board_base.specs.declared.men.Colour.{Colour}
use Rattle.board_base.specs.declared.men.Colour.TheVariants.{White, Black}
use Rattle.cage_rules.specs.Sets.{squares_that}
use Rattle.cage_rules.proofs.Filling.{is_in-that}
use Rattle.men_fates.specs.Fates.{may_fall}
use Rattle.capture_prices.specs.Prices.{PriceList, are_ascending, are_prices, class_of, gate, is_low, take, takes}
use Rattle.balance_rule.specs.Costs.{earned}
use Rattle.balance_rule.specs.LeastWays.{seen_by}
use Rattle.balance_rule.specs.Tariffs.{IsTariff}
use Rattle.balance_rule.specs.declared.tariffs.Tariff.{Tariff}
use Rattle.balance_rule.proofs.Gates.{gate-small}
use Rattle.balance_rule.proofs.Seen.{seen-inside}

pub low-index : (xs : List ℕ) (k : ℕ) → list_all is_low xs ≡ true → slice_index xs k ≤ 96
low-index [] k h = omega arith
low-index (x ∷ xs) zero h = leb-true x 96 (and_parts (is_low x) (list_all is_low xs) h).0
low-index (x ∷ xs) (suc k) h = low-index xs k (and_parts (is_low x) (list_all is_low xs) h).1

pub take-small : (p : PriceList) (c : Colour) (s : ℕ) → IsTrue (are_prices p) → take p c s ≤ 96
take-small p White s known =
    let a = and_parts _ _ (and_parts _ (are_ascending 0 p.gates) known).0 in
    let b = and_parts _ _ (and_parts _ _ (and_parts _ _ a.0).0).0 in
    low-index p.white (class_of s) b.1
take-small p Black s known =
    let a = and_parts _ _ (and_parts _ (are_ascending 0 p.gates) known).0 in
    low-index p.black (class_of s) (and_parts _ _ a.0).1

pub earned-small : (p : PriceList) (set : List Bool) (c : Colour) (s : ℕ) → IsTrue (are_prices p) → earned p set c s ≤ 96
earned-small p set c s known = elim (cases_Bool (may_fall set c s)) [
  | inl falls ↦ let e : earned p set c s ≡ take p (opponent c) s = ap (λ (b : Bool). cond b (take p (opponent c) s) 0) falls in omega (arith, take-small p (opponent c) s known)
  | inr safe ↦ let e : earned p set c s ≡ 0 = ap (λ (b : Bool). cond b (take p (opponent c) s) 0) safe in omega arith
]

pub tariff-made : (p : PriceList) (set : List Bool) (c : Colour) (exposed : List Bool) (own enemy : List ℕ) (gates : List ℕ) (t : Tariff) → IsTrue (are_prices p) → exposed ≡ squares_that (may_fall set c) → own ≡ takes p c → enemy ≡ takes p (opponent c)
    → ((i : ℕ) → i < 64 → slice_index t.take i ≡ slice_index own (class_of (seen_by c i)))
    → ((i : ℕ) → i < 64 → slice_index t.gate i ≡ gate p (seen_by c i))
    → ((i : ℕ) → i < 64 → slice_index t.earned i ≡ cond (is_in exposed (seen_by c i)) (slice_index enemy (class_of (seen_by c i))) 0) → IsTariff p set c t
tariff-made p set c exposed own enemy gates t known falls own_is enemy_is take gate_ earned_ i inside =
    let here : slice_index t.take i ≡ Rattle.capture_prices.specs.Prices.take p c (seen_by c i) = take i inside ∙ ap (λ (l : List ℕ). slice_index l (class_of (seen_by c i))) own_is in
    let member : is_in exposed (seen_by c i) ≡ may_fall set c (seen_by c i) = ap (λ (l : List Bool). is_in l (seen_by c i)) falls ∙ is_in-that (may_fall set c) (seen_by c i) (seen-inside c i inside) in
    let gained : slice_index t.earned i ≡ earned p set c (seen_by c i) =
    earned_ i inside ∙ ap (λ (b : Bool). cond b (slice_index enemy (class_of (seen_by c i))) 0) member ∙ ap (λ (l : List ℕ). cond (may_fall set c (seen_by c i)) (slice_index l (class_of (seen_by c i))) 0) enemy_is in
    record {
      take_is = here;
      gate_is = gate_ i inside;
      earned_is = gained;
      take_small = omega (arith, here, take-small p c (seen_by c i) known);
      gate_small = omega (arith, gate_ i inside, gate-small p known (seen_by c i));
      earned_small = omega (arith, gained, earned-small p set c (seen_by c i) known);
    }
