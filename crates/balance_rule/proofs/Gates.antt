-- The gates of prices, from the last to the first.
use Rattle.std.proofs.Common.{◌≡◌, ℕ, zero, suc, ◌+◌, ◌-◌, ◌<◌, ◌≤◌, ◌==◌, inl, inr, true, cond, List, [], ◌∷◌, length, drop, get_or, set, slice_index, refl, ap, sym, ◌∙◌, arith}
use Rattle.std.proofs.lemmas.Bool.{and_parts, cases_eq, cond-true, cond-false, eq-eqb, leb-true, ltb-true, ne_eqb}
use Rattle.std.proofs.lemmas.List.{drop_all, get_or-replicate, get_or-set_other, get_or-set_same}
use Rattle.std.specs.Prelude.{IsTrue, nat_lt, replicate}
use Rattle.board_base.specs.declared.men.Colour.{Colour}
use Rattle.capture_prices.specs.declared.prices.Gate.{Gate}
use Rattle.capture_prices.specs.Prices.{PriceList, are_ascending, are_prices, gate, is_low, toll_at}
use Rattle.balance_rule.specs.LeastWays.{seen_by}
use Rattle.balance_rule.proofs.Seen.{seen-inside, seen-seen}

-- what holds of each gate
ascending-parts : (least : ℕ) (g : Gate) (gates : List Gate) → are_ascending least (g ∷ gates) ≡ true → (g.square < 64) × (g.toll ≤ 96) × (are_ascending (g.square + 1) gates ≡ true)
ascending-parts least g gates h =
    let a = and_parts _ (are_ascending (g.square + 1) gates) h in
    let b = and_parts _ (is_low g.toll) a.0 in
    let d = and_parts _ _ b.0 in
    let e = and_parts _ (nat_lt g.square 64) d.0 in
    (ltb-true g.square 64 e.1, leb-true g.toll 96 b.1, a.1)

pub gate-inside : (least : ℕ) (gates : List Gate) (k : ℕ) (d : Gate) → are_ascending least gates ≡ true → k < length gates → (get_or gates k d).square < 64
gate-inside least [] k d h inside = absurd (omega arith)
gate-inside least (g ∷ gates) zero d h inside = (ascending-parts least g gates h).0
gate-inside least (g ∷ gates) (suc k) d h inside = gate-inside (g.square + 1) gates k d (ascending-parts least g gates h).2 (omega arith)

pub gate-low : (least : ℕ) (gates : List Gate) (k : ℕ) (d : Gate) → are_ascending least gates ≡ true → k < length gates → (get_or gates k d).toll ≤ 96
gate-low least [] k d h inside = absurd (omega arith)
gate-low least (g ∷ gates) zero d h inside = (ascending-parts least g gates h).1
gate-low least (g ∷ gates) (suc k) d h inside = gate-low (g.square + 1) gates k d (ascending-parts least g gates h).2 (omega arith)

-- what is known of the gates of prices
pub are-gates : (p : PriceList) → IsTrue (are_prices p) → are_ascending 0 p.gates ≡ true
are-gates p known = (and_parts _ (are_ascending 0 p.gates) known).1

-- a gate is no more than 96
tolls-small : (least : ℕ) (gates : List Gate) (s : ℕ) → are_ascending least gates ≡ true → toll_at gates s ≤ 96
tolls-small least [] s h = omega arith
tolls-small least (g ∷ gates) s h =
    let parts = ascending-parts least g gates h in
    let low : g.toll ≤ 96 = parts.1 in
    let rest : toll_at gates s ≤ 96 = tolls-small (g.square + 1) gates s parts.2 in
    elim (cases_eq g.square s) [
      | inl same ↦ let e : toll_at (g ∷ gates) s ≡ g.toll = cond-true _ _ _ (eq-eqb _ _ same) in omega arith
      | inr other ↦ let e : toll_at (g ∷ gates) s ≡ toll_at gates s = cond-false _ _ _ (ne_eqb _ _ other) in omega arith
    ]

pub gate-small : (p : PriceList) → IsTrue (are_prices p) → (s : ℕ) → gate p s ≤ 96
gate-small p known s = tolls-small 0 p.gates s (and_parts _ (are_ascending 0 p.gates) known).1

-- one gate more, before the others
toll-drop : (gates : List Gate) (k s : ℕ) (d : Gate) → k < length gates → toll_at (drop k gates) s ≡ cond ((get_or gates k d).square == s) (get_or gates k d).toll (toll_at (drop (suc k) gates) s)
toll-drop [] k s d inside = absurd (omega arith)
toll-drop (g ∷ gates) zero s d inside = refl
toll-drop (g ∷ gates) (suc k) s d inside = toll-drop gates k s d (omega arith)

pub gates-start : (side : Colour) (gates : List Gate) (n i : ℕ) → length gates ≤ n → i < 64 → slice_index (replicate 64 0) i ≡ toll_at (drop n gates) (seen_by side i)
gates-start side gates n i past inside = get_or-replicate 64 i 0 0 inside ∙ sym (ap (λ (l : List Gate). toll_at l (seen_by side i)) (drop_all n gates past))

pub gates-more : (side : Colour) (gates : List Gate) (seen new : List ℕ) (n k number : ℕ) (d : Gate) → n ≡ length gates → k < n → length seen ≡ 64 → (get_or gates ((n - 1) - k) d).square < 64 → number ≡ seen_by side (get_or gates ((n - 1) - k) d).square → new ≡ set seen number (get_or gates ((n - 1) - k) d).toll
    → ((i : ℕ) → i < 64 → slice_index seen i ≡ toll_at (drop (n - k) gates) (seen_by side i)) → (i : ℕ) → i < 64 → slice_index new i ≡ toll_at (drop (n - (k + 1)) gates) (seen_by side i)
gates-more side gates seen new n k number d size low full square is e before i inside =
    let g : Gate = get_or gates ((n - 1) - k) d in
    let m : ℕ = (n - 1) - k in
    let here : (n - (k + 1)) ≡ m = omega arith in
    let next : (n - k) ≡ suc m = omega arith in
    let on : m < length gates = omega arith in
    let number_inside : number < 64 = omega (arith, is, seen-inside side g.square square) in
    let back : seen_by side number ≡ g.square = ap (seen_by side) is ∙ seen-seen side g.square square in
    let told : toll_at (drop (n - (k + 1)) gates) (seen_by side i) ≡ cond (g.square == seen_by side i) g.toll (toll_at (drop (suc m) gates) (seen_by side i)) = ap (λ (l : ℕ). toll_at (drop l gates) (seen_by side i)) here ∙ toll-drop gates m (seen_by side i) d on in
    ap (λ (l : List ℕ). slice_index l i) e
    ∙ elim (cases_eq i number) [
      | inl same ↦
          ap (slice_index (set seen number g.toll)) same ∙ get_or-set_same seen number g.toll 0 (omega arith)
          ∙ sym (told ∙ cond-true _ _ _ (eq-eqb _ _ (sym back ∙ ap (seen_by side) (sym same))))
      | inr other ↦
          get_or-set_other seen number i g.toll 0 other ∙ before i inside ∙ ap (λ (l : ℕ). toll_at (drop l gates) (seen_by side i)) next
          ∙ sym (told ∙ cond-false _ _ _ (ne_eqb _ _ (λ meets. other (sym (seen-seen side i inside) ∙ ap (seen_by side) (sym meets) ∙ sym is))))
    ]
