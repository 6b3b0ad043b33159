-- The least of all ways, square by square in the order in which a side sees them.
use Rattle.std.proofs.Common.{◌≡◌, ◌≢◌, ℕ, ◌+◌, ◌-◌, ◌%◌, ◌<◌, ◌≤◌, inl, inr, Bool, true, false, min, List, length, set, slice_index, refl, ap, sym, subst, ◌∙◌, arith}
use Rattle.std.proofs.lemmas.Bool.{both_ways, cases_eq, cases_lt, cond-true, cond-false, lt-ltb, ltb-true, cases_Bool}
use Rattle.std.proofs.lemmas.List.{get_or-replicate, get_or-set_other, get_or-set_same, length-set}
use Rattle.std.specs.Prelude.{IsTrue, nat_lt, replicate}
use Rattle.board_base.specs.Board.{is_in, rank}
use Rattle.board_base.specs.declared.men.Colour.{Colour}
use Rattle.men_fates.specs.Ways.{fee}
use Rattle.capture_prices.specs.Prices.{PriceList, are_prices, gate, take}
use Rattle.balance_rule.specs.Costs.{never}
use Rattle.balance_rule.specs.LeastWays.{AreLeastTo, IsLeast, IsReach, aside_to, fee_of, gates_on, seen_by, straight_to}
use Rattle.balance_rule.specs.NextWays.{IsReachTo, fee_behind, next_aside}
use Rattle.balance_rule.specs.declared.reaches.Reach.{Reach}
use Rattle.balance_rule.proofs.Reaching.{IsStepAside, aside-next, aside-step, at-home, beside, blocked, fee-least, no-step, not-yet, straight-next}
use Rattle.balance_rule.proofs.Gates.{gate-small}
use Rattle.balance_rule.proofs.Seen.{IsAheadOf, IsNextTo, ahead, right, left, seen-inside, seen-seen}

pub so-far-all : (p : PriceList) (set : List Bool) (c : Colour) (home : ℕ) (r : Reach) (i : ℕ) → 64 ≤ i → IsReachTo p set c home r i → IsReach p set c (seen_by c home) r
so-far-all p set c home r i past far j inside = far.done j inside (omega arith)

-- different numbers, different squares
seen-other : (c : Colour) (i j : ℕ) → i < 64 → j < 64 → i ≢ j → seen_by c i ≢ seen_by c j
seen-other c i j in_ jn other = λ same. other (sym (seen-seen c i in_) ∙ ap (seen_by c) same ∙ seen-seen c j jn)

seen-home : (c : Colour) (home : ℕ) → 8 ≤ home → home < 64 → 1 ≤ rank (seen_by c (seen_by c home))
seen-home c home low inside = let e = seen-seen c home inside in let r : rank (seen_by c (seen_by c home)) ≡ rank home = ap rank e in omega arith

nothing-is : (j : ℕ) → j < 64 → slice_index (replicate 64 never) j ≡ never
nothing-is j inside = get_or-replicate 64 j never 0 inside

pub so-far-start : (p : PriceList) (frozen : List Bool) (c : Colour) (home t : ℕ) (r : Reach) → 8 ≤ home → home < 16 → r.straight ≡ set (replicate 64 never) home t → r.aside ≡ replicate 64 never → t ≡ gate p (seen_by c home) → IsTrue (are_prices p) → IsReachTo p frozen c home r 16
so-far-start p frozen c home t r first last straight aside is known =
    let inside : home < 64 = omega arith in
    let on_board : seen_by c home < 64 = seen-inside c home inside in
    let size : length (replicate 64 never) ≡ 64 = refl in
    record {
      straight_size = ap length straight ∙ length-set (replicate 64 never) home t ∙ size;
      aside_size = ap length aside ∙ size;
      done = λ j jn low.
          let y : slice_index r.aside j ≡ never = ap (λ (l : List ℕ). slice_index l j) aside ∙ nothing-is j jn in
          elim (cases_eq j home) [
            | inl same ↦
                let x : slice_index r.straight j ≡ gate p (seen_by c home) = ap (λ (l : List ℕ). slice_index l j) straight ∙ ap (λ (k : ℕ). slice_index (set (replicate 64 never) home t) k) same ∙ get_or-set_same (replicate 64 never) home t 0 inside ∙ is in
                let here : AreLeastTo p frozen c (seen_by c home) (seen_by c home) (gate p (seen_by c home)) never = at-home c frozen (seen_by c home) on_board p (gate-small p known) in
                subst (λ (k : ℕ). AreLeastTo p frozen c (seen_by c home) (seen_by c k) (slice_index r.straight j) (slice_index r.aside j)) (sym same)
                (subst (λ (n : ℕ). AreLeastTo p frozen c (seen_by c home) (seen_by c home) n (slice_index r.aside j)) (sym x)
                (subst (λ (n : ℕ). AreLeastTo p frozen c (seen_by c home) (seen_by c home) (gate p (seen_by c home)) n) (sym y) here))
            | inr other ↦
                let x : slice_index r.straight j ≡ never = ap (λ (l : List ℕ). slice_index l j) straight ∙ get_or-set_other (replicate 64 never) home j t 0 other ∙ nothing-is j jn in
                let here : AreLeastTo p frozen c (seen_by c home) (seen_by c j) never never = not-yet c frozen (seen_by c home) on_board p j low (seen-home c home first inside) (seen-other c j home jn inside other) in
                subst (λ (n : ℕ). AreLeastTo p frozen c (seen_by c home) (seen_by c j) n (slice_index r.aside j)) (sym x)
                (subst (λ (n : ℕ). AreLeastTo p frozen c (seen_by c home) (seen_by c j) never n) (sym y) here)
          ];
      rest = λ j jn past.
          let other : j ≢ home = omega arith in
          (ap (λ (l : List ℕ). slice_index l j) straight ∙ get_or-set_other (replicate 64 never) home j t 0 other ∙ nothing-is j jn, ap (λ (l : List ℕ). slice_index l j) aside ∙ nothing-is j jn);
    }

-- squares to which no way leads stay as they are
so-far-none : (p : PriceList) (frozen : List Bool) (c : Colour) (home : ℕ) (r : Reach) (i j : ℕ) → i ≤ j → ((k : ℕ) → k < 64 → i ≤ k → k < j → AreLeastTo p frozen c (seen_by c home) (seen_by c k) never never) → IsReachTo p frozen c home r i → IsReachTo p frozen c home r j
so-far-none p frozen c home r i j up none far = record {
  straight_size = far.straight_size;
  aside_size = far.aside_size;
  done = λ k kn below. elim (cases_lt k i) [
    | inl less ↦ far.done k kn less
    | inr past ↦
        let is = far.rest k kn past in
        subst (λ (n : ℕ). AreLeastTo p frozen c (seen_by c home) (seen_by c k) n (slice_index r.aside k)) (sym is.0)
        (subst (λ (n : ℕ). AreLeastTo p frozen c (seen_by c home) (seen_by c k) never n) (sym is.1) (none k kn past below))
  ];
  rest = λ k kn past. far.rest k kn (omega arith);
}

-- so a square of the set
pub so-far-skip : (p : PriceList) (frozen : List Bool) (c : Colour) (home : ℕ) (r : Reach) (i : ℕ) → home < 16 → 16 ≤ i → i < 64 → is_in frozen (seen_by c i) ≡ true → IsReachTo p frozen c home r i → IsReachTo p frozen c home r (i + 1)
so-far-skip p frozen c home r i last low inside member far =
    let hn : home < 64 = omega arith in
    let other : i ≢ home = omega arith in
    so-far-none p frozen c home r i (i + 1) (omega arith)
    (λ k kn from below.
    let same : i ≡ k = omega arith in
    subst (λ (n : ℕ). AreLeastTo p frozen c (seen_by c home) (seen_by c n) never never) same (blocked c frozen (seen_by c home) (seen-inside c home hn) p i inside (seen-other c i home inside hn other) member)) far

-- and squares that are more files than ranks away
pub so-far-beside : (p : PriceList) (frozen : List Bool) (c : Colour) (home : ℕ) (r : Reach) (i j : ℕ) → home < 16 → i ≤ j → ((k : ℕ) → i ≤ k → k < j → IsAheadOf home k → ⊥) → IsReachTo p frozen c home r i → IsReachTo p frozen c home r j
so-far-beside p frozen c home r i j last up aside far =
    let hn : home < 64 = omega arith in
    so-far-none p frozen c home r i j up (λ k kn from below. beside c frozen (seen_by c home) (seen-inside c home hn) p k kn (λ near. aside k from below (subst (λ (n : ℕ). IsAheadOf n k) (seen-seen c home hn) near))) far

-- the least fee by a step aside, as the code tells it
step-from : (p : PriceList) (frozen : List Bool) (c : Colour) (home : ℕ) (r : Reach) (j i price : ℕ) (is_step : Bool) → home < 16 → IsTrue (are_prices p) → (is_step ≡ true → IsNextTo j i) → (IsNextTo j i → is_step ≡ true) → j < 64 → j < i → price ≡ take p c (seen_by c i) → IsReachTo p frozen c home r i → IsStepAside c frozen (seen_by c home) (take p c) j i (min never (fee_behind r is_step j + price))
step-from p frozen c home r j i price is_step last known step steps jn low is far = elim (cases_Bool is_step) [
  | inl is_one ↦
      let hn : home < 64 = omega arith in
      let on_board = seen-inside c home hn in
      let fees = fee-least c frozen (seen_by c home) on_board p (seen_by c j) (slice_index r.straight j) (slice_index r.aside j) (gate-small p known) (far.done j jn low) in
      let made = aside-step c frozen (seen_by c home) on_board (take p c) j i (fee_of (slice_index r.straight j) (slice_index r.aside j)) (step is_one) fees in
      let e : min never (fee_behind r is_step j + price) ≡ min never (fee_of (slice_index r.straight j) (slice_index r.aside j) + take p c (seen_by c i)) = ap (λ (n : ℕ). min never (n + price)) (cond-true is_step _ _ is_one) ∙ ap (λ (n : ℕ). min never (fee_of (slice_index r.straight j) (slice_index r.aside j) + n)) is in
      subst (IsStepAside c frozen (seen_by c home) (take p c) j i) (sym e) made
  | inr is_none ↦
      let hn : home < 64 = omega arith in
      let made = no-step c frozen (seen_by c home) (seen-inside c home hn) (take p c) j i (λ next. both_ways _ is_none (steps next)) in
      let none : fee_behind r is_step j ≡ never = cond-false is_step _ _ is_none in
      let e : min never (fee_behind r is_step j + price) ≡ never = omega (arith, none) in
      subst (IsStepAside c frozen (seen_by c home) (take p c) j i) (sym e) made
]

from-left : (j i : ℕ) → i ≡ j + 9 → nat_lt 0 (i % 8) ≡ true → IsNextTo j i
from-left j i e h = let some : 0 < i % 8 = ltb-true 0 (i % 8) h in right e (omega arith)

left-from : (j i : ℕ) → i ≡ j + 9 → IsNextTo j i → nat_lt 0 (i % 8) ≡ true
left-from j i e (ahead f) = absurd (omega arith)
left-from j i e (right f low) = lt-ltb 0 (i % 8) (omega arith)
left-from j i e (left f high) = absurd (omega arith)

from-right : (j i : ℕ) → i ≡ j + 7 → nat_lt (i % 8) 7 ≡ true → IsNextTo j i
from-right j i e h = let some : i % 8 < 7 = ltb-true (i % 8) 7 h in left e (omega arith)

right-from : (j i : ℕ) → i ≡ j + 7 → IsNextTo j i → nat_lt (i % 8) 7 ≡ true
right-from j i e (ahead f) = absurd (omega arith)
right-from j i e (right f low) = absurd (omega arith)
right-from j i e (left f high) = lt-ltb (i % 8) 7 (omega arith)

least-of-both : (a l m price : ℕ) → min (min a (min never (l + price))) (min never (m + price)) ≡ min a (min never (min l m + price))
least-of-both a l m price = omega arith

ap-straight : (p : PriceList) (frozen : List Bool) (c : Colour) (home i x toll : ℕ) → toll ≡ gate p (seen_by c i) → IsLeast c frozen (seen_by c home) (straight_to (seen_by c home) (seen_by c i)) (gates_on p (seen_by c home)) (min never (x + gate p (seen_by c i))) → IsLeast c frozen (seen_by c home) (straight_to (seen_by c home) (seen_by c i)) (gates_on p (seen_by c home)) (min never (x + toll))
ap-straight p frozen c home i x toll e h = subst (λ (n : ℕ). IsLeast c frozen (seen_by c home) (straight_to (seen_by c home) (seen_by c i)) (gates_on p (seen_by c home)) (min never (x + n))) (sym e) h

-- what is added for a square outside the set is its least
least-here : (p : PriceList) (frozen : List Bool) (c : Colour) (home : ℕ) (r : Reach) (i price toll : ℕ) → home < 16 → 16 ≤ i → i < 64 → is_in frozen (seen_by c i) ≡ false → IsTrue (are_prices p) → price ≡ take p c (seen_by c i) → toll ≡ gate p (seen_by c i) → IsReachTo p frozen c home r i
    → AreLeastTo p frozen c (seen_by c home) (seen_by c i) (min never (slice_index r.straight (i - 8) + toll)) (next_aside r price i)
least-here p frozen c home r i price toll last low inside out known is gate_is far =
    let hn : home < 64 = omega arith in
    let on_board = seen-inside c home hn in
    let different : i ≢ home = omega arith in
    let other = seen-other c i home inside hn different in
    let e8 : i ≡ (i - 8) + 8 = omega arith in
    let e9 : i ≡ (i - 9) + 9 = omega arith in
    let e7 : i ≡ (i - 7) + 7 = omega arith in
    let behind = far.done (i - 8) (omega arith) (omega arith) in
    let l : ℕ = fee_behind r (nat_lt 0 (i % 8)) (i - 9) in
    let m : ℕ = fee_behind r (nat_lt (i % 8) 7) (i - 7) in
    let made = aside-next c frozen (seen_by c home) on_board (take p c) (i - 8) (i - 9) (i - 7) i (slice_index r.aside (i - 8)) _ _ e8 e9 e7 inside other out behind.aside
    (step-from p frozen c home r (i - 9) i price (nat_lt 0 (i % 8)) last known (from-left (i - 9) i e9) (left-from (i - 9) i e9) (omega arith) (omega arith) is far)
    (step-from p frozen c home r (i - 7) i price (nat_lt (i % 8) 7) last known (from-right (i - 7) i e7) (right-from (i - 7) i e7) (omega arith) (omega arith) is far) in
    record {
      straight = ap-straight p frozen c home i (slice_index r.straight (i - 8)) toll gate_is (straight-next c frozen (seen_by c home) on_board p (i - 8) i (slice_index r.straight (i - 8)) e8 inside other out behind.straight);
      aside = subst (IsLeast c frozen (seen_by c home) (aside_to (seen_by c home) (seen_by c i)) (fee (take p c) (seen_by c home))) (least-of-both (slice_index r.aside (i - 8)) l m price) made;
    }

pub so-far-more : (p : PriceList) (frozen : List Bool) (c : Colour) (home : ℕ) (r new : Reach) (i price toll : ℕ) → home < 16 → 16 ≤ i → i < 64 → is_in frozen (seen_by c i) ≡ false → IsTrue (are_prices p) → price ≡ take p c (seen_by c i) → toll ≡ gate p (seen_by c i)
    → new.straight ≡ set r.straight i (min never (slice_index r.straight (i - 8) + toll)) → new.aside ≡ set r.aside i (next_aside r price i) → IsReachTo p frozen c home r i → IsReachTo p frozen c home new (i + 1)
so-far-more p frozen c home r new i price toll last low inside out known is gate_is straight aside far =
    let s_size : length r.straight ≡ 64 = far.straight_size in
    let a_size : length r.aside ≡ 64 = far.aside_size in
    let x : ℕ = min never (slice_index r.straight (i - 8) + toll) in
    let y : ℕ = next_aside r price i in
    record {
      straight_size = ap length straight ∙ length-set r.straight i x ∙ s_size;
      aside_size = ap length aside ∙ length-set r.aside i y ∙ a_size;
      done = λ j jn below. elim (cases_eq j i) [
        | inl same ↦
            let ex : slice_index new.straight j ≡ x = ap (λ (l : List ℕ). slice_index l j) straight ∙ ap (λ (k : ℕ). slice_index (set r.straight i x) k) same ∙ get_or-set_same r.straight i x 0 (omega arith) in
            let ey : slice_index new.aside j ≡ y = ap (λ (l : List ℕ). slice_index l j) aside ∙ ap (λ (k : ℕ). slice_index (set r.aside i y) k) same ∙ get_or-set_same r.aside i y 0 (omega arith) in
            let here = least-here p frozen c home r i price toll last low inside out known is gate_is far in
            subst (λ (k : ℕ). AreLeastTo p frozen c (seen_by c home) (seen_by c k) (slice_index new.straight j) (slice_index new.aside j)) (sym same)
            (subst (λ (n : ℕ). AreLeastTo p frozen c (seen_by c home) (seen_by c i) n (slice_index new.aside j)) (sym ex)
            (subst (λ (n : ℕ). AreLeastTo p frozen c (seen_by c home) (seen_by c i) x n) (sym ey) here))
        | inr other ↦
            let ex : slice_index new.straight j ≡ slice_index r.straight j = ap (λ (l : List ℕ). slice_index l j) straight ∙ get_or-set_other r.straight i j x 0 other in
            let ey : slice_index new.aside j ≡ slice_index r.aside j = ap (λ (l : List ℕ). slice_index l j) aside ∙ get_or-set_other r.aside i j y 0 other in
            subst (λ (n : ℕ). AreLeastTo p frozen c (seen_by c home) (seen_by c j) n (slice_index new.aside j)) (sym ex)
            (subst (λ (n : ℕ). AreLeastTo p frozen c (seen_by c home) (seen_by c j) (slice_index r.straight j) n) (sym ey) (far.done j jn (omega arith)))
      ];
      rest = λ j jn past.
          let other : j ≢ i = omega arith in
          let none = far.rest j jn (omega arith) in
          (ap (λ (l : List ℕ). slice_index l j) straight ∙ get_or-set_other r.straight i j x 0 other ∙ none.0, ap (λ (l : List ℕ). slice_index l j) aside ∙ get_or-set_other r.aside i j y 0 other ∙ none.1);
    }
