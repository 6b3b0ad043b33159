-- The least toll of ways to some squares.
use Rattle.std.proofs.Common.{◌≡◌, ℕ, ◌+◌, ◌<◌, ◌≤◌, inl, inr, Bool, true, false, cond, ◌&&◌, ◌==◌, not, min, List, slice_index, refl, ap, sym, ◌∙◌, arith}
use Rattle.std.proofs.lemmas.Bool.{and_from, and_parts, both_ways, cases_Bool, cases_eq, cases_lt, cond-true, cond-false, eq-eqb, eqb-true, lt-ltb, le-ltb, ltb-true, not_from_false, not-true}
use Rattle.std.specs.Prelude.{nat_lt}
use Rattle.board_base.specs.Board.{is_in, rank}
use Rattle.board_base.specs.Legal.{last_rank}
use Rattle.board_base.specs.declared.men.Colour.{Colour}
use Rattle.men_fates.specs.Ways.{fee, is_straight, toll, way_end}
use Rattle.capture_prices.specs.Prices.{PriceList, gate, take}
use Rattle.balance_rule.specs.Costs.{never}
use Rattle.balance_rule.specs.LeastWays.{AreLeastTo, IsLeast, IsReach, aside_to, ends_on, gates_on, seen_by, straight_to}
use Rattle.balance_rule.specs.declared.reaches.Reach.{Reach}
use Rattle.balance_rule.proofs.Brought.{last-rank, short-of}
use Rattle.balance_rule.proofs.Leasts.{least-either, least-like, least-none}
use Rattle.balance_rule.proofs.Seen.{end-inside, seen-inside, seen-seen}
use Rattle.sketch_account.specs.Coming.{comes_by, comes_to}

module _ (p : PriceList) (set : List Bool) (c : Colour) (h : ℕ) where
  -- straight ways, where they are allowed
  part-straight : (t x : ℕ) (b : Bool) → IsLeast c set h (straight_to h t) (gates_on p h) x → IsLeast c set h (λ way. straight_to h t way && b) (toll (take p c) (gate p) h) (cond b x never)
  part-straight t x true l =
      least-like c set h (straight_to h t) (λ way. straight_to h t way && true) (gates_on p h) (toll (take p c) (gate p) h) x (λ way is passes. (and_parts (straight_to h t way) true passes).0)
      (λ way is passes. (and_from _ _ passes refl, cond-true (is_straight h way) (gates_on p h way) (fee (take p c) h way) (and_parts (is_straight h way) (ends_on h t way) passes).0)) l
  part-straight t x false l = least-none c set h (λ way. straight_to h t way && false) (toll (take p c) (gate p) h) (λ way is passes. both_ways false refl (and_parts (straight_to h t way) false passes).1)

  part-aside : (t y : ℕ) (b : Bool) → IsLeast c set h (aside_to h t) (fee (take p c) h) y → IsLeast c set h (λ way. aside_to h t way && b) (toll (take p c) (gate p) h) (cond b y never)
  part-aside t y true l =
      least-like c set h (aside_to h t) (λ way. aside_to h t way && true) (fee (take p c) h) (toll (take p c) (gate p) h) y (λ way is passes. (and_parts (aside_to h t way) true passes).0)
      (λ way is passes. (and_from _ _ passes refl, cond-false (is_straight h way) (gates_on p h way) (fee (take p c) h way) (not-true _ (and_parts (not (is_straight h way)) (ends_on h t way) passes).0))) l
  part-aside t y false l = least-none c set h (λ way. aside_to h t way && false) (toll (take p c) (gate p) h) (λ way is passes. both_ways false refl (and_parts (aside_to h t way) false passes).1)

  -- the ways to one square
  one-goal : (t x y : ℕ) (a b : Bool) → AreLeastTo p set c h t x y → IsLeast c set h (λ way. ends_on h t way && cond (is_straight h way) a b) (toll (take p c) (gate p) h) (min (cond a x never) (cond b y never))
  one-goal t x y a b l =
      least-either c set h (λ way. straight_to h t way && a) (λ way. aside_to h t way && b) (λ way. ends_on h t way && cond (is_straight h way) a b) (toll (take p c) (gate p) h) (cond a x never) (cond b y never)
      (λ way is passes.
      let parts = and_parts (ends_on h t way) (cond (is_straight h way) a b) passes in
      elim (cases_Bool (is_straight h way)) [
        | inl straight ↦ inl (and_from _ _ (and_from _ _ straight parts.0) (sym (cond-true (is_straight h way) a b straight) ∙ parts.1))
        | inr crooked ↦ inr (and_from _ _ (and_from _ _ (not_from_false _ crooked) parts.0) (sym (cond-false (is_straight h way) a b crooked) ∙ parts.1))
      ])
      (λ way is passes.
      let parts = and_parts (straight_to h t way) a passes in
      let two = and_parts (is_straight h way) (ends_on h t way) parts.0 in
      and_from _ _ two.1 (cond-true (is_straight h way) a b two.0 ∙ parts.1))
      (λ way is passes.
      let parts = and_parts (aside_to h t way) b passes in
      let two = and_parts (not (is_straight h way)) (ends_on h t way) parts.0 in
      and_from _ _ two.1 (cond-false (is_straight h way) a b (not-true _ two.0) ∙ parts.1))
      (part-straight t x a l.straight) (part-aside t y b l.aside)

  module _ (goals : List Bool) (plain other : Bool) (on_board : h < 64) where
    -- the ways to the goals below i
    abbrev pub comes_before : ℕ → List ℕ → Bool
    comes_before i way = comes_to c goals plain other h way && nat_lt (way_end h way) i

    pub goals-none : (i : ℕ) → ((s : ℕ) → s < i → is_in goals s ≡ false) → IsLeast c set h (comes_before i) (toll (take p c) (gate p) h) never
    goals-none i none =
        least-none c set h (comes_before i) (toll (take p c) (gate p) h) (λ way is passes.
        let parts = and_parts (comes_to c goals plain other h way) (nat_lt (way_end h way) i) passes in
        both_ways _ (none (way_end h way) (ltb-true _ _ parts.1)) (and_parts (is_in goals (way_end h way)) (comes_by c plain other h way) parts.0).0)

    -- whether the square with this number is short of the last rank
    last-by : (e : ℕ) → e < 64 → (rank e == last_rank c) ≡ not (nat_lt (seen_by c e) 56)
    last-by e inside = elim (cases_lt (seen_by c e) 56) [
      | inl low ↦
          ap (λ (u : ℕ). rank u == last_rank c) (sym (seen-seen c e inside)) ∙ short-of c (seen_by c e) (seen-inside c e inside) low ∙ sym (ap not (lt-ltb (seen_by c e) 56 low))
      | inr high ↦
          ap (λ (u : ℕ). rank u == last_rank c) (sym (seen-seen c e inside)) ∙ last-rank c (seen_by c e) (seen-inside c e inside) high ∙ sym (ap not (le-ltb (seen_by c e) 56 high))
    ]

    turned : (b : Bool) → cond (not b) other plain ≡ cond b plain other
    turned true = refl
    turned false = refl

    by-end : (e : ℕ) (way : List ℕ) → e < 64 → way_end h way ≡ e → comes_by c plain other h way ≡ cond (is_straight h way) (cond (nat_lt (seen_by c e) 56) plain other) other
    by-end e way inside ends =
        ap (λ (u : ℕ). cond (is_straight h way) (cond (rank u == last_rank c) other plain) other) ends
        ∙ ap (λ (b : Bool). cond (is_straight h way) b other) (ap (λ (b : Bool). cond b other plain) (last-by e inside) ∙ turned (nat_lt (seen_by c e) 56))

    -- one goal more
    pub goals-more : (r : Reach) (e j n m : ℕ) → e < 64 → e < j → is_in goals e ≡ true → ((s : ℕ) → e + 1 ≤ s → s < j → is_in goals s ≡ false) → IsReach p set c h r
        → m ≡ min (cond (cond (nat_lt (seen_by c e) 56) plain other) (slice_index r.straight (seen_by c e)) never) (cond other (slice_index r.aside (seen_by c e)) never)
        → IsLeast c set h (comes_before e) (toll (take p c) (gate p) h) n → IsLeast c set h (comes_before j) (toll (take p c) (gate p) h) (min m n)
    goals-more r e j n m inside ahead member none reach is before =
        let i : ℕ = seen_by c e in
        let number : i < 64 = seen-inside c e inside in
        let back : seen_by c i ≡ e = seen-seen c e inside in
        let a : Bool = cond (nat_lt i 56) plain other in
        let here : IsLeast c set h (λ way. ends_on h (seen_by c i) way && cond (is_straight h way) a other) (toll (take p c) (gate p) h) (min (cond a (slice_index r.straight i) never) (cond other (slice_index r.aside i) never)) =
        one-goal (seen_by c i) (slice_index r.straight i) (slice_index r.aside i) a other (reach i number) in
        ap-least n m (min (cond a (slice_index r.straight i) never) (cond other (slice_index r.aside i) never)) j (sym is)
        (least-either c set h (λ way. ends_on h (seen_by c i) way && cond (is_straight h way) a other) (comes_before e) (comes_before j) (toll (take p c) (gate p) h) _ n
        (λ way is_it passes.
        let parts = and_parts (comes_to c goals plain other h way) (nat_lt (way_end h way) j) passes in
        let two = and_parts (is_in goals (way_end h way)) (comes_by c plain other h way) parts.0 in
        let below : way_end h way < j = ltb-true _ _ parts.1 in
        elim (cases_eq (way_end h way) e) [
          | inl same ↦ inl (and_from _ _ (eq-eqb _ _ (same ∙ sym back)) (sym (by-end e way inside same) ∙ two.1))
          | inr apart ↦ elim (cases_lt (way_end h way) e) [
            | inl low ↦ inr (and_from _ _ parts.0 (lt-ltb _ _ low))
            | inr high ↦ absurd (both_ways _ (none (way_end h way) (omega arith) below) two.0)
          ]
        ])
        (λ way is_it passes.
        let parts = and_parts (ends_on h (seen_by c i) way) (cond (is_straight h way) a other) passes in
        let same : way_end h way ≡ e = eqb-true _ _ parts.0 ∙ back in
        and_from _ _ (and_from _ _ (ap (is_in goals) same ∙ member) (by-end e way inside same ∙ parts.1)) (lt-ltb _ _ (omega arith)))
        (λ way is_it passes.
        let parts = and_parts (comes_to c goals plain other h way) (nat_lt (way_end h way) e) passes in
        let low : way_end h way < e = ltb-true _ _ parts.1 in
        and_from _ _ parts.0 (lt-ltb _ _ (omega arith))) here before)
      where
        ap-least : (n m k j : ℕ) → k ≡ m → IsLeast c set h (comes_before j) (toll (take p c) (gate p) h) (min k n) → IsLeast c set h (comes_before j) (toll (take p c) (gate p) h) (min m n)
        ap-least n m k j e l = rw (← e) l

    pub goals-all : (i n : ℕ) → 64 ≤ i → IsLeast c set h (comes_before i) (toll (take p c) (gate p) h) n → IsLeast c set h (comes_to c goals plain other h) (toll (take p c) (gate p) h) n
    goals-all i n past before =
        least-like c set h (comes_before i) (comes_to c goals plain other h) (toll (take p c) (gate p) h) (toll (take p c) (gate p) h) n
        (λ way is passes. let inside : way_end h way < 64 = end-inside c set h way on_board is in and_from _ _ passes (lt-ltb _ _ (omega arith)))
        (λ way is passes. ((and_parts (comes_to c goals plain other h way) (nat_lt (way_end h way) i) passes).0, refl)) before
