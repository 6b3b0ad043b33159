-- The least of the ways to a square, from those to the squares before it.
use Rattle.std.proofs.Common.{◌≡◌, ◌≢◌, ℕ, ◌+◌, ◌*◌, ◌<◌, ◌≤◌, ◌⊎◌, inl, inr, Bool, true, false, cond, ◌&&◌, ◌==◌, not, min, List, [], ◌∷◌, ◌++◌, length, refl, ap, sym, subst, ◌∙◌, arith}
use Rattle.std.proofs.lemmas.Bool.{and_from, and_parts, both_ways, cases_Bool, cases_lt, cond-true, cond-false, eqb-true, eq-eqb, false_from_ne_true, le-ltb, lt-ltb, not-true, not_from_false}
use Rattle.std.proofs.lemmas.List.Sums.{sum_by-cons}
use Rattle.std.specs.Prelude.{nat_lt}
use Rattle.std.proofs.Math.Bool.{and-true, and-false}
use Rattle.board_base.specs.Board.{file, is_in, rank}
use Rattle.board_base.specs.declared.men.Colour.{Colour}
use Rattle.general_lemmas.proofs.Lists.{by_last}
use Rattle.men_fates.specs.Ways.{fee, is_pawn_step, is_straight, is_way, toll, way_end}
use Rattle.capture_prices.specs.Prices.{PriceList, gate, take}
use Rattle.balance_rule.specs.Costs.{never}
use Rattle.balance_rule.specs.LeastWays.{AreLeastTo, IsLeast, aside_to, ends_on, fee_of, gates_on, seen_by, straight_to, toll_of}
use Rattle.balance_rule.proofs.Leasts.{least-either, least-like, least-none}
use Rattle.balance_rule.proofs.Listed.{short-way}
use Rattle.balance_rule.proofs.Longer.{end-longer, fee-longer, fee-straight, gates-longer, gates-small, straight-longer, way-longer}
use Rattle.balance_rule.proofs.Seen.{IsAheadOf, IsNextTo, ahead, right, left, end-inside, next-step, other-file, next-rank, same-file, seen-inside, seen-seen, step-next, step-out, way-ahead}

-- the last step of a way to the square with number i: what was before, and from which square
pub record Came (c : Colour) (set : List Bool) (h i : ℕ) (way : List ℕ) : Type 0 where
  pub front : List ℕ
  pub number : ℕ
  pub inside : number < 64
  pub way_is : way ≡ front ++ seen_by c i ∷ []
  pub front_is : is_way c set h front ≡ true
  pub ends : way_end h front ≡ seen_by c number
  pub next : IsNextTo number i

-- n is the least fee of the ways from h whose last step is aside, from the square with number j
pub record IsStepAside (c : Colour) (set : List Bool) (h : ℕ) (price : ℕ → ℕ) (j i n : ℕ) : Type 0 where
  pub most : n ≤ never
  pub below : (front : List ℕ) → is_way c set h front ≡ true → way_end h front ≡ seen_by c j → IsNextTo j i → n ≤ fee price h front + price (seen_by c i)
  pub found : n < never → (front : List ℕ) × (is_way c set h front ≡ true) × (way_end h front ≡ seen_by c j) × IsNextTo j i × (fee price h front + price (seen_by c i) ≡ n)

module _ (c : Colour) (set : List Bool) (h : ℕ) (inside : h < 64) where
  came-last : (i : ℕ) (way front : List ℕ) (t : ℕ) → i < 64 → way ≡ front ++ t ∷ [] → is_way c set h way ≡ true → ends_on h (seen_by c i) way ≡ true → Came c set h i way
  came-last i way front t on_board e is ends =
      let last : t ≡ seen_by c i = sym (end-longer h front t) ∙ ap (way_end h) (sym e) ∙ eqb-true _ _ ends in
      let parts = and_parts (is_way c set h front) (is_pawn_step c set (way_end h front) t) (sym (way-longer c set h front t) ∙ ap (is_way c set h) (sym e) ∙ is) in
      let before : way_end h front < 64 = end-inside c set h front inside parts.0 in
      let number : ℕ = seen_by c (way_end h front) in
      let again : seen_by c number ≡ way_end h front = seen-seen c (way_end h front) before in
      let step : is_pawn_step c set (seen_by c number) (seen_by c i) ≡ true = ap (λ (u : ℕ). is_pawn_step c set u (seen_by c i)) again ∙ ap (is_pawn_step c set (way_end h front)) (sym last) ∙ parts.1 in
      record {
        front = front;
        number = number;
        inside = seen-inside c (way_end h front) before;
        way_is = e ∙ ap (λ (u : ℕ). front ++ u ∷ []) last;
        front_is = parts.0;
        ends = sym again;
        next = (step-next c set number i (seen-inside c (way_end h front) before) on_board step).0;
      }

  pub came : (i : ℕ) (way : List ℕ) → i < 64 → seen_by c i ≢ h → is_way c set h way ≡ true → ends_on h (seen_by c i) way ≡ true → Came c set h i way
  came i way on_board other is ends = elim (by_last way) [
    | inl none ↦ absurd (other (sym (ap (way_end h) (sym none) ∙ eqb-true _ _ ends)))
    | inr (front, t, e) ↦ came-last i way front t on_board e is ends
  ]

  -- a way that goes on
  pub goes-on : (j i : ℕ) (front : List ℕ) → j < 64 → i < 64 → is_way c set h front ≡ true → way_end h front ≡ seen_by c j → IsNextTo j i → is_in set (seen_by c i) ≡ false → is_way c set h (front ++ seen_by c i ∷ []) ≡ true
  goes-on j i front jn in_ is ends next out =
      way-longer c set h front (seen_by c i) ∙ and_from _ _ is (ap (λ (u : ℕ). is_pawn_step c set u (seen_by c i)) ends ∙ next-step c set j i jn in_ next out)

  -- what a step adds
  straight-on : (j i : ℕ) (front : List ℕ) → way_end h front ≡ seen_by c j → is_straight h (front ++ seen_by c i ∷ []) ≡ (is_straight h front && (file (seen_by c j) == file (seen_by c i)))
  straight-on j i front ends = straight-longer h front (seen_by c i) ∙ ap (λ (u : ℕ). is_straight h front && (file u == file (seen_by c i))) ends

  fee-on : (price : ℕ → ℕ) (j i : ℕ) (front : List ℕ) → way_end h front ≡ seen_by c j → fee price h (front ++ seen_by c i ∷ []) ≡ fee price h front + cond (file (seen_by c j) == file (seen_by c i)) 0 (price (seen_by c i))
  fee-on price j i front ends = fee-longer price h front (seen_by c i) ∙ ap (λ (u : ℕ). fee price h front + cond (file u == file (seen_by c i)) 0 (price (seen_by c i))) ends

  ends-longer : (i : ℕ) (front : List ℕ) → ends_on h (seen_by c i) (front ++ seen_by c i ∷ []) ≡ true
  ends-longer i front = eq-eqb _ _ (end-longer h front (seen_by c i))

  -- only the step ahead keeps the file
  keeps-file : (j i : ℕ) → j < 64 → i < 64 → IsNextTo j i → (file (seen_by c j) == file (seen_by c i)) ≡ true → i ≡ j + 8
  keeps-file j i jn in_ (ahead e) same = e
  keeps-file j i jn in_ (right e low) same = absurd (both_ways _ (other-file c j i jn in_ (inl e) (right e low)) same)
  keeps-file j i jn in_ (left e high) same = absurd (both_ways _ (other-file c j i jn in_ (inr e) (left e high)) same)

  pub straight-next : (p : PriceList) (j i x : ℕ) → i ≡ j + 8 → i < 64 → seen_by c i ≢ h → is_in set (seen_by c i) ≡ false → IsLeast c set h (straight_to h (seen_by c j)) (gates_on p h) x → IsLeast c set h (straight_to h (seen_by c i)) (gates_on p h) (min never (x + gate p (seen_by c i)))
  straight-next p j i x e on_board other out before =
      let jn : j < 64 = omega arith in
      record {
        most = omega arith;
        below = λ way is passes.
            let parts = and_parts (is_straight h way) (ends_on h (seen_by c i) way) passes in
            let last = came i way on_board other is parts.1 in
            let both = and_parts (is_straight h last.front) (file (seen_by c last.number) == file (seen_by c i)) (sym (straight-on last.number i last.front last.ends) ∙ ap (is_straight h) (sym last.way_is) ∙ parts.0) in
            let ahead_ : i ≡ last.number + 8 = keeps-file last.number i last.inside on_board last.next both.1 in
            let same : last.number ≡ j = omega arith in
            let ends : ends_on h (seen_by c j) last.front ≡ true = eq-eqb _ _ (last.ends ∙ ap (seen_by c) same) in
            let bound : x ≤ gates_on p h last.front = before.below last.front last.front_is (and_from _ _ both.0 ends) in
            let more : gates_on p h way ≡ gates_on p h last.front + gate p (seen_by c i) = ap (gates_on p h) last.way_is ∙ gates-longer (gate p) h last.front (seen_by c i) in
            omega arith;
        found = λ low.
            let some = before.found (let l : x < never = omega arith in l) in
            let parts = and_parts (is_straight h some.0) (ends_on h (seen_by c j) some.0) some.2 in
            let ends : way_end h some.0 ≡ seen_by c j = eqb-true _ _ parts.1 in
            let more : gates_on p h (some.0 ++ seen_by c i ∷ []) ≡ gates_on p h some.0 + gate p (seen_by c i) = gates-longer (gate p) h some.0 (seen_by c i) in
            let had : gates_on p h some.0 ≡ x = some.3 in (
              some.0 ++ seen_by c i ∷ [],
              goes-on j i some.0 jn on_board some.1 ends (ahead e) out,
              and_from _ _ (straight-on j i some.0 ends ∙ and_from _ _ parts.0 (same-file c j i jn on_board e)) (ends-longer i some.0),
              omega arith,
            );
      }

  pub aside-step : (price : ℕ → ℕ) (j i x : ℕ) → IsNextTo j i → IsLeast c set h (ends_on h (seen_by c j)) (fee price h) x → IsStepAside c set h price j i (min never (x + price (seen_by c i)))
  aside-step price j i x next before = record {
    most = omega arith;
    below = λ front is ends _. let bound : x ≤ fee price h front = before.below front is (eq-eqb _ _ ends) in omega arith;
    found = λ low.
        let some = before.found (let l : x < never = omega arith in l) in
        let had : fee price h some.0 ≡ x = some.3 in
        (some.0, some.1, eqb-true _ _ some.2, next, omega arith);
  }

  pub no-step : (price : ℕ → ℕ) (j i : ℕ) → (IsNextTo j i → ⊥) → IsStepAside c set h price j i never
  no-step price j i none = record {
    most = omega arith;
    below = λ front is ends next. absurd (none next);
    found = λ low. absurd (omega arith);
  }

  -- a way whose last step is aside
  aside-on : (price : ℕ → ℕ) (j i : ℕ) (front : List ℕ) → j < 64 → i < 64 → way_end h front ≡ seen_by c j → (i ≡ j + 9) ⊎ (i ≡ j + 7) → IsNextTo j i → (is_straight h (front ++ seen_by c i ∷ []) ≡ false) × (fee price h (front ++ seen_by c i ∷ []) ≡ fee price h front + price (seen_by c i))
  aside-on price j i front jn in_ ends which next =
      let other = other-file c j i jn in_ which next in (
        straight-on j i front ends ∙ ap (λ (b : Bool). is_straight h front && b) other ∙ and-false (is_straight h front),
        fee-on price j i front ends ∙ ap (λ (b : Bool). fee price h front + cond b 0 (price (seen_by c i))) other,
      )

  -- a way whose last step is ahead
  ahead-on : (price : ℕ → ℕ) (j i : ℕ) (front : List ℕ) → j < 64 → i < 64 → way_end h front ≡ seen_by c j → i ≡ j + 8 → (is_straight h (front ++ seen_by c i ∷ []) ≡ is_straight h front) × (fee price h (front ++ seen_by c i ∷ []) ≡ fee price h front)
  ahead-on price j i front jn in_ ends e =
      let same = same-file c j i jn in_ e in (
        straight-on j i front ends ∙ ap (λ (b : Bool). is_straight h front && b) same ∙ and-true (is_straight h front),
        fee-on price j i front ends ∙ ap (λ (b : Bool). fee price h front + cond b 0 (price (seen_by c i))) same ∙ (let z : fee price h front + 0 ≡ fee price h front = omega arith in z),
      )

  aside-below : (price : ℕ → ℕ) (j8 j9 j7 i a l r : ℕ) (way : List ℕ) → i ≡ j8 + 8 → i ≡ j9 + 9 → i ≡ j7 + 7 → i < 64 → seen_by c i ≢ h → IsLeast c set h (aside_to h (seen_by c j8)) (fee price h) a → IsStepAside c set h price j9 i l → IsStepAside c set h price j7 i r → is_way c set h way ≡ true → aside_to h (seen_by c i) way ≡ true → min (min a l) r ≤ fee price h way
  aside-below price j8 j9 j7 i a l r way e8 e9 e7 on_board other one two three is passes =
      let parts = and_parts (not (is_straight h way)) (ends_on h (seen_by c i) way) passes in
      let last = came i way on_board other is parts.1 in
      let whole : fee price h way ≡ fee price h (last.front ++ seen_by c i ∷ []) = ap (fee price h) last.way_is in
      let crooked : is_straight h (last.front ++ seen_by c i ∷ []) ≡ false = ap (is_straight h) (sym last.way_is) ∙ not-true _ parts.0 in
      elim last.next [
        | ahead e ↦
            let same : last.number ≡ j8 = omega arith in
            let on = ahead-on price last.number i last.front last.inside on_board last.ends e in
            let ends : ends_on h (seen_by c j8) last.front ≡ true = eq-eqb _ _ (last.ends ∙ ap (seen_by c) same) in
            let bound : a ≤ fee price h last.front = one.below last.front last.front_is (and_from _ _ (not_from_false _ (sym on.0 ∙ crooked)) ends) in
            let more : fee price h (last.front ++ seen_by c i ∷ []) ≡ fee price h last.front = on.1 in
            omega arith
        | right e low ↦
            let same : last.number ≡ j9 = omega arith in
            let on = aside-on price last.number i last.front last.inside on_board last.ends (inl e) last.next in
            let bound : l ≤ fee price h last.front + price (seen_by c i) = two.below last.front last.front_is (last.ends ∙ ap (seen_by c) same) (subst (λ (n : ℕ). IsNextTo n i) same last.next) in
            let more : fee price h (last.front ++ seen_by c i ∷ []) ≡ fee price h last.front + price (seen_by c i) = on.1 in
            omega arith
        | left e high ↦
            let same : last.number ≡ j7 = omega arith in
            let on = aside-on price last.number i last.front last.inside on_board last.ends (inr e) last.next in
            let bound : r ≤ fee price h last.front + price (seen_by c i) = three.below last.front last.front_is (last.ends ∙ ap (seen_by c) same) (subst (λ (n : ℕ). IsNextTo n i) same last.next) in
            let more : fee price h (last.front ++ seen_by c i ∷ []) ≡ fee price h last.front + price (seen_by c i) = on.1 in
            omega arith
      ]

  -- the way that was found before, and one step more
  aside-found : (price : ℕ → ℕ) (j i n : ℕ) → j < 64 → i < 64 → (i ≡ j + 9) ⊎ (i ≡ j + 7) → is_in set (seen_by c i) ≡ false → IsStepAside c set h price j i n → n < never → (way : List ℕ) × (is_way c set h way ≡ true) × (aside_to h (seen_by c i) way ≡ true) × (fee price h way ≡ n)
  aside-found price j i n jn in_ which out step low =
      let some = step.found low in
      let on = aside-on price j i some.0 jn in_ some.2 which some.3 in
      (some.0 ++ seen_by c i ∷ [], goes-on j i some.0 jn in_ some.1 some.2 some.3 out, and_from _ _ (not_from_false _ on.0) (ends-longer i some.0), on.1 ∙ some.4)

  ahead-found : (price : ℕ → ℕ) (j i n : ℕ) → j < 64 → i < 64 → i ≡ j + 8 → is_in set (seen_by c i) ≡ false → IsLeast c set h (aside_to h (seen_by c j)) (fee price h) n → n < never → (way : List ℕ) × (is_way c set h way ≡ true) × (aside_to h (seen_by c i) way ≡ true) × (fee price h way ≡ n)
  ahead-found price j i n jn in_ e out before low =
      let some = before.found low in
      let parts = and_parts (not (is_straight h some.0)) (ends_on h (seen_by c j) some.0) some.2 in
      let ends : way_end h some.0 ≡ seen_by c j = eqb-true _ _ parts.1 in
      let on = ahead-on price j i some.0 jn in_ ends e in
      (some.0 ++ seen_by c i ∷ [], goes-on j i some.0 jn in_ some.1 ends (ahead e) out, and_from _ _ (not_from_false _ (on.0 ∙ not-true _ parts.0)) (ends-longer i some.0), on.1 ∙ some.3)

  pub aside-next : (price : ℕ → ℕ) (j8 j9 j7 i a l r : ℕ) → i ≡ j8 + 8 → i ≡ j9 + 9 → i ≡ j7 + 7 → i < 64 → seen_by c i ≢ h → is_in set (seen_by c i) ≡ false → IsLeast c set h (aside_to h (seen_by c j8)) (fee price h) a → IsStepAside c set h price j9 i l → IsStepAside c set h price j7 i r → IsLeast c set h (aside_to h (seen_by c i)) (fee price h) (min (min a l) r)
  aside-next price j8 j9 j7 i a l r e8 e9 e7 on_board other out one two three = record {
    most = omega (arith, one.most);
    below = λ way is passes. aside-below price j8 j9 j7 i a l r way e8 e9 e7 on_board other one two three is passes;
    found = λ low.
        let t8 : j8 < 64 = omega arith in
        let t9 : j9 < 64 = omega arith in
        let t7 : j7 < 64 = omega arith in
        elim (cases_lt r (min a l)) [
          | inl less ↦
              let e : min (min a l) r ≡ r = omega arith in
              subst (λ (n : ℕ). (way : List ℕ) × (is_way c set h way ≡ true) × (aside_to h (seen_by c i) way ≡ true) × (fee price h way ≡ n)) (sym e) (aside-found price j7 i r t7 on_board (inr e7) out three (omega arith))
          | inr no_less ↦ elim (cases_lt a l) [
            | inl less ↦
                let e : min (min a l) r ≡ a = omega arith in
                subst (λ (n : ℕ). (way : List ℕ) × (is_way c set h way ≡ true) × (aside_to h (seen_by c i) way ≡ true) × (fee price h way ≡ n)) (sym e) (ahead-found price j8 i a t8 on_board e8 out one (omega arith))
            | inr more ↦
                let e : min (min a l) r ≡ l = omega arith in
                subst (λ (n : ℕ). (way : List ℕ) × (is_way c set h way ≡ true) × (aside_to h (seen_by c i) way ≡ true) × (fee price h way ≡ n)) (sym e) (aside-found price j9 i l t9 on_board (inl e9) out two (omega arith))
          ]
        ];
  }

  -- no way leads to a square
  pub no-way : (p : PriceList) (t : ℕ) → ((way : List ℕ) → is_way c set h way ≡ true → ends_on h t way ≡ true → ⊥) → AreLeastTo p set c h t never never
  no-way p t none = record {
    straight = least-none c set h (straight_to h t) (gates_on p h) (λ way is passes. none way is (and_parts (is_straight h way) (ends_on h t way) passes).1);
    aside = least-none c set h (aside_to h t) (fee (take p c) h) (λ way is passes. none way is (and_parts (not (is_straight h way)) (ends_on h t way) passes).1);
  }

  -- none leads onto the set, but the empty one
  pub blocked : (p : PriceList) (i : ℕ) → i < 64 → seen_by c i ≢ h → is_in set (seen_by c i) ≡ true → AreLeastTo p set c h (seen_by c i) never never
  blocked p i on_board other member =
      no-way p (seen_by c i) (λ way is ends.
      let last = came i way on_board other is ends in
      let parts = and_parts (is_way c set h last.front) (is_pawn_step c set (way_end h last.front) (seen_by c i)) (sym (way-longer c set h last.front (seen_by c i)) ∙ ap (is_way c set h) (sym last.way_is) ∙ is) in
      both_ways _ (step-out c set (way_end h last.front) (seen_by c i) parts.1) member)

  -- none leads to a square that is more files than ranks away
  pub beside : (p : PriceList) (i : ℕ) → i < 64 → (IsAheadOf (seen_by c h) i → ⊥) → AreLeastTo p set c h (seen_by c i) never never
  beside p i on_board aside =
      no-way p (seen_by c i) (λ way is ends.
      let there : seen_by c (way_end h way) ≡ i = ap (seen_by c) (eqb-true _ _ ends) ∙ seen-seen c i on_board in
      aside (subst (IsAheadOf (seen_by c h)) there (way-ahead c set h way inside is)))

  -- the least fee and the least toll of all ways to a square
  pub fee-least : (p : PriceList) (t x y : ℕ) → ((s : ℕ) → gate p s ≤ 96) → AreLeastTo p set c h t x y → IsLeast c set h (ends_on h t) (fee (take p c) h) (fee_of x y)
  fee-least p t x y small least = elim (cases_lt x never) [
    | inl less ↦
        let some = least.straight.found less in
        let parts = and_parts (is_straight h some.0) (ends_on h t some.0) some.2 in
        let none : fee (take p c) h some.0 ≡ 0 = fee-straight (take p c) h some.0 parts.0 in
        let zero_is : fee_of x y ≡ 0 = cond-true (nat_lt x never) 0 y (lt-ltb x never less) in
        record {
          most = omega arith;
          below = λ way is ends. omega arith;
          found = λ low. (some.0, some.1, parts.1, none ∙ sym zero_is);
        }
    | inr past ↦
        let is : fee_of x y ≡ y = cond-false (nat_lt x never) 0 y (le-ltb x never past) in
        subst (IsLeast c set h (ends_on h t) (fee (take p c) h)) (sym is)
        (least-like c set h (aside_to h t) (ends_on h t) (fee (take p c) h) (fee (take p c) h) y
        (λ way is ends. and_from _ _ (not_from_false _ (false_from_ne_true _ (λ straight.
        let bound : x ≤ gates_on p h way = least.straight.below way is (and_from _ _ straight ends) in
        let short : length way < 8 = short-way c set h way inside is in
        let all : gates_on p h way ≤ 96 * length (h ∷ way) = gates-small (gate p) small (h ∷ way) in
        omega arith))) ends)
        (λ way is passes. ((and_parts (not (is_straight h way)) (ends_on h t way) passes).1, refl)) least.aside)
  ]

  pub toll-least : (p : PriceList) (t x y : ℕ) → AreLeastTo p set c h t x y → IsLeast c set h (ends_on h t) (toll (take p c) (gate p) h) (toll_of x y)
  toll-least p t x y least =
      least-either c set h (straight_to h t) (aside_to h t) (ends_on h t) (toll (take p c) (gate p) h) x y
      (λ way is ends. elim (cases_Bool (is_straight h way)) [
        | inl straight ↦ inl (and_from _ _ straight ends)
        | inr crooked ↦ inr (and_from _ _ (not_from_false _ crooked) ends)
      ])
      (λ way is passes. (and_parts (is_straight h way) (ends_on h t way) passes).1)
      (λ way is passes. (and_parts (not (is_straight h way)) (ends_on h t way) passes).1)
      (least-like c set h (straight_to h t) (straight_to h t) (gates_on p h) (toll (take p c) (gate p) h) x (λ way is passes. passes)
      (λ way is passes. (passes, cond-true (is_straight h way) (gates_on p h way) (fee (take p c) h way) (and_parts (is_straight h way) (ends_on h t way) passes).0)) least.straight)
      (least-like c set h (aside_to h t) (aside_to h t) (fee (take p c) h) (toll (take p c) (gate p) h) y (λ way is passes. passes)
      (λ way is passes. (passes, cond-false (is_straight h way) (gates_on p h way) (fee (take p c) h way) (not-true _ (and_parts (not (is_straight h way)) (ends_on h t way) passes).0))) least.aside)

  -- no way leads to a lesser rank, and no step stays on one
  pub end-ahead : (j : ℕ) (way : List ℕ) → j < 64 → is_way c set h way ≡ true → ends_on h (seen_by c j) way ≡ true → (way ≡ []) ⊎ (rank (seen_by c h) < rank j)
  end-ahead j way on_board is ends = elim (by_last way) [
    | inl none ↦ inl none
    | inr (front, t, e) ↦
        let last = came-last j way front t on_board e is ends in
        let up : rank (seen_by c h) ≤ rank (seen_by c (way_end h last.front)) = (way-ahead c set h last.front inside last.front_is).up in
        let same : seen_by c (way_end h last.front) ≡ last.number = ap (seen_by c) last.ends ∙ seen-seen c last.number last.inside in
        let next : rank j ≡ rank last.number + 1 = next-rank last.number j last.next in
        inr (let r : rank (seen_by c (way_end h last.front)) ≡ rank last.number = ap rank same in omega arith)
  ]

  -- before all steps there is the home alone
  pub at-home : (p : PriceList) → ((s : ℕ) → gate p s ≤ 96) → AreLeastTo p set c h h (gate p h) never
  at-home p small = record {
    straight = record {
      most = omega (arith, small h);
      below = λ way is passes. omega (arith, sum_by-cons (gate p) h way);
      found = λ low. ([], refl, eq-eqb h h refl, sum_by-cons (gate p) h [] ∙ (let z : gate p h + 0 ≡ gate p h = omega arith in z));
    };
    aside = least-none c set h (aside_to h h) (fee (take p c) h) (λ way is passes.
        let parts = and_parts (not (is_straight h way)) (ends_on h h way) passes in
        let number : seen_by c h < 64 = seen-inside c h inside in
        let ends : ends_on h (seen_by c (seen_by c h)) way ≡ true = ap (λ (u : ℕ). ends_on h u way) (seen-seen c h inside) ∙ parts.1 in
        elim (end-ahead (seen_by c h) way number is ends) [
          | inl none ↦ both_ways _ (not-true _ parts.0) (ap (is_straight h) none)
          | inr less ↦ absurd (omega arith)
        ]);
  }

  -- and no way to the others of the first two ranks
  pub not-yet : (p : PriceList) (j : ℕ) → j < 16 → 1 ≤ rank (seen_by c h) → seen_by c j ≢ h → AreLeastTo p set c h (seen_by c j) never never
  not-yet p j low second other =
      no-way p (seen_by c j) (λ way is ends. elim (end-ahead j way (omega arith) is ends) [
        | inl empty ↦ other (sym (ap (way_end h) (sym empty) ∙ eqb-true _ _ ends))
        | inr less ↦ omega arith
      ])
