-- How the tree grows: numbers rise until a row of the tree meets one more column.
use Rattle.std.proofs.Common.{◌≡◌, ℕ, ◌+◌, ◌<◌, ◌≤◌, ◌⊎◌, List, slice_index, sym, ap, ◌∙◌, subst, inl, inr, arith}
use Rattle.std.proofs.lemmas.Bool.{cases_eq, cases_lt}
use Rattle.std.proofs.lemmas.Bool.Decides.{nat_tests}
use Rattle.assignment.specs.Tables.{IsLimit, cost_at}
use Rattle.assignment.specs.Pairings.{IsLink, IsMatched, IsOutside, IsPlaceSwap, IsSound, IsRaised, IsTree, Meets, cost_between, slack_of}
use Rattle.assignment.specs.declared.pairing.Pairing.{Pairing}
use Rattle.assignment.proofs.Swaps.{IsExchange-partner, IsMoved-places, IsSound-moved, Meets-moved, partner, partner-other, partner-first}

-- the potentials of the rows in the first k places have risen, and so have the prices of the columns there, but for place 0
pub record IsTreeRaised (k by width : ℕ) (p q : Pairing width) : Type 0 where
  pub rows : q.rows ≡ p.rows
  pub columns : q.columns ≡ p.columns
  pub u : IsRaised 0 k by p.u q.u
  pub prices : IsRaised 1 k by p.prices q.prices

module _ (table : List (List ℕ)) (width n k by : ℕ) (parents : List ℕ) (p : Pairing width) (h : IsTree table width p n k parents)
    (least : (m e : ℕ) → m < k → e < width → IsOutside k e → by ≤ slack_of table width p m e) where
  inside : (m : ℕ) → m < k → m < width
  inside m lt = omega (arith, h.size, h.room)

  pub u_room : (limit : ℕ) → IsLimit table limit → (m : ℕ) → m < k → slice_index p.u m + by ≤ limit
  u_room limit costs m lt =
      let low : 0 < width = omega (arith, h.room) in
      let most : by ≤ slack_of table width p m 0 = least m 0 lt low (λ none. omega arith) in
      let fair = h.sound.fair m 0 (inside m lt) low in
      let cost : cost_between table width p m 0 ≤ limit = costs (slice_index p.rows m) (slice_index p.columns 0) in
      let free = h.free in
      omega arith

  pub price_room : (limit : ℕ) → IsLimit table limit → (e : ℕ) → 1 ≤ e → e < k → slice_index p.prices e + by ≤ limit
  price_room limit costs e one lt =
      let u = u_room limit costs e lt in
      let met = h.met e one (omega (arith, h.size)) in
      omega arith

  module _ (q : Pairing width) (raised : IsTreeRaised k by width p q) where
    same_cost : (m e : ℕ) → cost_between table width q m e ≡ cost_between table width p m e
    same_cost m e =
        ap (λ (l : List ℕ). cost_at table (slice_index l m) (slice_index q.columns e)) raised.rows
        ∙ ap (λ (l : List ℕ). cost_at table (slice_index p.rows m) (slice_index l e)) raised.columns

    same_row : (m : ℕ) → slice_index q.rows m ≡ slice_index p.rows m
    same_row m = ap (λ (l : List ℕ). slice_index l m) raised.rows

    same_column : (m : ℕ) → slice_index q.columns m ≡ slice_index p.columns m
    same_column m = ap (λ (l : List ℕ). slice_index l m) raised.columns

    -- a potential has risen in the tree, and is as before elsewhere
    u_cases : (m : ℕ) → ((m < k) × (slice_index q.u m ≡ slice_index p.u m + by)) ⊎ ((k ≤ m) × (slice_index q.u m ≡ slice_index p.u m))
    u_cases m = elim (cases_lt m k) [
      | inl lt ↦ inl (lt, raised.u.raised m (omega arith) lt)
      | inr ge ↦ inr (ge, raised.u.above m ge)
    ]

    -- a price has risen in the tree but for place 0, and is as before elsewhere
    price_cases : (e : ℕ) → ((1 ≤ e) × (e < k) × (slice_index q.prices e ≡ slice_index p.prices e + by)) ⊎ (IsOutside k e × (slice_index q.prices e ≡ slice_index p.prices e))
    price_cases e = elim (cases_lt e k) [
      | inl lt ↦ elim (cases_lt e 1) [
        | inl none ↦ inr ((λ some. omega arith), raised.prices.below e none)
        | inr one ↦ inl (one, lt, raised.prices.raised e one lt)
      ]
      | inr ge ↦ inr ((λ _. ge), raised.prices.above e ge)
    ]

    fair : (m e : ℕ) → m < width → e < width → slice_index q.u m ≤ cost_between table width q m e + slice_index q.prices e
    fair m e lm le =
        let cost = same_cost m e in
        let old = h.sound.fair m e lm le in
        elim (u_cases m) [
          | inl up ↦ elim (price_cases e) [
            | inl both ↦ omega arith
            | inr out ↦ let most = least m e up.0 le out.0 in omega arith
          ]
          | inr stays ↦ elim (price_cases e) [
            | inl up ↦ omega arith
            | inr out ↦ omega arith
          ]
        ]

    sound : IsSound table width q
    sound = record {
      columns_below = λ m lt. let old = h.sound.columns_below m lt in let same = same_column m in omega arith;
      columns_apart = λ m e lm le same. h.sound.columns_apart m e lm le (sym (same_column m) ∙ same ∙ same_column e);
      rows_apart = λ m e lm le same. h.sound.rows_apart m e lm le (sym (same_row m) ∙ same ∙ same_row e);
      columns_reached = λ j lt. let old = h.sound.columns_reached j lt in (old.0, old.1, same_column old.0 ∙ old.2);
      rows_reached = λ i lt. let old = h.sound.rows_reached i lt in (old.0, old.1, same_row old.0 ∙ old.2);
      fair = fair;
      u_small = λ limit costs m lm. elim (u_cases m) [
        | inl up ↦ let room = u_room limit costs m up.0 in omega arith
        | inr stays ↦ let old = h.sound.u_small limit costs m lm in omega arith
      ];
      prices_small = λ limit costs e le. elim (price_cases e) [
        | inl up ↦ let room = price_room limit costs e up.0 up.1 in omega arith
        | inr out ↦ let old = h.sound.prices_small limit costs e le in omega arith
      ];
    }

    met : (m : ℕ) → 1 ≤ m → m ≤ n → Meets table width q m m
    met m one le =
        let old = h.met m one le in
        let cost = same_cost m m in
        elim (cases_lt m k) [
          | inl lt ↦ let u = raised.u.raised m (omega arith) lt in let price = raised.prices.raised m one lt in omega arith
          | inr ge ↦ let u = raised.u.above m ge in let price = raised.prices.above m ge in omega arith
        ]

    edges : (m : ℕ) → 1 ≤ m → m < k → Meets table width q (slice_index parents m) m
    edges m one lt =
        let old = h.edges m one lt in
        let up = h.earlier m one lt in
        let cost = same_cost (slice_index parents m) m in
        let u = raised.u.raised (slice_index parents m) (omega arith) (omega arith) in
        let price = raised.prices.raised m one lt in
        omega arith

    pub IsTree-raised : IsTree table width q n k parents
    IsTree-raised = record {
      sound = sound;
      root = h.root;
      size = h.size;
      room = h.room;
      rows_below = λ m le. let old = h.rows_below m le in let same = same_row m in omega arith;
      met = met;
      free = raised.prices.below 0 (omega arith) ∙ h.free;
      rest = record {
        rows = λ m ge lt. same_row m ∙ h.rest.rows m ge lt;
        u = λ m ge lt. raised.u.above m (omega (arith, h.size)) ∙ h.rest.u m ge lt;
        prices = λ m ge lt. raised.prices.above m (omega (arith, h.size)) ∙ h.rest.prices m ge lt;
      };
      earlier = h.earlier;
      edges = edges;
    }

    -- the least slack is none now
    pub Meets-raised : (m e : ℕ) → IsLink table width p k m e by → Meets table width q m e
    Meets-raised m e link =
        let cost = same_cost m e in
        let fair_before = h.sound.fair m e (inside m link.within) link.to in
        let u = raised.u.raised m (omega arith) link.within in
        let is = link.slack in
        elim (price_cases e) [
          | inl up ↦ let out = link.outside (omega arith) in omega arith
          | inr out ↦ omega arith
        ]

module _ (table : List (List ℕ)) (width n : ℕ) (p q : Pairing width) where
  -- the row in place n changes places with what stands in place 0
  pub IsTree-rooted : (parents : List ℕ) → n < width → IsMatched table width p n → IsPlaceSwap 0 n width p q → IsTree table width q n 1 parents
  IsTree-rooted parents lt h swap =
      let moved = IsMoved-places 0 n width p q swap in
      let exchange = IsExchange-partner 0 n width (omega arith) lt in
      record {
        sound = IsSound-moved table (partner 0 n) (partner 0 n) width p q moved exchange exchange h.sound;
        root = omega arith;
        size = omega arith;
        room = lt;
        rows_below = λ m le.
            let at = moved.rows m in
            let within : partner 0 n m ≤ n = grind (arith, nat_tests) in
            elim (cases_lt (partner 0 n m) n) [
              | inl low ↦ let old = h.rows_below (partner 0 n m) low in omega arith
              | inr ge ↦ let old = h.rest.rows (partner 0 n m) ge (omega arith) in omega arith
            ];
        met = λ m one le.
            let low : partner 0 n m < n = grind (arith, nat_tests) in
            Meets-moved table (partner 0 n) (partner 0 n) width p q moved m m (h.met (partner 0 n m) low);
        free = swap.prices.at_first ∙ h.rest.prices n (omega arith) lt;
        rest = record {
          rows = λ m ge high. swap.rows.others m (λ is. omega arith) (λ is. omega arith) ∙ h.rest.rows m (omega arith) high;
          u = λ m ge high. swap.u.others m (λ is. omega arith) (λ is. omega arith) ∙ h.rest.u m (omega arith) high;
          prices = λ m ge high. swap.prices.others m (λ is. omega arith) (λ is. omega arith) ∙ h.rest.prices m (omega arith) high;
        };
        earlier = λ m one less. omega arith;
        edges = λ m one less. absurd (omega arith);
      }

  -- the row that has the column that was met, and that column, join the tree
  pub IsTree-grown : (k m e : ℕ) (parents more : List ℕ) → IsTree table width p n k parents → m < k → k ≤ e → e ≤ n → Meets table width p m e
      → slice_index more k ≡ m → ((i : ℕ) → i < k → slice_index more i ≡ slice_index parents i) → IsPlaceSwap k e width p q
      → IsTree table width q n (k + 1) more
  IsTree-grown k m e parents more h within out le link new_parent old_parents swap =
      let moved = IsMoved-places k e width p q swap in
      let exchange = IsExchange-partner k e width (omega (arith, h.room)) (omega (arith, h.room)) in
      let some = h.root in
      let met_at : (i j i' j' : ℕ) → partner k e i ≡ i' → partner k e j ≡ j' → Meets table width p i' j' → Meets table width q i j =
      λ i j i' j' is_i is_j met.
      Meets-moved table (partner k e) (partner k e) width p q moved i j
      (subst (λ (a : ℕ). Meets table width p a (partner k e j)) (sym is_i) (subst (λ (b : ℕ). Meets table width p i' b) (sym is_j) met)) in
      record {
        sound = IsSound-moved table (partner k e) (partner k e) width p q moved exchange exchange h.sound;
        root = omega arith;
        size = omega arith;
        room = h.room;
        rows_below = λ i low.
            let at = moved.rows i in
            let inner : partner k e i ≤ n = grind (arith, nat_tests) in
            let old = h.rows_below (partner k e i) inner in
            omega arith;
        met = λ i one low.
            let inner : partner k e i ≤ n = grind (arith, nat_tests) in
            let positive : 1 ≤ partner k e i = grind (arith, nat_tests) in
            Meets-moved table (partner k e) (partner k e) width p q moved i i (h.met (partner k e i) positive inner);
        free = swap.prices.others 0 (λ is. omega arith) (λ is. omega arith) ∙ h.free;
        rest = record {
          rows = λ i ge high. swap.rows.others i (λ is. omega (arith, h.size)) (λ is. omega arith) ∙ h.rest.rows i ge high;
          u = λ i ge high. swap.u.others i (λ is. omega (arith, h.size)) (λ is. omega arith) ∙ h.rest.u i ge high;
          prices = λ i ge high. swap.prices.others i (λ is. omega (arith, h.size)) (λ is. omega arith) ∙ h.rest.prices i ge high;
        };
        earlier = λ i one low. elim (cases_eq i k) [
          | inl is ↦ let at = ap (slice_index more) is in omega arith
          | inr other ↦ let at = old_parents i (omega arith) in let up = h.earlier i one (omega arith) in omega arith
        ];
        edges = λ i one low. elim (cases_eq i k) [
          | inl is ↦
              let at : slice_index more i ≡ m = ap (slice_index more) is ∙ new_parent in
              met_at (slice_index more i) i m e (ap (partner k e) at ∙ partner-other k e m (λ is. omega arith) (λ is. omega arith)) (ap (partner k e) is ∙ partner-first k e) link
          | inr other ↦
              let at = old_parents i (omega arith) in
              let up = h.earlier i one (omega arith) in
              met_at (slice_index more i) i (slice_index parents i) i
              (ap (partner k e) at ∙ partner-other k e (slice_index parents i) (λ is. omega arith) (λ is. omega arith))
              (partner-other k e i other (λ is. omega arith))
              (h.edges i one (omega arith))
        ];
      }
