-- How the columns of a path are handed on, until the row in place 0 has one.
use Rattle.std.proofs.Common.{◌≡◌, ℕ, ◌+◌, ◌<◌, ◌≤◌, List, slice_index, sym, ap, ◌∙◌, subst, inl, inr, arith}
use Rattle.std.proofs.lemmas.Bool.{cases_eq}
use Rattle.assignment.specs.Pairings.{IsColumnSwap, IsHanding, IsMatched, IsSound, IsTree, Meets}
use Rattle.assignment.specs.declared.pairing.Pairing.{Pairing}
use Rattle.assignment.proofs.Swaps.{IsExchange-itself, IsExchange-partner, IsMoved-columns, IsSound-moved, Meets-moved, itself, partner, partner-first, partner-second, partner-other}

module _ (table : List (List ℕ)) (width n : ℕ) (parents : List ℕ) where
  pub IsHanding-begun : (k m e : ℕ) (p : Pairing width) → IsTree table width p n k parents → m < k → e < width → (0 < e → n < e) → Meets table width p m e
      → IsHanding table width p n m e parents
  IsHanding-begun k m e p h within free beyond edge = record {
    sound = h.sound;
    inner = omega (arith, h.size);
    room = h.room;
    free = free;
    beyond = beyond;
    edge = edge;
    rows_below = h.rows_below;
    met = h.met;
    root = λ _. h.free;
    rows = λ i lt. h.rest.rows i (omega arith);
    u = λ i lt. h.rest.u i (omega arith);
    prices = λ i lt high _. h.rest.prices i (omega arith) high;
    earlier = λ i one le. h.earlier i one (omega arith);
    edges = λ i one le. h.edges i one (omega arith);
  }

  module _ (m e : ℕ) (p q : Pairing width) (h : IsHanding table width p n m e parents) (swap : IsColumnSwap m e width p q) where
    low : m < width
    low = omega (arith, h.inner, h.room)

    sound : IsSound table width q
    sound = IsSound-moved table itself (partner m e) width p q (IsMoved-columns m e width p q swap) (IsExchange-itself width) (IsExchange-partner m e width low h.free) h.sound

    -- a row that met the column that is now in this place meets it there
    met_at : (i j k : ℕ) → partner m e j ≡ k → Meets table width p i k → Meets table width q i j
    met_at i j k is met =
        Meets-moved table itself (partner m e) width p q (IsMoved-columns m e width p q swap) i j (subst (λ (k : ℕ). Meets table width p i k) (sym is) met)

    met_here : Meets table width q m m
    met_here = met_at m m e (partner-first m e) h.edge

    met_other : (i j : ℕ) → (j ≡ m → ⊥) → (j ≡ e → ⊥) → Meets table width p i j → Meets table width q i j
    met_other i j not_m not_e met = met_at i j j (partner-other m e j not_m not_e) met

    -- every row that had a column that it met has one again
    met_all : (i : ℕ) → 1 ≤ i → i ≤ n → Meets table width q i i
    met_all i one le = elim (cases_eq i m) [
      | inl is ↦ subst (λ (k : ℕ). Meets table width q k k) (sym is) met_here
      | inr other ↦ met_other i i other (λ is. omega (arith, h.beyond)) (h.met i one le)
    ]

    rows_same : (i : ℕ) → slice_index q.rows i ≡ slice_index p.rows i
    rows_same i = ap (λ (l : List ℕ). slice_index l i) swap.rows

    u_same : (i : ℕ) → slice_index q.u i ≡ slice_index p.u i
    u_same i = ap (λ (l : List ℕ). slice_index l i) swap.u

    price_other : (i : ℕ) → (i ≡ m → ⊥) → (i ≡ e → ⊥) → slice_index p.prices i ≡ 0 → slice_index q.prices i ≡ 0
    price_other i not_m not_e zero_before = swap.prices.others i not_m not_e ∙ zero_before

    pub IsHanding-step : 1 ≤ m → IsHanding table width q n (slice_index parents m) e parents
    IsHanding-step one =
        let up : slice_index parents m < m = h.earlier m one (omega arith) in
        record {
          sound = sound;
          inner = omega (arith, h.inner);
          room = h.room;
          free = h.free;
          beyond = h.beyond;
          edge = met_at (slice_index parents m) e m (partner-second m e) (h.edges m one (omega arith));
          rows_below = λ i le. let old = h.rows_below i le in let same = rows_same i in omega arith;
          met = met_all;
          root = λ some. price_other 0 (λ is. omega arith) (λ is. omega arith) (h.root some);
          rows = λ i lt high. rows_same i ∙ h.rows i lt high;
          u = λ i lt high. u_same i ∙ h.u i lt high;
          prices = λ i lt high not_e. price_other i (λ is. omega (arith, h.inner)) not_e (h.prices i lt high not_e);
          earlier = λ i one_i le. h.earlier i one_i (omega arith);
          edges = λ i one_i le. met_other (slice_index parents i) i (λ is. omega arith) (λ is. omega (arith, h.beyond, h.inner)) (h.edges i one_i (omega arith));
        }

    price_beyond : m ≡ 0 → (i : ℕ) → n + 1 ≤ i → i < width → slice_index q.prices i ≡ 0
    price_beyond root i lt high = elim (cases_eq i e) [
      | inl is ↦
          let zero_before : slice_index p.prices 0 ≡ 0 = h.root (omega arith) in
          ap (λ (k : ℕ). slice_index q.prices k) is ∙ swap.prices.at_second ∙ ap (λ (k : ℕ). slice_index p.prices k) root ∙ zero_before
      | inr other ↦ price_other i (λ is. omega arith) other (h.prices i (omega arith) high other)
    ]

    pub IsMatched-handed : m ≡ 0 → IsMatched table width q (n + 1)
    IsMatched-handed root = record {
      sound = sound;
      rows_below = λ i lt. let old = h.rows_below i (omega arith) in let same = rows_same i in omega arith;
      met = λ i lt. elim (cases_eq i m) [
        | inl is ↦ subst (λ (k : ℕ). Meets table width q k k) (sym is) met_here
        | inr other ↦ met_all i (omega arith) (omega arith)
      ];
      rest = record {
        rows = λ i lt high. rows_same i ∙ h.rows i (omega arith) high;
        u = λ i lt high. u_same i ∙ h.u i (omega arith) high;
        prices = price_beyond root;
      };
    }
