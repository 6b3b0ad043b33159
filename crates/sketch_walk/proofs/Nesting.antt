-- Lists in lists in lists, place by place.
use Rattle.std.proofs.Common.{◌≡◌, ℕ, zero, suc, ◌+◌, ◌-◌, ◌<◌, ◌≤◌, inl, inr, List, [], ◌++◌, append_assoc, refl, ap, sym, ◌∙◌, arith}
use Rattle.std.proofs.lemmas.Bool.{cases_lt, cond-false, cond-true, le-ltb, lt-ltb}
use Rattle.std.specs.Prelude.{nat_lt}
use Rattle.std.specs.List.{flat_map, range_with_len}
use Rattle.sketch_list.specs.Listed.{Earlier}
use Rattle.sketch_walk.specs.declared.cursors.Cursor.{Cursor}
use Rattle.sketch_walk.specs.Nests.{Finds, after_figure, after_place, after_square, after_victim, after_way, left, of_figure, of_square, of_victim, of_way, rest}

rest-first : (g : ℕ → List Earlier) (a n : ℕ) → a < n → rest g a n ≡ g a ++ rest g (a + 1) n
unfolding rest
rest-first g a n low = let e : n - a ≡ suc (n - (a + 1)) = omega arith in ap (λ (m : ℕ). flat_map g (range_with_len a m)) e

rest-end : (g : ℕ → List Earlier) (a n : ℕ) → n ≤ a → rest g a n ≡ []
unfolding rest
rest-end g a n past = let e : n - a ≡ 0 = omega arith in ap (λ (m : ℕ). flat_map g (range_with_len a m)) e

pub rest-all : (g : ℕ → List Earlier) (n : ℕ) → rest g 0 n ≡ flat_map g (range_with_len 0 n)
unfolding rest
rest-all g n = let e : n - 0 ≡ n = omega arith in ap (λ (m : ℕ). flat_map g (range_with_len 0 m)) e

none-from : (g : ℕ → List Earlier) (a m : ℕ) → ((x : ℕ) → a ≤ x → g x ≡ []) → flat_map g (range_with_len a m) ≡ []
none-from g a zero none = refl
none-from g a (suc m) none = ap (λ (l : List Earlier). l ++ flat_map g (range_with_len (a + 1) m)) (none a (omega arith)) ∙ none-from g (a + 1) m (λ x low. none x (omega arith))

rest-none : (g : ℕ → List Earlier) (a n : ℕ) → ((x : ℕ) → a ≤ x → g x ≡ []) → rest g a n ≡ []
unfolding rest
rest-none g a n none = none-from g a (n - a) none

-- the first list, and then what is left
rest-joined : (g : ℕ → List Earlier) (a n : ℕ) (more : List Earlier) → a < n → rest g a n ++ more ≡ g a ++ (rest g (a + 1) n ++ more)
rest-joined g a n more low = ap (λ (l : List Earlier). l ++ more) (rest-first g a n low) ∙ append_assoc (g a) (rest g (a + 1) n) more

module _ (finds : Finds) (k : ℕ) where
  victim-opened : (i t w v : ℕ) (more : List Earlier) → of_victim finds k i t w v ++ more ≡ finds i t w v 0 ++ (rest (finds i t w v) 1 (k + 1) ++ more)
  unfolding of_victim
  victim-opened i t w v more = rest-joined (finds i t w v) 0 (k + 1) more (omega arith)

  way-opened : (i t w : ℕ) (more : List Earlier) → of_way finds k i t w ++ more ≡ finds i t w 0 0 ++ (rest (finds i t w 0) 1 (k + 1) ++ (rest (of_victim finds k i t w) 1 5 ++ more))
  unfolding of_way
  way-opened i t w more = rest-joined (of_victim finds k i t w) 0 5 more (omega arith) ∙ victim-opened i t w 0 (rest (of_victim finds k i t w) 1 5 ++ more)

  square-opened : (i t : ℕ) (more : List Earlier) → of_square finds k i t ++ more ≡ finds i t 0 0 0 ++ (rest (finds i t 0 0) 1 (k + 1) ++ (rest (of_victim finds k i t 0) 1 5 ++ (rest (of_way finds k i t) 1 4 ++ more)))
  unfolding of_square
  square-opened i t more = rest-joined (of_way finds k i t) 0 4 more (omega arith) ∙ way-opened i t 0 (rest (of_way finds k i t) 1 4 ++ more)

  figure-opened : (i : ℕ) (more : List Earlier) → of_figure finds k i ++ more ≡ finds i 0 0 0 0 ++ (rest (finds i 0 0 0) 1 (k + 1) ++ (rest (of_victim finds k i 0 0) 1 5 ++ (rest (of_way finds k i 0) 1 4 ++ (rest (of_square finds k i) 1 64 ++ more))))
  unfolding of_figure
  figure-opened i more = rest-joined (of_square finds k i) 0 64 more (omega arith) ∙ square-opened i 0 (rest (of_square finds k i) 1 64 ++ more)

  -- what is left from the place on
  pub left-in : (c : Cursor) → c.by < k → left finds k c ≡ finds c.by c.to c.way c.victim c.above ++ after_place finds k c
  unfolding left
  left-in c low = cond-true (nat_lt c.by k) _ _ (lt-ltb c.by k low)

  pub left-past : (c : Cursor) → k ≤ c.by → left finds k c ≡ []
  unfolding left
  left-past c past = cond-false (nat_lt c.by k) _ _ (le-ltb c.by k past)

  -- from the first place of a figure on
  pub figure-next : (i : ℕ) → left finds k (record { by = i; to = 0; way = 0; victim = 0; above = 0 }) ≡ rest (of_figure finds k) i k
  unfolding after_place after_victim after_way after_square after_figure
  figure-next i = elim (cases_lt i k) [
    | inl low ↦ left-in (record { by = i; to = 0; way = 0; victim = 0; above = 0 }) low ∙ sym (rest-first (of_figure finds k) i k low ∙ figure-opened i (rest (of_figure finds k) (i + 1) k))
    | inr past ↦ left-past (record { by = i; to = 0; way = 0; victim = 0; above = 0 }) past ∙ sym (rest-end (of_figure finds k) i k past)
  ]

  -- from the next one on: a figure, a square, an origin, a victim, a place; none is left after the last
  pub figure-after : (c : Cursor) → left finds k (record { by = c.by + 1; to = 0; way = 0; victim = 0; above = 0 }) ≡ after_figure finds k c
  unfolding after_figure
  figure-after c = figure-next (c.by + 1)

  pub square-after : (c : Cursor) → c.by < k → c.to + 1 < 64 → left finds k (record { by = c.by; to = c.to + 1; way = 0; victim = 0; above = 0 }) ≡ after_square finds k c
  unfolding after_place after_victim after_way after_square after_figure
  square-after c low on =
      let more : List Earlier = rest (of_figure finds k) (c.by + 1) k in
      left-in (record { by = c.by; to = c.to + 1; way = 0; victim = 0; above = 0 }) low ∙ sym (rest-joined (of_square finds k c.by) (c.to + 1) 64 more on ∙ square-opened c.by (c.to + 1) (rest (of_square finds k c.by) (c.to + 1 + 1) 64 ++ more))

  pub square-last : (c : Cursor) → 64 ≤ c.to + 1 → after_figure finds k c ≡ after_square finds k c
  unfolding after_square
  square-last c past = sym (ap (λ (l : List Earlier). l ++ after_figure finds k c) (rest-end (of_square finds k c.by) (c.to + 1) 64 past))

  pub way-after : (c : Cursor) → c.by < k → c.way + 1 < 4 → left finds k (record { by = c.by; to = c.to; way = c.way + 1; victim = 0; above = 0 }) ≡ after_way finds k c
  unfolding after_place after_victim after_way after_square after_figure
  way-after c low on =
      let more : List Earlier = rest (of_square finds k c.by) (c.to + 1) 64 ++ rest (of_figure finds k) (c.by + 1) k in
      left-in (record { by = c.by; to = c.to; way = c.way + 1; victim = 0; above = 0 }) low ∙ sym (rest-joined (of_way finds k c.by c.to) (c.way + 1) 4 more on ∙ way-opened c.by c.to (c.way + 1) (rest (of_way finds k c.by c.to) (c.way + 1 + 1) 4 ++ more))

  pub way-last : (c : Cursor) → 4 ≤ c.way + 1 → after_square finds k c ≡ after_way finds k c
  unfolding after_way
  way-last c past = sym (ap (λ (l : List Earlier). l ++ after_square finds k c) (rest-end (of_way finds k c.by c.to) (c.way + 1) 4 past))

  pub victim-after : (c : Cursor) → c.by < k → c.victim + 1 < 5 → left finds k (record { by = c.by; to = c.to; way = c.way; victim = c.victim + 1; above = 0 }) ≡ after_victim finds k c
  unfolding after_place after_victim after_way after_square after_figure
  victim-after c low on =
      let more : List Earlier = rest (of_way finds k c.by c.to) (c.way + 1) 4 ++ (rest (of_square finds k c.by) (c.to + 1) 64 ++ rest (of_figure finds k) (c.by + 1) k) in
      left-in (record { by = c.by; to = c.to; way = c.way; victim = c.victim + 1; above = 0 }) low ∙ sym (rest-joined (of_victim finds k c.by c.to c.way) (c.victim + 1) 5 more on ∙ victim-opened c.by c.to c.way (c.victim + 1) (rest (of_victim finds k c.by c.to c.way) (c.victim + 1 + 1) 5 ++ more))

  pub victim-last : (c : Cursor) → 5 ≤ c.victim + 1 → after_way finds k c ≡ after_victim finds k c
  unfolding after_victim
  victim-last c past = sym (ap (λ (l : List Earlier). l ++ after_way finds k c) (rest-end (of_victim finds k c.by c.to c.way) (c.victim + 1) 5 past))

  pub place-after : (c : Cursor) → c.by < k → c.above + 1 < k + 1 → left finds k (record c { above = c.above + 1 }) ≡ after_place finds k c
  unfolding after_place after_victim after_way after_square after_figure
  place-after c low on =
      let more : List Earlier = rest (of_victim finds k c.by c.to c.way) (c.victim + 1) 5 ++ (rest (of_way finds k c.by c.to) (c.way + 1) 4 ++ (rest (of_square finds k c.by) (c.to + 1) 64 ++ rest (of_figure finds k) (c.by + 1) k)) in
      left-in (record c { above = c.above + 1 }) low ∙ sym (rest-joined (finds c.by c.to c.way c.victim) (c.above + 1) (k + 1) more on)

  pub place-last : (c : Cursor) → k + 1 ≤ c.above + 1 → after_victim finds k c ≡ after_place finds k c
  unfolding after_place
  place-last c past = sym (ap (λ (l : List Earlier). l ++ after_victim finds k c) (rest-end (finds c.by c.to c.way c.victim) (c.above + 1) (k + 1) past))

  -- where nothing is found
  pub victim-skipped : (c : Cursor) → c.by < k → ((n : ℕ) → c.above ≤ n → finds c.by c.to c.way c.victim n ≡ []) → left finds k c ≡ after_victim finds k c
  unfolding after_place
  victim-skipped c low none =
      left-in c low ∙ ap (λ (l : List Earlier). l ++ (rest (finds c.by c.to c.way c.victim) (c.above + 1) (k + 1) ++ after_victim finds k c)) (none c.above (omega arith))
      ∙ ap (λ (l : List Earlier). l ++ after_victim finds k c) (rest-none (finds c.by c.to c.way c.victim) (c.above + 1) (k + 1) (λ n high. none n (omega arith)))

  none-of-victim : (i t w v : ℕ) → ((n : ℕ) → finds i t w v n ≡ []) → of_victim finds k i t w v ≡ []
  unfolding of_victim
  none-of-victim i t w v none = rest-none (finds i t w v) 0 (k + 1) (λ n high. none n)

  none-of-way : (i t w : ℕ) → ((v n : ℕ) → finds i t w v n ≡ []) → of_way finds k i t w ≡ []
  unfolding of_way
  none-of-way i t w none = rest-none (of_victim finds k i t w) 0 5 (λ v high. none-of-victim i t w v (none v))

  pub way-skipped : (c : Cursor) → c.by < k → ((v n : ℕ) → finds c.by c.to c.way v n ≡ []) → left finds k c ≡ after_way finds k c
  unfolding after_victim
  way-skipped c low none =
      victim-skipped c low (λ n high. none c.victim n)
      ∙ ap (λ (l : List Earlier). l ++ after_way finds k c) (rest-none (of_victim finds k c.by c.to c.way) (c.victim + 1) 5 (λ v high. none-of-victim c.by c.to c.way v (none v)))

  pub square-skipped : (c : Cursor) → c.by < k → ((w v n : ℕ) → finds c.by c.to w v n ≡ []) → left finds k c ≡ after_square finds k c
  unfolding after_way
  square-skipped c low none =
      way-skipped c low (none c.way)
      ∙ ap (λ (l : List Earlier). l ++ after_square finds k c) (rest-none (of_way finds k c.by c.to) (c.way + 1) 4 (λ w high. none-of-way c.by c.to w (none w)))
