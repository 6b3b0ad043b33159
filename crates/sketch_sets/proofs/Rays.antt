-- Steps in one direction, and the squares that are on one line or one diagonal.
use Rattle.std.proofs.Common.{◌≡◌, ℕ, zero, suc, ◌+◌, ◌-◌, ◌*◌, ◌<◌, ◌≤◌, ◌==◌, inl, inr, Bool, true, false, ◌&&◌, ◌||◌, not, List, refl, ap, sym, ◌∙◌, subst, arith}
use Rattle.std.proofs.lemmas.Bool.{and_from, and_parts, both_ways, cases_lt, cases_order, eq-eqb, eqb-true, eqb-false, le-leb, leb-true, lt-ltb, ltb-true, ne_eqb, not-true, not_from_false, or_cases, or_left, or_right}
use Rattle.std.specs.Prelude.{nat_le}
use Rattle.std.specs.List.{list_all, range_with_len}
use Rattle.general_lemmas.proofs.Ranges.{all-each, all_in_range}
use Rattle.general_lemmas.proofs.Truth.{same_truth}
use Rattle.board_base.specs.Board.{file, is_in, rank}
use Rattle.board_base.specs.Attacks.{distance, files_apart, king_distance, on_one_diagonal, on_one_line, on_the_way, ranks_apart, toward}
use Rattle.board_base.specs.Ways.{along, changed}
use Rattle.board_base.specs.declared.lines.Change.{Change}
use Rattle.board_base.specs.declared.lines.Change.TheVariants.{Falls, Stays, Rises}
use Rattle.board_base.specs.declared.lines.Direction.{Direction}
use Rattle.board_base.proofs.Hits.{away-above, away-below}
use Rattle.board_base.proofs.Ways.{distance-low, heading, toward-down, toward-same, toward-up, zero-apart}
use Rattle.sketch_sets.specs.Shifts.{goes_diagonally, goes_straight_on, has_step, is_short, reaches, stays_on}

-- a rank or a file comes from a to b by n steps
abbrev pub Goes : Change → ℕ → ℕ → ℕ → Type 0
Goes Falls a b n = a ≡ b + n
Goes Stays a b n = a ≡ b
Goes Rises a b n = a + n ≡ b

goes-toward : (c : Change) (a b n j : ℕ) → 1 ≤ n → Goes c a b n → toward a b j ≡ changed c a j
goes-toward Falls a b n j some g = toward-down a b j (omega arith)
goes-toward Stays a b n j some g = toward-same a b j g
goes-toward Rises a b n j some g = toward-up a b j (omega arith)

goes-first : (c : Change) (a b n : ℕ) → b < 8 → Goes c a b (suc n) → has_step c a ≡ true
goes-first Falls a b n low g = lt-ltb 0 a (omega arith)
goes-first Stays a b n low g = refl
goes-first Rises a b n low g = lt-ltb a 7 (omega arith)

goes-rest : (c : Change) (a b n : ℕ) → Goes c a b (suc n) → Goes c (changed c a 1) b n
goes-rest Falls a b n g = omega arith
goes-rest Stays a b n g = g
goes-rest Rises a b n g = omega arith

goes-more : (c : Change) (a b n : ℕ) → has_step c a ≡ true → Goes c (changed c a 1) b n → Goes c a b (suc n)
goes-more Falls a b n on g = let up : 0 < a = ltb-true 0 a on in omega arith
goes-more Stays a b n on g = g
goes-more Rises a b n on g = omega arith

goes-one : (c : Change) (a : ℕ) → has_step c a ≡ true → Goes c a (changed c a 1) 1
goes-one Falls a on = let up : 0 < a = ltb-true 0 a on in omega arith
goes-one Stays a on = refl
goes-one Rises a on = refl

goes-end : (c : Change) (a b : ℕ) → Goes c a b 1 → changed c a 1 ≡ b
goes-end Falls a b g = omega arith
goes-end Stays a b g = g
goes-end Rises a b g = g

pub changed-low : (c : Change) (a : ℕ) → a < 8 → has_step c a ≡ true → changed c a 1 < 8
changed-low Falls a low on = omega arith
changed-low Stays a low on = low
changed-low Rises a low on = let down : a < 7 = ltb-true a 7 on in omega arith

changed-more : (c : Change) (a i : ℕ) → changed c (changed c a 1) i ≡ changed c a (suc i)
changed-more Falls a i = omega arith
changed-more Stays a i = refl
changed-more Rises a i = omega arith

-- the next square in a direction
pub record Next (d : Direction) (e : ℕ) : Type 0 where
  pub low : along d e 1 < 64
  pub rank_is : rank (along d e 1) ≡ changed d.ranks (rank e) 1
  pub file_is : file (along d e 1) ≡ changed d.files (file e) 1

pub next-square : (d : Direction) (e : ℕ) → e < 64 → stays_on d e ≡ true → Next d e
next-square d e low on =
    let parts = and_parts (has_step d.ranks (rank e)) (has_step d.files (file e)) on in
    let r : changed d.ranks (rank e) 1 < 8 = changed-low d.ranks (rank e) (omega arith) parts.0 in
    let f : changed d.files (file e) 1 < 8 = changed-low d.files (file e) (omega arith) parts.1 in
    record { low = omega arith; rank_is = omega arith; file_is = omega arith }

along-more : (d : Direction) (e i : ℕ) → Next d e → along d e (suc i) ≡ along d (along d e 1) i
along-more d e i next =
    sym (ap (λ (n : ℕ). 8 * changed d.ranks n i + changed d.files (file (along d e 1)) i) next.rank_is
    ∙ ap (λ (n : ℕ). 8 * changed d.ranks (changed d.ranks (rank e) 1) i + changed d.files n i) next.file_is
    ∙ ap (λ (n : ℕ). 8 * n + changed d.files (changed d.files (file e) 1) i) (changed-more d.ranks (rank e) i)
    ∙ ap (λ (n : ℕ). 8 * changed d.ranks (rank e) (suc i) + n) (changed-more d.files (file e) i))

-- the steps that lead from e to s
record Way (d : Direction) (fixed : List Bool) (n e s : ℕ) : Type 0 where
  steps : ℕ
  some : 1 ≤ steps
  few : steps ≤ n
  ranks : Goes d.ranks (rank e) (rank s) steps
  files : Goes d.files (file e) (file s) steps
  clear : (j : ℕ) → 1 ≤ j → j < steps → is_in fixed (along d e j) ≡ false

reach-told : (d : Direction) (fixed : List Bool) (n e s : ℕ) → e < 64 → reaches d fixed n e s ≡ true → Way d fixed n e s
unfolding reaches
reach-told d fixed zero e s low h = absurd (both_ways false refl h)
reach-told d fixed (suc n) e s low h =
    let t : ℕ = along d e 1 in
    let parts = and_parts (stays_on d e) ((t == s) || (reaches d fixed n t s && not (is_in fixed t))) h in
    let on = and_parts (has_step d.ranks (rank e)) (has_step d.files (file e)) parts.0 in
    let next : Next d e = next-square d e low parts.0 in
    elim (or_cases (t == s) (reaches d fixed n t s && not (is_in fixed t)) parts.1) [
      | inl here ↦
          let same : t ≡ s = eqb-true t s here in
          record {
            steps = 1;
            some = omega arith;
            few = omega arith;
            ranks = subst (λ (x : ℕ). Goes d.ranks (rank e) x 1) (sym next.rank_is ∙ ap rank same) (goes-one d.ranks (rank e) on.0);
            files = subst (λ (x : ℕ). Goes d.files (file e) x 1) (sym next.file_is ∙ ap file same) (goes-one d.files (file e) on.1);
            clear = λ j one less. absurd (omega arith);
          }
      | inr later ↦
          let more = and_parts (reaches d fixed n t s) (not (is_in fixed t)) later in
          let rest : Way d fixed n t s = reach-told d fixed n t s next.low more.0 in
          let few : rest.steps ≤ n = rest.few in
          record {
            steps = suc rest.steps;
            some = omega arith;
            few = omega arith;
            ranks = goes-more d.ranks (rank e) (rank s) rest.steps on.0 (subst (λ (x : ℕ). Goes d.ranks x (rank s) rest.steps) next.rank_is rest.ranks);
            files = goes-more d.files (file e) (file s) rest.steps on.1 (subst (λ (x : ℕ). Goes d.files x (file s) rest.steps) next.file_is rest.files);
            clear = λ j one less. elim (cases_lt 1 j) [
              | inl far ↦
                  let same : j ≡ suc (j - 1) = omega arith in
                  ap (is_in fixed) (ap (along d e) same ∙ along-more d e (j - 1) next) ∙ rest.clear (j - 1) (omega arith) (omega arith)
              | inr near ↦ let same : j ≡ 1 = omega arith in ap (λ (i : ℕ). is_in fixed (along d e i)) same ∙ not-true (is_in fixed t) more.1
            ];
          }
    ]

reach-tells : (d : Direction) (fixed : List Bool) (n k e s : ℕ) → e < 64 → s < 64 → 1 ≤ k → k ≤ n → Goes d.ranks (rank e) (rank s) k → Goes d.files (file e) (file s) k → ((j : ℕ) → 1 ≤ j → j < k → is_in fixed (along d e j) ≡ false) → reaches d fixed n e s ≡ true
unfolding reaches
reach-tells d fixed zero k e s low inside some few ranks files clear = absurd (omega arith)
reach-tells d fixed (suc n) zero e s low inside some few ranks files clear = absurd (omega arith)
reach-tells d fixed (suc n) (suc zero) e s low inside some few ranks files clear =
    let t : ℕ = along d e 1 in
    let on : stays_on d e ≡ true = and_from _ _ (goes-first d.ranks (rank e) (rank s) 0 (omega arith) ranks) (goes-first d.files (file e) (file s) 0 (omega arith) files) in
    let next : Next d e = next-square d e low on in
    let r : rank t ≡ rank s = next.rank_is ∙ goes-end d.ranks (rank e) (rank s) ranks in
    let f : file t ≡ file s = next.file_is ∙ goes-end d.files (file e) (file s) files in
    and_from (stays_on d e) _ on (or_left (t == s) (reaches d fixed n t s && not (is_in fixed t)) (eq-eqb t s (omega arith)))
reach-tells d fixed (suc n) (suc (suc m)) e s low inside some few ranks files clear =
    let t : ℕ = along d e 1 in
    let on : stays_on d e ≡ true = and_from _ _ (goes-first d.ranks (rank e) (rank s) (suc m) (omega arith) ranks) (goes-first d.files (file e) (file s) (suc m) (omega arith) files) in
    let next : Next d e = next-square d e low on in
    let rest : reaches d fixed n t s ≡ true = reach-tells d fixed n (suc m) t s next.low inside (omega arith) (omega arith)
    (subst (λ (x : ℕ). Goes d.ranks x (rank s) (suc m)) (sym next.rank_is) (goes-rest d.ranks (rank e) (rank s) (suc m) ranks))
    (subst (λ (x : ℕ). Goes d.files x (file s) (suc m)) (sym next.file_is) (goes-rest d.files (file e) (file s) (suc m) files))
    (λ j one less. ap (is_in fixed) (sym (along-more d e j next)) ∙ clear (suc j) (omega arith) (omega arith)) in
    and_from (stays_on d e) _ on (or_right (t == s) (reaches d fixed n t s && not (is_in fixed t)) (and_from _ _ rest (not_from_false (is_in fixed t) (clear 1 (omega arith) (omega arith)))))

on-way : (d : Direction) (e s n j : ℕ) → 1 ≤ n → Goes d.ranks (rank e) (rank s) n → Goes d.files (file e) (file s) n → on_the_way e s j ≡ along d e j
unfolding on_the_way
on-way d e s n j some ranks files =
    ap (λ (x : ℕ). 8 * x + toward (file e) (file s) j) (goes-toward d.ranks (rank e) (rank s) n j some ranks)
    ∙ ap (λ (x : ℕ). 8 * changed d.ranks (rank e) j + x) (goes-toward d.files (file e) (file s) n j some files)

pub far-apart : (e s n : ℕ) → king_distance e s ≡ n → 1 ≤ n → e ≡ s → ⊥
unfolding king_distance
far-apart e s n far some same =
    let f : files_apart e s ≡ 0 = zero-apart (file e) (file s) (ap file same) in
    let r : ranks_apart e s ≡ 0 = zero-apart (rank e) (rank s) (ap rank same) in
    omega arith

way-short : (d : Direction) (fixed : List Bool) (n e s : ℕ) (w : Way d fixed n e s) → king_distance e s ≡ w.steps → is_short fixed n e s ≡ true
way-short d fixed n e s w far =
    let some : 1 ≤ w.steps = w.some in
    let few : w.steps ≤ n = w.few in
    and_from (not (e == s) && nat_le (king_distance e s) n) _ (and_from (not (e == s)) (nat_le (king_distance e s) n) (not_from_false (e == s) (ne_eqb e s (far-apart e s w.steps far some))) (le-leb (king_distance e s) n (omega arith)))
    (all-each (λ j. not (is_in fixed (on_the_way e s j))) 1 (king_distance e s - 1) (λ j low high.
    not_from_false (is_in fixed (on_the_way e s j)) (ap (is_in fixed) (on-way d e s w.steps j some w.ranks w.files) ∙ w.clear j low (omega arith))))

record Short (fixed : List Bool) (n e s : ℕ) : Type 0 where
  some : 1 ≤ king_distance e s
  few : king_distance e s ≤ n
  other : e ≡ s → ⊥
  clear : (j : ℕ) → 1 ≤ j → j < king_distance e s → is_in fixed (on_the_way e s j) ≡ false

short-told : (fixed : List Bool) (n e s : ℕ) → is_short fixed n e s ≡ true → Short fixed n e s
short-told fixed n e s h =
    let p : ℕ → Bool = λ j. not (is_in fixed (on_the_way e s j)) in
    let parts = and_parts (not (e == s) && nat_le (king_distance e s) n) (list_all p (range_with_len 1 (king_distance e s - 1))) h in
    let first = and_parts (not (e == s)) (nat_le (king_distance e s) n) parts.0 in
    let other : e ≡ s → ⊥ = eqb-false e s (not-true (e == s) first.0) in
    record {
      some = distance-low e s other;
      few = leb-true (king_distance e s) n first.1;
      other = other;
      clear = λ j low high. not-true (is_in fixed (on_the_way e s j)) (all_in_range p 1 (king_distance e s - 1) j parts.1 low (omega arith));
    }

short-reaches : (d : Direction) (fixed : List Bool) (n e s : ℕ) → e < 64 → s < 64 → Short fixed n e s → Goes d.ranks (rank e) (rank s) (king_distance e s) → Goes d.files (file e) (file s) (king_distance e s) → reaches d fixed n e s ≡ true
short-reaches d fixed n e s low inside short ranks files =
    reach-tells d fixed n (king_distance e s) e s low inside short.some short.few ranks files (λ j one less.
    ap (is_in fixed) (sym (on-way d e s (king_distance e s) j short.some ranks files)) ∙ short.clear j one less)

-- how far squares are apart
far-ranks : (e s n : ℕ) → distance (rank e) (rank s) ≡ n → file e ≡ file s → king_distance e s ≡ n
unfolding king_distance
far-ranks e s n r same = let f : files_apart e s ≡ 0 = zero-apart (file e) (file s) same in omega arith

far-files : (e s n : ℕ) → distance (file e) (file s) ≡ n → rank e ≡ rank s → king_distance e s ≡ n
unfolding king_distance
far-files e s n f same = let r : ranks_apart e s ≡ 0 = zero-apart (rank e) (rank s) same in omega arith

far-both : (e s n : ℕ) → distance (file e) (file s) ≡ n → distance (rank e) (rank s) ≡ n → king_distance e s ≡ n
unfolding king_distance
far-both e s n f r = omega arith

-- along a line
abbrev pub four : Bool → Bool → Bool → Bool → Bool
four a b c d = (a || b) || (c || d)

four-1 : (a b c d : Bool) → a ≡ true → four a b c d ≡ true
four-1 a b c d h = or_left (a || b) (c || d) (or_left a b h)

four-2 : (a b c d : Bool) → b ≡ true → four a b c d ≡ true
four-2 a b c d h = or_left (a || b) (c || d) (or_right a b h)

four-3 : (a b c d : Bool) → c ≡ true → four a b c d ≡ true
four-3 a b c d h = or_right (a || b) (c || d) (or_left c d h)

four-4 : (a b c d : Bool) → d ≡ true → four a b c d ≡ true
four-4 a b c d h = or_right (a || b) (c || d) (or_right c d h)

abbrev pub on_lines : List Bool → ℕ → ℕ → ℕ → Bool
on_lines fixed n e s = four (reaches (heading Falls Stays) fixed n e s) (reaches (heading Stays Falls) fixed n e s) (reaches (heading Stays Rises) fixed n e s) (reaches (heading Rises Stays) fixed n e s)

pub line-reached : (fixed : List Bool) (n e s : ℕ) → e < 64 → s < 64 → on_lines fixed n e s ≡ goes_straight_on fixed n e s
unfolding goes_straight_on
line-reached fixed n e s low inside =
    let a : Bool = reaches (heading Falls Stays) fixed n e s in
    let b : Bool = reaches (heading Stays Falls) fixed n e s in
    let c : Bool = reaches (heading Stays Rises) fixed n e s in
    let d : Bool = reaches (heading Rises Stays) fixed n e s in
    same_truth _ _
    (λ h. elim (or_cases (a || b) (c || d) h) [
      | inl first ↦ elim (or_cases a b first) [
        | inl down ↦ let w : Way (heading Falls Stays) fixed n e s = reach-told (heading Falls Stays) fixed n e s low down in column w.files (way-short (heading Falls Stays) fixed n e s w (far-ranks e s w.steps (away-above (rank e) (rank s) w.steps w.ranks) w.files))
        | inr left ↦ let w : Way (heading Stays Falls) fixed n e s = reach-told (heading Stays Falls) fixed n e s low left in row w.ranks (way-short (heading Stays Falls) fixed n e s w (far-files e s w.steps (away-above (file e) (file s) w.steps w.files) w.ranks))
      ]
      | inr second ↦ elim (or_cases c d second) [
        | inl right ↦ let w : Way (heading Stays Rises) fixed n e s = reach-told (heading Stays Rises) fixed n e s low right in row w.ranks (way-short (heading Stays Rises) fixed n e s w (far-files e s w.steps (away-below (file e) (file s) w.steps w.files) w.ranks))
        | inr up ↦ let w : Way (heading Rises Stays) fixed n e s = reach-told (heading Rises Stays) fixed n e s low up in column w.files (way-short (heading Rises Stays) fixed n e s w (far-ranks e s w.steps (away-below (rank e) (rank s) w.steps w.ranks) w.files))
      ]
    ])
    (λ h.
    let parts = and_parts (on_one_line e s) (is_short fixed n e s) h in
    let short : Short fixed n e s = short-told fixed n e s parts.1 in
    elim (or_cases (file e == file s) (rank e == rank s) parts.0) [
      | inl beside ↦
          let same : file e ≡ file s = eqb-true (file e) (file s) beside in
          elim (cases_order (rank e) (rank s)) [
            | inl level ↦ absurd (short.other (omega arith))
            | inr (inl up) ↦
                let far : king_distance e s ≡ rank s - rank e = far-ranks e s (rank s - rank e) (away-below (rank e) (rank s) (rank s - rank e) (omega arith)) same in
                four-4 a b c d (short-reaches (heading Rises Stays) fixed n e s low inside short (omega arith) same)
            | inr (inr down) ↦
                let far : king_distance e s ≡ rank e - rank s = far-ranks e s (rank e - rank s) (away-above (rank e) (rank s) (rank e - rank s) (omega arith)) same in
                four-1 a b c d (short-reaches (heading Falls Stays) fixed n e s low inside short (omega arith) same)
          ]
      | inr level ↦
          let same : rank e ≡ rank s = eqb-true (rank e) (rank s) level in
          elim (cases_order (file e) (file s)) [
            | inl beside ↦ absurd (short.other (omega arith))
            | inr (inl right) ↦
                let far : king_distance e s ≡ file s - file e = far-files e s (file s - file e) (away-below (file e) (file s) (file s - file e) (omega arith)) same in
                four-3 a b c d (short-reaches (heading Stays Rises) fixed n e s low inside short same (omega arith))
            | inr (inr left) ↦
                let far : king_distance e s ≡ file e - file s = far-files e s (file e - file s) (away-above (file e) (file s) (file e - file s) (omega arith)) same in
                four-2 a b c d (short-reaches (heading Stays Falls) fixed n e s low inside short same (omega arith))
          ]
    ])
  where
    column : file e ≡ file s → is_short fixed n e s ≡ true → (on_one_line e s && is_short fixed n e s) ≡ true
    column same short = and_from (on_one_line e s) (is_short fixed n e s) (or_left (file e == file s) (rank e == rank s) (eq-eqb (file e) (file s) same)) short

    row : rank e ≡ rank s → is_short fixed n e s ≡ true → (on_one_line e s && is_short fixed n e s) ≡ true
    row same short = and_from (on_one_line e s) (is_short fixed n e s) (or_right (file e == file s) (rank e == rank s) (eq-eqb (rank e) (rank s) same)) short

-- along a diagonal
abbrev pub on_diagonals : List Bool → ℕ → ℕ → ℕ → Bool
on_diagonals fixed n e s = four (reaches (heading Falls Falls) fixed n e s) (reaches (heading Falls Rises) fixed n e s) (reaches (heading Rises Falls) fixed n e s) (reaches (heading Rises Rises) fixed n e s)

far-by : (e s n : ℕ) → king_distance e s ≡ n → files_apart e s ≡ ranks_apart e s → (distance (file e) (file s) ≡ n) × (distance (rank e) (rank s) ≡ n)
unfolding king_distance
far-by e s n far even = (omega arith, omega arith)

apart-up : (x y n : ℕ) → distance x y ≡ n → x ≤ y → x + n ≡ y
unfolding distance
apart-up x y n h up = omega arith

apart-down : (x y n : ℕ) → distance x y ≡ n → y ≤ x → x ≡ y + n
unfolding distance
apart-down x y n h down = omega arith

pub diagonal-reached : (fixed : List Bool) (n e s : ℕ) → e < 64 → s < 64 → on_diagonals fixed n e s ≡ goes_diagonally fixed n e s
unfolding goes_diagonally
diagonal-reached fixed n e s low inside =
    let a : Bool = reaches (heading Falls Falls) fixed n e s in
    let b : Bool = reaches (heading Falls Rises) fixed n e s in
    let c : Bool = reaches (heading Rises Falls) fixed n e s in
    let d : Bool = reaches (heading Rises Rises) fixed n e s in
    same_truth _ _
    (λ h. elim (or_cases (a || b) (c || d) h) [
      | inl first ↦ elim (or_cases a b first) [
        | inl way ↦ let w : Way (heading Falls Falls) fixed n e s = reach-told (heading Falls Falls) fixed n e s low way in told (heading Falls Falls) w (away-above (file e) (file s) w.steps w.files) (away-above (rank e) (rank s) w.steps w.ranks)
        | inr way ↦ let w : Way (heading Falls Rises) fixed n e s = reach-told (heading Falls Rises) fixed n e s low way in told (heading Falls Rises) w (away-below (file e) (file s) w.steps w.files) (away-above (rank e) (rank s) w.steps w.ranks)
      ]
      | inr second ↦ elim (or_cases c d second) [
        | inl way ↦ let w : Way (heading Rises Falls) fixed n e s = reach-told (heading Rises Falls) fixed n e s low way in told (heading Rises Falls) w (away-above (file e) (file s) w.steps w.files) (away-below (rank e) (rank s) w.steps w.ranks)
        | inr way ↦ let w : Way (heading Rises Rises) fixed n e s = reach-told (heading Rises Rises) fixed n e s low way in told (heading Rises Rises) w (away-below (file e) (file s) w.steps w.files) (away-below (rank e) (rank s) w.steps w.ranks)
      ]
    ])
    (λ h.
    let parts = and_parts (on_one_diagonal e s) (is_short fixed n e s) h in
    let short : Short fixed n e s = short-told fixed n e s parts.1 in
    let far = far-by e s (king_distance e s) refl (eqb-true (files_apart e s) (ranks_apart e s) parts.0) in
    elim (cases_lt (rank e) (rank s)) [
      | inl up ↦ elim (cases_lt (file e) (file s)) [
        | inl right ↦ four-4 a b c d (short-reaches (heading Rises Rises) fixed n e s low inside short (apart-up (rank e) (rank s) (king_distance e s) far.1 (omega arith)) (apart-up (file e) (file s) (king_distance e s) far.0 (omega arith)))
        | inr left ↦ four-3 a b c d (short-reaches (heading Rises Falls) fixed n e s low inside short (apart-up (rank e) (rank s) (king_distance e s) far.1 (omega arith)) (apart-down (file e) (file s) (king_distance e s) far.0 left))
      ]
      | inr down ↦ elim (cases_lt (file e) (file s)) [
        | inl right ↦ four-2 a b c d (short-reaches (heading Falls Rises) fixed n e s low inside short (apart-down (rank e) (rank s) (king_distance e s) far.1 down) (apart-up (file e) (file s) (king_distance e s) far.0 (omega arith)))
        | inr left ↦ four-1 a b c d (short-reaches (heading Falls Falls) fixed n e s low inside short (apart-down (rank e) (rank s) (king_distance e s) far.1 down) (apart-down (file e) (file s) (king_distance e s) far.0 left))
      ]
    ])
  where
    told : (x : Direction) (w : Way x fixed n e s) → distance (file e) (file s) ≡ w.steps → distance (rank e) (rank s) ≡ w.steps → (on_one_diagonal e s && is_short fixed n e s) ≡ true
    told x w f r = and_from (on_one_diagonal e s) (is_short fixed n e s) (eq-eqb (files_apart e s) (ranks_apart e s) (f ∙ sym r)) (way-short x fixed n e s w (far-both e s w.steps f r))
