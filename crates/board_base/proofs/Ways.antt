-- The squares along a line, by their distance.
use Rattle.std.proofs.Common.{◌≡◌, ◌≢◌, ℕ, ◌+◌, ◌-◌, ◌*◌, ◌<◌, ◌≤◌, ◌==◌, ◌⊎◌, max, Bool, true, false, cond, ◌&&◌, ◌||◌, not, inl, inr, refl, ap, sym, ◌∙◌, subst, arith}
use Rattle.std.proofs.lemmas.Bool.{and_parts, or_cases, cases_lt, cond-true, cond-false, eqb-true, lt-ltb, both_ways, not-true, ltb-true, or_left, or_right, eqb-false, eq-eqb, false_from_ne_true}
use Rattle.std.specs.Prelude.{nat_lt}
use Rattle.std.specs.List.{list_all, range_with_len}
use Rattle.general_lemmas.proofs.Ranges.{all-each, all_in_range}
use Rattle.board_base.specs.Board.{Places, at, file, is_empty, rank}
use Rattle.board_base.specs.Attacks.{distance, files_apart, is_open, king_distance, on_one_diagonal, on_one_line, on_the_way, ranks_apart, toward}
use Rattle.board_base.specs.declared.lines.Change.{Change}
use Rattle.board_base.specs.declared.lines.Change.TheVariants.{Falls, Stays, Rises}
use Rattle.board_base.specs.declared.lines.Direction.{Direction}
use Rattle.board_base.specs.Ways.{IsOff, along, changed}
use Rattle.board_base.specs.Growth.{fall, rise}
use Rattle.board_base.specs.LinesThrough.{LiesAlong, change}

by_tests : (up down : Bool) (a k : ℕ) → cond up (a + k) (cond down (a - k) a) ≡ changed (cond up Rises (cond down Falls Stays)) a k
by_tests true down a k = refl
by_tests false true a k = refl
by_tests false false a k = refl

toward-changed : (a b k : ℕ) → toward a b k ≡ changed (change a b) a k
unfolding toward
toward-changed a b k = by_tests _ _ a k

-- the way to a square is a direction's
on_the_way-along : (d : Direction) (s t k : ℕ) → LiesAlong d s t → on_the_way s t k ≡ along d s k
unfolding on_the_way
on_the_way-along d s t k lies = rw (toward-changed (rank s) (rank t) k, toward-changed (file s) (file t) k, lies.ranks, lies.files) refl

-- a rank or a file changes at each of n steps, or at none
Steady : ℕ → ℕ → ℕ → Type 0
Steady a b n = (distance a b ≡ n) ⊎ (a ≡ b)

record Steadies (s t : ℕ) : Type 0 where
  ranks : Steady (rank s) (rank t) (king_distance s t)
  files : Steady (file s) (file t) (king_distance s t)

pub zero-apart : (a b : ℕ) → a ≡ b → distance a b ≡ 0
unfolding distance
zero-apart a b e = omega arith

steadies : (s t : ℕ) → (on_one_line s t || on_one_diagonal s t) ≡ true → Steadies s t
unfolding Steady king_distance
steadies s t line = elim (or_cases _ _ line) [
  | inr diagonal ↦
      let e : files_apart s t ≡ ranks_apart s t = eqb-true _ _ diagonal in
      record { ranks = inl (omega arith); files = inl (omega arith) }
  | inl straight ↦ elim (or_cases _ _ straight) [
    | inl same ↦
        let e : file s ≡ file t = eqb-true _ _ same in
        let none : files_apart s t ≡ 0 = zero-apart _ _ e in
        record { ranks = inl (omega arith); files = inr e }
    | inr same ↦
        let e : rank s ≡ rank t = eqb-true _ _ same in
        let none : ranks_apart s t ≡ 0 = zero-apart _ _ e in
        record { ranks = inr e; files = inl (omega arith) }
  ]
]

-- after all steps a rank or a file has come to its end
toward-end : (a b n : ℕ) → Steady a b n → toward a b n ≡ b
unfolding Steady toward distance
toward-end a b n (inl far) = elim (cases_lt a b) [
  | inl up ↦ cond-true _ (a + n) _ (lt-ltb _ _ up) ∙ omega arith
  | inr not_up ↦ grind arith
]
toward-end a b n (inr same) = grind arith

-- at the distance of a square on a line stands that square
pub along-end : (d : Direction) (s t : ℕ) → LiesAlong d s t → along d s (king_distance s t) ≡ t
unfolding on_the_way
along-end d s t lies =
    let both = steadies s t lies.line in
    sym (on_the_way-along d s t (king_distance s t) lies)
    ∙ (let r = toward-end _ _ _ both.ranks in let f = toward-end _ _ _ both.files in
    ap (λ (n : ℕ). 8 * n + toward (file s) (file t) (king_distance s t)) r ∙ ap (λ (n : ℕ). 8 * rank t + n) f ∙ omega arith)

off-tests : (up down : Bool) (a k : ℕ) (c : Change) → cond up Rises (cond down Falls Stays) ≡ c → IsOff c a k → ((up ≡ true) × (8 ≤ a + k)) ⊎ ((down ≡ true) × (a < k))
off-tests true down a k c e off = inl (refl, subst (λ (x : Change). IsOff x a k) (sym e) off)
off-tests false true a k c e off = inr (refl, subst (λ (x : Change). IsOff x a k) (sym e) off)
off-tests false false a k c e off = absurd (subst (λ (x : Change). IsOff x a k) (sym e) off)

is-off : (a b n k : ℕ) (c : Change) → change a b ≡ c → Steady a b n → b < 8 → k ≤ n → IsOff c a k → ⊥
unfolding Steady distance
is-off a b n k c e (inl far) inside few off = elim (off-tests _ _ a k c e off) [
  | inl up ↦ let low : a < b = ltb-true _ _ up.0 in let past = up.1 in omega arith
  | inr down ↦ let low : b < a = ltb-true _ _ down.0 in let past = down.1 in omega arith
]
is-off a b n k c e (inr same) inside few off = elim (off-tests _ _ a k c e off) [
  | inl up ↦ let low : a < b = ltb-true _ _ up.0 in omega arith
  | inr down ↦ let low : b < a = ltb-true _ _ down.0 in omega arith
]

-- no square on the way to a square is off the board
pub on-board : (d : Direction) (s t k : ℕ) → t < 64 → LiesAlong d s t → k ≤ king_distance s t → (IsOff d.ranks (rank s) k ⊎ IsOff d.files (file s) k) → ⊥
on-board d s t k inside lies few (inl off) = is-off (rank s) (rank t) (king_distance s t) k d.ranks lies.ranks (steadies s t lies.line).ranks (omega arith) few off
on-board d s t k inside lies few (inr off) = is-off (file s) (file t) (king_distance s t) k d.files lies.files (steadies s t lies.line).files (omega arith) few off

next-changed : (c : Change) (a k : ℕ) → (IsOff c a (k + 1) → ⊥) → changed c a (k + 1) + fall c ≡ changed c a k + rise c
next-changed Falls a k on = elim (cases_lt a (k + 1)) [ inl off ↦ absurd (on off) | inr low ↦ omega arith ]
next-changed Stays a k on = refl
next-changed Rises a k on = omega arith

changed-low : (c : Change) (a k : ℕ) → a < 8 → (IsOff c a k → ⊥) → changed c a k < 8
changed-low Falls a k low on = omega arith
changed-low Stays a k low on = low
changed-low Rises a k low on = elim (cases_lt (a + k) 8) [ inl inside ↦ inside | inr off ↦ absurd (on (omega arith)) ]

still-on : (c : Change) (a j k : ℕ) → j ≤ k → (IsOff c a k → ⊥) → IsOff c a j → ⊥
still-on Falls a j k le on off = on (omega arith)
still-on Stays a j k le on off = off
still-on Rises a j k le on off = on (omega arith)

unmoved-at-none : (c : Change) (a : ℕ) → changed c a 0 ≡ a
unmoved-at-none Falls a = omega arith
unmoved-at-none Stays a = refl
unmoved-at-none Rises a = omega arith

pub along-none : (d : Direction) (s : ℕ) → along d s 0 ≡ s
along-none d s = let r = unmoved-at-none d.ranks (rank s) in let f = unmoved-at-none d.files (file s) in omega arith

-- the next square of a direction, by its number
pub record IsNext (d : Direction) (s k : ℕ) : Type 0 where
  pub number : along d s (k + 1) + (8 * fall d.ranks + fall d.files) ≡ along d s k + (8 * rise d.ranks + rise d.files)
  pub on_board : along d s (k + 1) < 64

pub is-next : (d : Direction) (s k n m : ℕ) → s < 64 → k < n → k < m → (IsOff d.ranks (rank s) n → ⊥) → (IsOff d.files (file s) m → ⊥) → IsNext d s k
is-next d s k n m small low inside ranks files =
    let r = still-on d.ranks (rank s) (k + 1) n (omega arith) ranks in
    let f = still-on d.files (file s) (k + 1) m (omega arith) files in
    let er = next-changed d.ranks (rank s) k r in
    let ef = next-changed d.files (file s) k f in
    let lr = changed-low d.ranks (rank s) (k + 1) (omega arith) r in
    let lf = changed-low d.files (file s) (k + 1) (omega arith) f in
    record { number = omega arith; on_board = omega arith }

-- on an open way each square is empty
open-empty : (board : Places) (d : Direction) (s t k : ℕ) → LiesAlong d s t → is_open board s t ≡ true → 1 ≤ k → k < king_distance s t → is_empty (at board (along d s k)) ≡ true
open-empty board d s t k lies clear low high =
    ap (λ (n : ℕ). is_empty (at board n)) (sym (on_the_way-along d s t k lies))
    ∙ all_in_range (λ i. is_empty (at board (on_the_way s t i))) 1 (king_distance s t - 1) k clear low (omega arith)

-- another square is a step away at least, and seven at most
pub distance-low : (s t : ℕ) → s ≢ t → 1 ≤ king_distance s t
unfolding king_distance distance
distance-low s t apart = elim (cases_lt 0 (max (files_apart s t) (ranks_apart s t))) [
  | inl far ↦ omega arith
  | inr none ↦ absurd (apart (omega arith))
]

pub distance-high : (s t : ℕ) → s < 64 → t < 64 → king_distance s t < 8
unfolding king_distance distance
distance-high s t a b = omega arith

-- past a man no line is open
pub blocked : (board : Places) (d : Direction) (s k t : ℕ) → 1 ≤ k → is_empty (at board (along d s k)) ≡ false → LiesAlong d s t → is_open board s t ≡ true → king_distance s t < k + 1
blocked board d s k t low full lies clear = elim (cases_lt k (king_distance s t)) [
  | inl past ↦ absurd (both_ways _ full (open-empty board d s t k lies clear low past))
  | inr near ↦ omega arith
]

rises : (a b : ℕ) → a < b → change a b ≡ Rises
rises a b up = cond-true _ Rises _ (lt-ltb _ _ up)

falls : (a b : ℕ) → b < a → change a b ≡ Falls
falls a b down = let not_up : nat_lt a b ≡ false = false_from_ne_true _ (λ up. let wrong : a < b = ltb-true _ _ up in omega arith) in cond-false _ Rises _ not_up ∙ cond-true _ Falls Stays (lt-ltb _ _ down)

abbrev pub heading : Change → Change → Direction
heading r f = record { ranks = r; files = f }

-- another square on a diagonal lies in one of four directions
pub diagonal : (s t : ℕ) → (not (s == t) && on_one_diagonal s t) ≡ true → (LiesAlong (heading Falls Falls) s t ⊎ LiesAlong (heading Falls Rises) s t) ⊎ (LiesAlong (heading Rises Falls) s t ⊎ LiesAlong (heading Rises Rises) s t)
unfolding distance
diagonal s t h =
    let parts = and_parts _ _ h in
    let apart : s ≢ t = eqb-false s t (not-true _ parts.0) in
    let even : files_apart s t ≡ ranks_apart s t = eqb-true _ _ parts.1 in
    let line : (on_one_line s t || on_one_diagonal s t) ≡ true = or_right (on_one_line s t) (on_one_diagonal s t) parts.1 in
    elim (cases_lt (rank s) (rank t)) [
      | inl up ↦ elim (cases_lt (file s) (file t)) [
        | inl right ↦ inr (inr (record { ranks = rises _ _ up; files = rises _ _ right; line = line; apart = apart }))
        | inr not_right ↦ inr (inl (record { ranks = rises _ _ up; files = falls (file s) (file t) (omega arith); line = line; apart = apart }))
      ]
      | inr not_up ↦
          let down : rank t < rank s = omega arith in
          elim (cases_lt (file s) (file t)) [
            | inl right ↦ inl (inr (record { ranks = falls _ _ down; files = rises _ _ right; line = line; apart = apart }))
            | inr not_right ↦ inl (inl (record { ranks = falls _ _ down; files = falls (file s) (file t) (omega arith); line = line; apart = apart }))
          ]
    ]

pub toward-up : (a b k : ℕ) → a < b → toward a b k ≡ a + k
unfolding toward
toward-up a b k up = cond-true _ (a + k) _ (lt-ltb _ _ up)

not-less : (a b : ℕ) → b ≤ a → nat_lt a b ≡ false
not-less a b le = false_from_ne_true _ (λ up. let wrong : a < b = ltb-true _ _ up in omega arith)

pub toward-down : (a b k : ℕ) → b < a → toward a b k ≡ a - k
unfolding toward
toward-down a b k down = cond-false _ (a + k) _ (not-less a b (omega arith)) ∙ cond-true _ (a - k) a (lt-ltb _ _ down)

pub toward-same : (a b k : ℕ) → a ≡ b → toward a b k ≡ a
unfolding toward
toward-same a b k e = cond-false _ (a + k) _ (not-less a b (omega arith)) ∙ cond-false _ (a - k) a (not-less b a (omega arith))

-- the way back is the way forth
toward-back : (a b n k : ℕ) → Steady a b n → k ≤ n → toward a b k ≡ toward b a (n - k)
unfolding Steady distance
toward-back a b n k (inr same) le = toward-same a b k same ∙ same ∙ sym (toward-same b a (n - k) (sym same))
toward-back a b n k (inl far) le = elim (cases_lt a b) [
  | inl up ↦ toward-up a b k up ∙ (let e : a + k ≡ b - (n - k) = omega arith in e) ∙ sym (toward-down b a (n - k) up)
  | inr not_up ↦ elim (cases_lt b a) [
    | inl down ↦ toward-down a b k down ∙ (let e : a - k ≡ b + (n - k) = omega arith in e) ∙ sym (toward-up b a (n - k) down)
    | inr not_down ↦
        let same : a ≡ b = omega arith in
        toward-same a b k same ∙ same ∙ sym (toward-same b a (n - k) (sym same))
  ]
]

pub distance-sym : (a b : ℕ) → distance a b ≡ distance b a
unfolding distance
distance-sym a b = omega arith

pub king_distance-sym : (s t : ℕ) → king_distance s t ≡ king_distance t s
unfolding king_distance
king_distance-sym s t = ap (λ (n : ℕ). max n (ranks_apart s t)) (distance-sym (file s) (file t)) ∙ ap (max (files_apart t s)) (distance-sym (rank s) (rank t))

pub line-back : (s t : ℕ) → on_one_line s t ≡ true → on_one_line t s ≡ true
line-back s t h = elim (or_cases _ _ h) [
  | inl same ↦ or_left _ _ (eq-eqb (file t) (file s) (sym (eqb-true _ _ same)))
  | inr same ↦ or_right _ _ (eq-eqb (rank t) (rank s) (sym (eqb-true _ _ same)))
]

pub diagonal-back : (s t : ℕ) → on_one_diagonal s t ≡ true → on_one_diagonal t s ≡ true
diagonal-back s t h = eq-eqb (files_apart t s) (ranks_apart t s) (distance-sym (file t) (file s) ∙ eqb-true _ _ h ∙ distance-sym (rank s) (rank t))

-- a line that is open from one end is open from the other
pub open-back : (board : Places) (s t : ℕ) → (on_one_line s t || on_one_diagonal s t) ≡ true → is_open board t s ≡ true → is_open board s t ≡ true
unfolding on_the_way
open-back board s t line clear =
    let both = steadies s t line in
    let d : king_distance t s ≡ king_distance s t = king_distance-sym t s in
    all-each (λ k. is_empty (at board (on_the_way s t k))) 1 (king_distance s t - 1) (λ i low high.
    let r : toward (rank s) (rank t) i ≡ toward (rank t) (rank s) (king_distance s t - i) = toward-back _ _ _ i both.ranks (omega arith) in
    let f : toward (file s) (file t) i ≡ toward (file t) (file s) (king_distance s t - i) = toward-back _ _ _ i both.files (omega arith) in
    ap (λ (n : ℕ). is_empty (at board (8 * n + toward (file s) (file t) i))) r
    ∙ ap (λ (n : ℕ). is_empty (at board (8 * toward (rank t) (rank s) (king_distance s t - i) + n))) f
    ∙ all_in_range (λ k. is_empty (at board (on_the_way t s k))) 1 (king_distance t s - 1) (king_distance s t - i) clear (omega arith) (omega arith))

-- next to a square the line is open
pub near-open : (board : Places) (s t : ℕ) → king_distance s t ≡ 1 → is_open board s t ≡ true
near-open board s t e = ap (λ (n : ℕ). list_all (λ k. is_empty (at board (on_the_way s t k))) (range_with_len 1 (n - 1))) e
