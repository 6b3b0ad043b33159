-- Steps of whole sets of squares, square by square.
use Rattle.std.proofs.Common.{◌≡◌, ℕ, zero, suc, ◌+◌, ◌-◌, ◌*◌, ◌/◌, ◌%◌, ◌^◌, ◌<◌, ◌==◌, inl, inr, Bool, true, false, ◌&&◌, ◌||◌, not, List, refl, ap, sym, ◌∙◌, arith, bit_and}
use Rattle.std.proofs.lemmas.Bool.{agree_below_at, and_from, and_left, and_parts, both_ways, cases_Bool, cases_lt, eq-eqb, eqb-true, le-ltb, lt-ltb, ltb-true, or_cases, or_left, or_right}
use Rattle.std.proofs.lemmas.Nat.Bits.{bit_at_above, bit_at_cat_low, bit_at-zero}
use Rattle.std.specs.Int.{bit_at}
use Rattle.std.specs.Prelude.{nat_lt}
use Rattle.std.specs.List.{list_any, range_with_len}
use Rattle.general_lemmas.proofs.Ranges.{any-found}
use Rattle.general_lemmas.proofs.Truth.{same_truth}
use Rattle.board_base.specs.Board.{file, is_in, rank}
use Rattle.board_base.specs.Squares.{squares_of}
use Rattle.board_base.specs.SquareNumbers.{is_in-squares_of}
use Rattle.board_base.specs.Ways.{along, changed}
use Rattle.board_base.specs.declared.lines.Change.TheVariants.{Falls, Stays, Rises}
use Rattle.board_base.specs.declared.lines.Direction.{Direction}
use Rattle.figures.proofs.Filling.{none-in-zero}
use Rattle.figures.proofs.SetAlgebra.{bit-and}
use Rattle.figures.proofs.Tested.{any-told}
use Rattle.sketch_sets.specs.Shifts.{comes, comes_by, file_comes, has_step, lands, rank_comes, reaches, stays_on}
use Rattle.sketch_sets.specs.Tests.{some_that}
use Rattle.sketch_sets.proofs.Rays.{changed-low, next-square}
use Rattle.sketch_sets.proofs.Sets.{any-same}
use Rattle.figures.proofs.Rays.{file-of, rank-of}
use Rattle.figures.proofs.Shifts.{guarded, shifted-left, shifted-right}

shifted-none : (n k s : ℕ) → s < k → s < 64 → bit_at (n * 2 ^ k % 2 ^ 64) s ≡ 0
shifted-none n k s low high =
    let m : ℕ = n * 2 ^ k in
    let whole : m / 2 ^ 64 * 2 ^ 64 + m % 2 ^ 64 ≡ m + 0 = omega arith in
    sym (bit_at_cat_low (m / 2 ^ 64) 64 (m % 2 ^ 64) s high) ∙ ap (λ (x : ℕ). bit_at x s) whole ∙ bit_at_cat_low n k 0 s low ∙ bit_at-zero s

past-a : (e : ℕ) → e < 64 → (bit_at 18374403900871474942 e == 1) ≡ nat_lt 0 (file e)
past-a e low = agree_below_at (λ i. bit_at 18374403900871474942 i == 1) (λ i. nat_lt 0 (file i)) 64 e refl low

before-h : (e : ℕ) → e < 64 → (bit_at 9187201950435737471 e == 1) ≡ nat_lt (file e) 7
before-h e low = agree_below_at (λ i. bit_at 9187201950435737471 i == 1) (λ i. nat_lt (file i) 7) 64 e refl low

pub files-fall : (bits e : ℕ) → e < 64 → is_in (squares_of (bit_and (bits * 2 ^ 1 % 2 ^ 64) 18374403900871474942)) e ≡ file_comes Falls (squares_of bits) e
unfolding file_comes
files-fall bits e low =
    is_in-squares_of (bit_and (bits * 2 ^ 1 % 2 ^ 64) 18374403900871474942) e low
    ∙ bit-and (bits * 2 ^ 1 % 2 ^ 64) 18374403900871474942 e
    ∙ guarded (bit_at (bits * 2 ^ 1 % 2 ^ 64) e == 1) (bit_at 18374403900871474942 e == 1) (nat_lt 0 (file e)) (is_in (squares_of bits) (8 * rank e + (file e - 1))) (past-a e low) (λ far.
    let on : 0 < file e = ltb-true 0 (file e) far in
    let same : 8 * rank e + (file e - 1) ≡ e - 1 = omega arith in
    ap (λ (b : ℕ). b == 1) (shifted-left bits 1 e (omega arith) low) ∙ sym (is_in-squares_of bits (e - 1) (omega arith)) ∙ ap (is_in (squares_of bits)) (sym same))

pub files-rise : (bits e : ℕ) → e < 64 → is_in (squares_of (bit_and (bits / 2 ^ 1) 9187201950435737471)) e ≡ file_comes Rises (squares_of bits) e
unfolding file_comes
files-rise bits e low =
    is_in-squares_of (bit_and (bits / 2 ^ 1) 9187201950435737471) e low
    ∙ bit-and (bits / 2 ^ 1) 9187201950435737471 e
    ∙ guarded (bit_at (bits / 2 ^ 1) e == 1) (bit_at 9187201950435737471 e == 1) (nat_lt (file e) 7) (is_in (squares_of bits) (8 * rank e + (file e + 1))) (before-h e low) (λ far.
    let on : file e < 7 = ltb-true (file e) 7 far in
    let same : 8 * rank e + (file e + 1) ≡ e + 1 = omega arith in
    ap (λ (b : ℕ). b == 1) (shifted-right bits 1 e) ∙ sym (is_in-squares_of bits (e + 1) (omega arith)) ∙ ap (is_in (squares_of bits)) (sym same))

pub files-stay : (set : List Bool) (e : ℕ) → is_in set e ≡ file_comes Stays set e
unfolding file_comes
files-stay set e = ap (is_in set) (let same : e ≡ 8 * rank e + file e = omega arith in same)

pub ranks-fall : (bits e : ℕ) → e < 64 → is_in (squares_of (bits * 2 ^ 8 % 2 ^ 64)) e ≡ rank_comes Falls (squares_of bits) e
unfolding rank_comes
ranks-fall bits e low = is_in-squares_of (bits * 2 ^ 8 % 2 ^ 64) e low ∙ elim (cases_lt e 8) [
  | inl first ↦ ap (λ (b : ℕ). b == 1) (shifted-none bits 8 e first low) ∙ sym (and_left (nat_lt 0 (rank e)) (is_in (squares_of bits) (8 * (rank e - 1) + file e)) (le-ltb 0 (rank e) (omega arith)))
  | inr past ↦
      let same : 8 * (rank e - 1) + file e ≡ e - 8 = omega arith in
      ap (λ (b : ℕ). b == 1) (shifted-left bits 8 e past low) ∙ sym (is_in-squares_of bits (e - 8) (omega arith)) ∙ ap (is_in (squares_of bits)) (sym same)
      ∙ sym (ap (λ (x : Bool). x && is_in (squares_of bits) (8 * (rank e - 1) + file e)) (lt-ltb 0 (rank e) (omega arith)))
]

pub ranks-rise : (bits e : ℕ) → bits < 2 ^ 64 → e < 64 → is_in (squares_of (bits / 2 ^ 8)) e ≡ rank_comes Rises (squares_of bits) e
unfolding rank_comes
ranks-rise bits e fits low = is_in-squares_of (bits / 2 ^ 8) e low ∙ ap (λ (b : ℕ). b == 1) (shifted-right bits 8 e) ∙ elim (cases_lt (rank e) 7) [
  | inl on ↦
      let same : 8 * (rank e + 1) + file e ≡ e + 8 = omega arith in
      sym (is_in-squares_of bits (e + 8) (omega arith)) ∙ ap (is_in (squares_of bits)) (sym same) ∙ sym (ap (λ (x : Bool). x && is_in (squares_of bits) (8 * (rank e + 1) + file e)) (lt-ltb (rank e) 7 on))
  | inr past ↦ ap (λ (b : ℕ). b == 1) (bit_at_above bits 64 (e + 8) fits (omega arith)) ∙ sym (and_left (nat_lt (rank e) 7) (is_in (squares_of bits) (8 * (rank e + 1) + file e)) (le-ltb (rank e) 7 past))
]

pub ranks-stay : (set : List Bool) (e : ℕ) → is_in set e ≡ rank_comes Stays set e
unfolding rank_comes
ranks-stay set e = ap (is_in set) (let same : e ≡ 8 * rank e + file e = omega arith in same)

joined : (a b c : Bool) → (a && (b && c)) ≡ ((a && b) && c)
joined true b c = refl
joined false b c = refl

pub both-steps : (d : Direction) (set mid : List Bool) (e : ℕ) → e < 64 → ((t : ℕ) → t < 64 → is_in mid t ≡ file_comes d.files set t) → rank_comes d.ranks mid e ≡ comes d set e
unfolding rank_comes comes file_comes
both-steps d set mid e low each = elim (cases_Bool (has_step d.ranks (rank e))) [
  | inl on ↦
      let r : changed d.ranks (rank e) 1 < 8 = changed-low d.ranks (rank e) (omega arith) on in
      let f : file e < 8 = omega arith in
      let t : ℕ = 8 * changed d.ranks (rank e) 1 + file e in
      ap (λ (x : Bool). has_step d.ranks (rank e) && x) (each t (omega arith)
      ∙ ap (λ (n : ℕ). has_step d.files n && is_in set (8 * rank t + changed d.files n 1)) (file-of (changed d.ranks (rank e) 1) (file e) f)
      ∙ ap (λ (n : ℕ). has_step d.files (file e) && is_in set (8 * n + changed d.files (file e) 1)) (rank-of (changed d.ranks (rank e) 1) (file e) f))
      ∙ joined (has_step d.ranks (rank e)) (has_step d.files (file e)) (is_in set (along d e 1))
  | inr off ↦ and_left (has_step d.ranks (rank e)) (is_in mid (8 * changed d.ranks (rank e) 1 + file e)) off ∙ sym (and_left (stays_on d e) (is_in set (along d e 1)) (and_left (has_step d.ranks (rank e)) (has_step d.files (file e)) off))
]

-- some square of a set
pub some-same : (set : List Bool) (p r : ℕ → Bool) → ((s : ℕ) → s < 64 → p s ≡ r s) → some_that set p ≡ some_that set r
unfolding some_that
some-same set p r same = any-same (λ s. is_in set s && p s) (λ s. is_in set s && r s) 0 64 (λ s inside. ap (λ (x : Bool). is_in set s && x) (same s (omega arith)))

pub some-or : (set : List Bool) (p r : ℕ → Bool) → (some_that set p || some_that set r) ≡ some_that set (λ s. p s || r s)
unfolding some_that
some-or set p r = same_truth _ _
    (λ h. elim (or_cases (list_any (λ s. is_in set s && p s) (range_with_len 0 64)) (list_any (λ s. is_in set s && r s) (range_with_len 0 64)) h) [
      | inl first ↦
          let it = any-told (λ s. is_in set s && p s) 0 64 first in
          let parts = and_parts (is_in set it.0) (p it.0) it.2 in
          any-found (λ s. is_in set s && (p s || r s)) 0 64 it.0 (omega arith) it.1 (and_from _ _ parts.0 (or_left (p it.0) (r it.0) parts.1))
      | inr second ↦
          let it = any-told (λ s. is_in set s && r s) 0 64 second in
          let parts = and_parts (is_in set it.0) (r it.0) it.2 in
          any-found (λ s. is_in set s && (p s || r s)) 0 64 it.0 (omega arith) it.1 (and_from _ _ parts.0 (or_right (p it.0) (r it.0) parts.1))
    ])
    (λ h.
    let it = any-told (λ s. is_in set s && (p s || r s)) 0 64 h in
    let parts = and_parts (is_in set it.0) (p it.0 || r it.0) it.2 in
    elim (or_cases (p it.0) (r it.0) parts.1) [
      | inl first ↦ or_left (list_any (λ s. is_in set s && p s) (range_with_len 0 64)) (list_any (λ s. is_in set s && r s) (range_with_len 0 64)) (any-found (λ s. is_in set s && p s) 0 64 it.0 (omega arith) it.1 (and_from _ _ parts.0 first))
      | inr second ↦ or_right (list_any (λ s. is_in set s && p s) (range_with_len 0 64)) (list_any (λ s. is_in set s && r s) (range_with_len 0 64)) (any-found (λ s. is_in set s && r s) 0 64 it.0 (omega arith) it.1 (and_from _ _ parts.0 second))
    ])

pub some-four : (to : List Bool) (a b c d : ℕ → Bool) {x y z w : Bool} → x ≡ some_that to a → y ≡ some_that to b → z ≡ some_that to c → w ≡ some_that to d → ((x || y) || (z || w)) ≡ some_that to (λ s. (a s || b s) || (c s || d s))
some-four to a b c d {x} {y} {z} {w} ea eb ec ed =
    four-same x y z w (some_that to a) (some_that to b) (some_that to c) (some_that to d) ea eb ec ed
    ∙ ap (λ (v : Bool). v || (some_that to c || some_that to d)) (some-or to a b) ∙ ap (λ (v : Bool). some_that to (λ s. a s || b s) || v) (some-or to c d)
    ∙ some-or to (λ s. a s || b s) (λ s. c s || d s)
  where
    four-same : (x y z w x' y' z' w' : Bool) → x ≡ x' → y ≡ y' → z ≡ z' → w ≡ w' → ((x || y) || (z || w)) ≡ ((x' || y') || (z' || w'))
    four-same x y z w x' y' z' w' p q r t = cc

some-none : (set : List Bool) → some_that set (λ s. false) ≡ false
unfolding some_that
some-none set = same_truth _ _ (λ h. let it = any-told (λ s. is_in set s && false) 0 64 h in (and_parts (is_in set it.0) false it.2).1) (λ h. absurd (both_ways false refl h))

pub some-and : (set : List Bool) (b : Bool) (p : ℕ → Bool) → (b && some_that set p) ≡ some_that set (λ s. b && p s)
some-and set true p = refl
some-and set false p = sym (some-none set)

pub some-at : (set : List Bool) (t : ℕ) → t < 64 → is_in set t ≡ some_that set (λ s. t == s)
unfolding some_that
some-at set t low = same_truth _ _
    (λ h. any-found (λ s. is_in set s && (t == s)) 0 64 t (omega arith) low (and_from _ _ h (eq-eqb t t refl)))
    (λ h.
    let it = any-told (λ s. is_in set s && (t == s)) 0 64 h in
    let parts = and_parts (is_in set it.0) (t == it.0) it.2 in
    ap (is_in set) (eqb-true t it.0 parts.1) ∙ parts.0)

-- some square of a set that passes another test
pub some-of : (set of : List Bool) (b p : ℕ → Bool) → ((s : ℕ) → s < 64 → is_in set s ≡ (is_in of s && b s)) → some_that set p ≡ some_that of (λ s. b s && p s)
unfolding some_that
some-of set of b p each = any-same (λ s. is_in set s && p s) (λ s. is_in of s && (b s && p s)) 0 64 (λ s inside. ap (λ (x : Bool). x && p s) (each s (omega arith)) ∙ sym (joined (is_in of s) (b s) (p s)))

-- what holds only where a test does
pub under : (b x y : Bool) → (b ≡ true → x ≡ y) → (b && x) ≡ (b && y)
under true x y h = h refl
under false x y h = refl

pub comes-lands : (d : Direction) (set : List Bool) (e : ℕ) → e < 64 → comes d set e ≡ some_that set (lands d e)
unfolding comes
comes-lands d set e low =
    under (stays_on d e) (is_in set (along d e 1)) (some_that set (λ s. along d e 1 == s)) (λ on. some-at set (along d e 1) (next-square d e low on).low)
    ∙ some-and set (stays_on d e) (λ s. along d e 1 == s)

turned-and : (x y : Bool) → (x && y) ≡ (y && x)
turned-and true true = refl
turned-and true false = refl
turned-and false true = refl
turned-and false false = refl

-- a ray reaches the squares from which some square of the set is reached
pub ray-reaches : (d : Direction) (to fixed : List Bool) (n e : ℕ) → e < 64 → comes_by d to fixed n e ≡ some_that to (reaches d fixed n e)
unfolding comes_by reaches
ray-reaches d to fixed zero e low = sym (some-none to)
ray-reaches d to fixed (suc n) e low =
    let t : ℕ = along d e 1 in
    under (stays_on d e) (is_in to t || (comes_by d to fixed n t && not (is_in fixed t))) (some_that to (λ s. (t == s) || (reaches d fixed n t s && not (is_in fixed t)))) (λ on.
    let next : t < 64 = (next-square d e low on).low in
    let later : (comes_by d to fixed n t && not (is_in fixed t)) ≡ some_that to (λ s. reaches d fixed n t s && not (is_in fixed t)) =
    turned-and (comes_by d to fixed n t) (not (is_in fixed t)) ∙ ap (λ (x : Bool). not (is_in fixed t) && x) (ray-reaches d to fixed n t next)
    ∙ some-and to (not (is_in fixed t)) (reaches d fixed n t) ∙ some-same to (λ s. not (is_in fixed t) && reaches d fixed n t s) (λ s. reaches d fixed n t s && not (is_in fixed t)) (λ s inside. turned-and (not (is_in fixed t)) (reaches d fixed n t s)) in
    ap (λ (x : Bool). x || (comes_by d to fixed n t && not (is_in fixed t))) (some-at to t next) ∙ ap (λ (x : Bool). some_that to (λ s. t == s) || x) later
    ∙ some-or to (λ s. t == s) (λ s. reaches d fixed n t s && not (is_in fixed t)))
    ∙ some-and to (stays_on d e) (λ s. (t == s) || (reaches d fixed n t s && not (is_in fixed t)))

-- a round of the loop that follows a ray
pub ray-none : (d : Direction) (to fixed : List Bool) (e : ℕ) → is_in (squares_of 0) e ≡ comes_by d to fixed 0 e
unfolding comes_by
ray-none d to fixed e = none-in-zero e

pub ray-more : (d : Direction) (to fixed more : List Bool) (n e : ℕ) → e < 64 → ((t : ℕ) → t < 64 → is_in more t ≡ (is_in to t || (comes_by d to fixed n t && not (is_in fixed t)))) → comes d more e ≡ comes_by d to fixed (suc n) e
unfolding comes comes_by
ray-more d to fixed more n e low each = under (stays_on d e) (is_in more (along d e 1)) (is_in to (along d e 1) || (comes_by d to fixed n (along d e 1) && not (is_in fixed (along d e 1)))) (λ on. each (along d e 1) (next-square d e low on).low)
