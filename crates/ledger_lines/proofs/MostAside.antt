-- How often a pawn captures on its way at most.
use Rattle.std.proofs.Common.{◌≡◌, ◌⊎◌, ℕ, ◌+◌, ◌-◌, ◌*◌, ◌%◌, ◌≤◌, ◌<◌, ◌==◌, suc, inl, inr, Bool, true, List, [], ◌∷◌, length, ap, arith}
use Rattle.std.specs.Prelude.{◌&&◌, nat_lt}
use Rattle.std.proofs.lemmas.Bool.{and_parts, cases_Bool, cond-false, cond-true, eqb-true, eqb-false, ltb-false, ltb-true}
use Rattle.board_base.specs.Attacks.{distance, files_apart, one_ahead, ranks_apart}
use Rattle.board_base.specs.Board.{file, rank}
use Rattle.board_base.specs.declared.men.Colour.{Colour}
use Rattle.board_base.specs.declared.men.Colour.TheVariants.{White, Black}
use Rattle.men_fates.specs.Ways.{captures_on, is_pawn_step, is_way, way_end}
use Rattle.ledger_lines.specs.Known.{most_aside}

-- n ranks lie between the squares, as a pawn of this side goes
abbrev pub Ahead : Colour → ℕ → ℕ → ℕ → Type 0
Ahead White s t n = rank t ≡ rank s + n
Ahead Black s t n = rank s ≡ rank t + n

ahead-none : (c : Colour) (s : ℕ) → Ahead c s s 0
ahead-none White s = omega arith
ahead-none Black s = omega arith

ahead-one : (c : Colour) (s t : ℕ) → one_ahead c s t ≡ true → Ahead c s t 1
ahead-one White s t h = eqb-true (rank t) (rank s + 1) h
ahead-one Black s t h = eqb-true (rank s) (rank t + 1) h

ahead-more : (c : Colour) (s t e n : ℕ) → Ahead c s t 1 → Ahead c t e n → Ahead c s e (suc n)
ahead-more White s t e n one more = omega (arith, one, more)
ahead-more Black s t e n one more = omega (arith, one, more)

pub ahead-ranks : (c : Colour) (s e n : ℕ) → Ahead c s e n → ranks_apart s e ≡ n
unfolding distance
ahead-ranks White s e n gone = omega (arith, gone)
ahead-ranks Black s e n gone = omega (arith, gone)

-- what a step is
pub record Step (c : Colour) (s t : ℕ) : Type 0 where
  pub ahead : Ahead c s t 1
  pub near : distance (file s) (file t) < 2

pub a-step : (c : Colour) (set : List Bool) (s t : ℕ) → is_pawn_step c set s t ≡ true → Step c s t
a-step c set s t step =
    let a = and_parts (one_ahead c s t && nat_lt (files_apart s t) 2 && nat_lt t 64) _ step in
    let b = and_parts (one_ahead c s t && nat_lt (files_apart s t) 2) (nat_lt t 64) a.0 in
    let d = and_parts (one_ahead c s t) (nat_lt (files_apart s t) 2) b.0 in
    record { ahead = ahead-one c s t d.0; near = ltb-true (files_apart s t) 2 d.1 }

-- a way has as many squares as it goes ranks
pub gone-ahead : (c : Colour) (set : List Bool) (s : ℕ) (way : List ℕ) → is_way c set s way ≡ true → Ahead c s (way_end s way) (length way)
gone-ahead c set s [] is = ahead-none c s
gone-ahead c set s (t ∷ way) is =
    let parts = and_parts (is_pawn_step c set s t) (is_way c set t way) is in
    ahead-more c s t (way_end t way) (length way) (a-step c set s t parts.0).ahead (gone-ahead c set t way parts.1)

-- how many captures there are with one step more, and whether it goes to another file
pub captures-more : (s t : ℕ) (way : List ℕ) → ((file s ≡ file t) × (captures_on s (t ∷ way) ≡ captures_on t way)) ⊎ ((file s ≡ file t → ⊥) × (captures_on s (t ∷ way) ≡ t ∷ captures_on t way))
captures-more s t way = elim (cases_Bool (file s == file t)) [
  | inl same ↦ inl (eqb-true (file s) (file t) same, cond-true (file s == file t) (captures_on t way) (t ∷ captures_on t way) same)
  | inr other ↦ inr (eqb-false (file s) (file t) other, cond-false (file s == file t) (captures_on t way) (t ∷ captures_on t way) other)
]

few-captures : (s : ℕ) (way : List ℕ) → length (captures_on s way) ≤ length way
few-captures s [] = omega arith
few-captures s (t ∷ way) = elim (captures-more s t way) [
  | inl same ↦ omega (arith, ap (λ (l : List ℕ). length l) same.1, few-captures t way)
  | inr other ↦ omega (arith, ap (λ (l : List ℕ). length l) other.1, few-captures t way)
]

-- the files of both ends and the captures have an even sum
record Even (n : ℕ) : Type 0 where
  half : ℕ
  twice : n ≡ 2 * half

even-step : (a b e n : ℕ) → distance a b < 2 → (a ≡ b → ⊥) → Even (b + e + n) → Even (a + e + (1 + n))
unfolding distance
even-step a b e n near other even = elim (cases_Bool (nat_lt a b)) [
  | inl below ↦ record { half = even.half; twice = omega (arith, near, ltb-true a b below, even.twice) }
  | inr above ↦ record { half = even.half + 1; twice = omega (arith, near, other, ltb-false a b above, even.twice) }
]

even-captures : (c : Colour) (set : List Bool) (s : ℕ) (way : List ℕ) → is_way c set s way ≡ true → Even (file s + file (way_end s way) + length (captures_on s way))
even-captures c set s [] is = record { half = file s; twice = omega arith }
even-captures c set s (t ∷ way) is =
    let parts = and_parts (is_pawn_step c set s t) (is_way c set t way) is in
    let rest = even-captures c set t way parts.1 in
    elim (captures-more s t way) [
      | inl same ↦ record { half = rest.half; twice = omega (arith, ap (λ (l : List ℕ). length l) same.1, same.0, rest.twice) }
      | inr other ↦
          let more = even-step (file s) (file t) (file (way_end t way)) (length (captures_on t way)) (a-step c set s t parts.0).near other.0 rest in
          record { half = more.half; twice = omega (arith, ap (λ (l : List ℕ). length l) other.1, more.twice) }
    ]

most-of : (a b r n k : ℕ) → n ≤ r → a + b + n ≡ 2 * k → n ≤ r - (r + distance a b) % 2
unfolding distance
most-of a b r n k few even = omega (arith, few, even)

pub most-captured : (c : Colour) (set : List Bool) (s : ℕ) (way : List ℕ) → is_way c set s way ≡ true → length (captures_on s way) ≤ most_aside s (way_end s way)
most-captured c set s way is =
    let e : ℕ = way_end s way in
    let ranks = ahead-ranks c s e (length way) (gone-ahead c set s way is) in
    let even = even-captures c set s way is in
    let few : length (captures_on s way) ≤ ranks_apart s e = omega (arith, few-captures s way, ranks) in
    most-of (file s) (file e) (ranks_apart s e) (length (captures_on s way)) even.half few even.twice
