-- Squares as a side sees them, and steps of its pawns.
use Rattle.std.proofs.Common.{◌≡◌, ℕ, ◌+◌, ◌-◌, ◌%◌, ◌<◌, ◌≤◌, ◌⊎◌, inl, inr, Bool, true, false, ◌==◌, List, [], ◌∷◌, refl, ap, ◌∙◌, arith}
use Rattle.std.proofs.lemmas.Bool.{and_from, and_parts, cases_lt, eqb-true, eq-eqb, ne_eqb, ltb-true, lt-ltb, not-true, not_from_false}
use Rattle.board_base.specs.Board.{file, is_in, rank}
use Rattle.board_base.specs.Attacks.{distance, files_apart, one_ahead}
use Rattle.board_base.specs.declared.men.Colour.{Colour}
use Rattle.board_base.specs.declared.men.Colour.TheVariants.{White, Black}
use Rattle.men_fates.specs.Ways.{is_pawn_step, is_way, way_end}
use Rattle.balance_rule.specs.LeastWays.{seen_by}
use Rattle.balance_rule.proofs.Listed.{step-inside}

pub seen-inside : (c : Colour) (i : ℕ) → i < 64 → seen_by c i < 64
seen-inside White i inside = inside
seen-inside Black i inside = omega arith

pub seen-seen : (c : Colour) (i : ℕ) → i < 64 → seen_by c (seen_by c i) ≡ i
seen-seen White i inside = refl
seen-seen Black i inside = omega arith

-- the homes of its pawns
pub home-inside : (c : Colour) (f : ℕ) → f < 8 → seen_by c (8 + f) < 64
home-inside c f low = let inside : 8 + f < 64 = omega arith in seen-inside c (8 + f) inside

-- i is a step from j, as the side sees them
pub data IsNextTo (j i : ℕ) : Type 0 where
  ahead : i ≡ j + 8 → IsNextTo j i
  right : i ≡ j + 9 → j % 8 < 7 → IsNextTo j i
  left : i ≡ j + 7 → 0 < j % 8 → IsNextTo j i

next-white : (j i : ℕ) → rank i ≡ rank j + 1 → files_apart j i < 2 → IsNextTo j i
unfolding distance
next-white j i r f = elim (cases_lt (j % 8) (i % 8)) [
  | inl less ↦ right (omega arith) (omega arith)
  | inr no_less ↦ elim (cases_lt (i % 8) (j % 8)) [
    | inl more ↦ left (omega arith) (omega arith)
    | inr same ↦ ahead (omega arith)
  ]
]

turned-rank : (i : ℕ) → i < 64 → rank (63 - i) ≡ 7 - rank i
turned-rank i inside = omega arith

turned-file : (i : ℕ) → i < 64 → file (63 - i) ≡ 7 - file i
turned-file i inside = omega arith

step-told : (c : Colour) (set : List Bool) (s t : ℕ) → is_pawn_step c set s t ≡ true → (one_ahead c s t ≡ true) × (files_apart s t < 2) × (t < 64) × (is_in set t ≡ false)
step-told c set s t h =
    let a = and_parts _ _ h in
    let b = and_parts _ _ a.0 in
    let d = and_parts _ _ b.0 in
    (d.0, ltb-true (files_apart s t) 2 d.1, ltb-true t 64 b.1, not-true _ a.1)

-- no step leads onto the set
pub step-out : (c : Colour) (set : List Bool) (s t : ℕ) → is_pawn_step c set s t ≡ true → is_in set t ≡ false
step-out c set s t h = (step-told c set s t h).3

pub step-next : (c : Colour) (set : List Bool) (j i : ℕ) → j < 64 → i < 64 → is_pawn_step c set (seen_by c j) (seen_by c i) ≡ true → IsNextTo j i × (is_in set (seen_by c i) ≡ false)
unfolding distance
step-next White set j i jn in_ h =
    let told = step-told White set j i h in
    (next-white j i (eqb-true _ _ told.0) told.1, told.3)
step-next Black set j i jn in_ h =
    let told = step-told Black set (63 - j) (63 - i) h in
    let ranks : rank (63 - j) ≡ rank (63 - i) + 1 = eqb-true _ _ told.0 in
    let near : (file (63 - j) - file (63 - i)) + (file (63 - i) - file (63 - j)) < 2 = told.1 in
    let ahead_ : rank i ≡ rank j + 1 = omega (arith, turned-rank i in_, turned-rank j jn) in
    let apart : files_apart j i < 2 = omega (arith, turned-file i in_, turned-file j jn) in
    (next-white j i ahead_ apart, told.3)

white-step : (set : List Bool) (j i : ℕ) → i < 64 → rank i ≡ rank j + 1 → files_apart j i < 2 → is_in set i ≡ false → is_pawn_step White set j i ≡ true
white-step set j i inside r f out = and_from _ _ (and_from _ _ (and_from _ _ (eq-eqb _ _ r) (lt-ltb _ _ f)) (lt-ltb _ _ inside)) (not_from_false _ out)

black-step : (set : List Bool) (j i : ℕ) → i < 64 → rank j ≡ rank i + 1 → files_apart j i < 2 → is_in set i ≡ false → is_pawn_step Black set j i ≡ true
black-step set j i inside r f out = and_from _ _ (and_from _ _ (and_from _ _ (eq-eqb _ _ r) (lt-ltb _ _ f)) (lt-ltb _ _ inside)) (not_from_false _ out)

pub next-rank : (j i : ℕ) → IsNextTo j i → rank i ≡ rank j + 1
next-rank j i (ahead e) = omega arith
next-rank j i (right e low) = omega arith
next-rank j i (left e high) = omega arith

next-files : (j i : ℕ) → IsNextTo j i → files_apart j i < 2
unfolding distance
next-files j i (ahead e) = omega arith
next-files j i (right e low) = omega arith
next-files j i (left e high) = omega arith

pub next-step : (c : Colour) (set : List Bool) (j i : ℕ) → j < 64 → i < 64 → IsNextTo j i → is_in set (seen_by c i) ≡ false → is_pawn_step c set (seen_by c j) (seen_by c i) ≡ true
unfolding distance
next-step White set j i jn in_ next out = white-step set j i in_ (next-rank j i next) (next-files j i next) out
next-step Black set j i jn in_ next out =
    let near : (file j - file i) + (file i - file j) < 2 = next-files j i next in
    black-step set (63 - j) (63 - i) (omega arith) (omega (arith, turned-rank i in_, turned-rank j jn, next-rank j i next)) (omega (arith, turned-file i in_, turned-file j jn)) out

-- on one file, or not
pub same-file : (c : Colour) (j i : ℕ) → j < 64 → i < 64 → i ≡ j + 8 → (file (seen_by c j) == file (seen_by c i)) ≡ true
same-file White j i jn in_ e = eq-eqb _ _ (omega arith)
same-file Black j i jn in_ e = eq-eqb _ _ (omega arith)

pub other-file : (c : Colour) (j i : ℕ) → j < 64 → i < 64 → (i ≡ j + 9) ⊎ (i ≡ j + 7) → IsNextTo j i → (file (seen_by c j) == file (seen_by c i)) ≡ false
other-file White j i jn in_ which (ahead e) = absurd (elim which [ inl a ↦ omega arith | inr b ↦ omega arith ])
other-file White j i jn in_ which (right e low) = ne_eqb _ _ (λ same. omega arith)
other-file White j i jn in_ which (left e high) = ne_eqb _ _ (λ same. omega arith)
other-file Black j i jn in_ which (ahead e) = absurd (elim which [ inl a ↦ omega arith | inr b ↦ omega arith ])
other-file Black j i jn in_ which (right e low) = ne_eqb _ _ (λ same. omega (arith, turned-file i in_, turned-file j jn, same))
other-file Black j i jn in_ which (left e high) = ne_eqb _ _ (λ same. omega (arith, turned-file i in_, turned-file j jn, same))

-- a way stays on the board
pub end-inside : (c : Colour) (set : List Bool) (s : ℕ) (way : List ℕ) → s < 64 → is_way c set s way ≡ true → way_end s way < 64
end-inside c set s [] inside is = inside
end-inside c set s (t ∷ way) inside is =
    let parts = and_parts (is_pawn_step c set s t) (is_way c set t way) is in
    end-inside c set t way (step-inside c set s t parts.0) parts.1

-- i is ahead of j, and no more files away than ranks
pub record IsAheadOf (j i : ℕ) : Type 0 where
  pub up : rank j ≤ rank i
  pub right : i % 8 + rank j ≤ j % 8 + rank i
  pub left : j % 8 + rank j ≤ i % 8 + rank i

-- and leads ahead
pub way-ahead : (c : Colour) (set : List Bool) (s : ℕ) (way : List ℕ) → s < 64 → is_way c set s way ≡ true → IsAheadOf (seen_by c s) (seen_by c (way_end s way))
unfolding distance
way-ahead c set s [] inside is = record { up = omega arith; right = omega arith; left = omega arith }
way-ahead c set s (t ∷ way) inside is =
    let parts = and_parts (is_pawn_step c set s t) (is_way c set t way) is in
    let on_board : t < 64 = step-inside c set s t parts.0 in
    let step : is_pawn_step c set (seen_by c (seen_by c s)) (seen_by c (seen_by c t)) ≡ true =
    ap (λ (u : ℕ). is_pawn_step c set u (seen_by c (seen_by c t))) (seen-seen c s inside) ∙ ap (is_pawn_step c set s) (seen-seen c t on_board) ∙ parts.0 in
    let next = (step-next c set (seen_by c s) (seen_by c t) (seen-inside c s inside) (seen-inside c t on_board) step).0 in
    let ranks : rank (seen_by c t) ≡ rank (seen_by c s) + 1 = next-rank (seen_by c s) (seen_by c t) next in
    let files : (file (seen_by c s) - file (seen_by c t)) + (file (seen_by c t) - file (seen_by c s)) < 2 = next-files (seen_by c s) (seen_by c t) next in
    let rest = way-ahead c set t way on_board parts.1 in
    record { up = omega (arith, ranks, rest.up); right = omega (arith, ranks, files, rest.right); left = omega (arith, ranks, files, rest.left) }
