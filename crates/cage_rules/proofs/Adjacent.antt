-- Steps of whole sets, as what is said of two squares.
use Rattle.std.proofs.Common.{◌≡◌, ℕ, ◌+◌, ◌-◌, ◌*◌, ◌<◌, ◌≤◌, ◌==◌, ◌⊎◌, inl, inr, max, Bool, true, false, ◌&&◌, ◌||◌, List, length, refl, ap, sym, ◌∙◌, arith}
use Rattle.std.proofs.lemmas.Bool.{agree_below, agree_below_at, and_parts, and_from, or_cases, or_left, or_right, eqb-true, eq-eqb, leb-true, le-leb, ltb-true, lt-ltb, cases_eq, cases_lt, both_ways}
use Rattle.std.specs.Prelude.{nat_le, nat_lt}
use Rattle.board_base.specs.Board.{file, is_in, rank}
use Rattle.board_base.specs.Attacks.{distance, files_apart, king_distance, one_ahead, ranks_apart}
use Rattle.board_base.specs.Squares.{squares_of}
use Rattle.board_base.specs.SquareNumbers.{length-squares_of}
use Rattle.board_base.specs.declared.men.Colour.{Colour}
use Rattle.board_base.specs.declared.men.Colour.TheVariants.{White, Black}
use Rattle.board_base.specs.declared.men.Kind.TheVariants.{Pawn, Knight, Bishop, Rook, Queen, King}
use Rattle.board_base.proofs.Hits.{away-above, away-below}
use Rattle.board_base.proofs.Ways.{distance-sym}
use Rattle.cage_rules.specs.Frozen.{is_behind, is_next}
use Rattle.cage_rules.specs.Sets.{union}
use Rattle.cage_rules.specs.Steps.{is_ahead, is_diagonal_step, is_knight_step, is_line_step, is_step, near}
use Rattle.cage_rules.specs.SetSteps.{down, is_across, is_along, is_strike, left, right, up}
use Rattle.cage_rules.proofs.Filling.{is_in-that, length-that, none-in-zero}
use Rattle.cage_rules.proofs.Near.{Source, near-corner, near-either, near-is, near-more, near-same, on_file, on_rank, placed}
use Rattle.cage_rules.proofs.SetAlgebra.{is_in-union, length-union}
use Rattle.general_lemmas.proofs.Truth.{same_truth}

-- numbers n apart: the first is above the second, or below
apart-cases : (a b n : ℕ) → distance a b ≡ n → (a ≡ b + n) ⊎ (b ≡ a + n)
unfolding distance
apart-cases a b n e = elim (cases_lt a b) [ inl low ↦ inr (omega arith) | inr high ↦ inl (omega arith) ]

-- so many files to the right and to the left
right-told : (set : List Bool) (n s : ℕ) → n < 8 → s < 64 → is_in (right set n) s ≡ true → Source (is_across n) set s
unfolding right
right-told set n s few inside h =
    let parts = and_parts (nat_le n (file s)) (is_in set (s - n)) (sym (is_in-that (λ s. nat_le n (file s) && is_in set (s - n)) s inside) ∙ h) in
    let far : n ≤ file s = leb-true n (file s) parts.0 in
    record {
      square = s - n;
      inside = omega arith;
      placed = and_from _ _ (eq-eqb (rank s) (rank (s - n)) (omega arith)) (eq-eqb (files_apart s (s - n)) n (away-above (file s) (file (s - n)) n (omega arith)));
      member = parts.1;
    }

left-told : (set : List Bool) (n s : ℕ) → s < 64 → is_in (left set n) s ≡ true → Source (is_across n) set s
unfolding left
left-told set n s inside h =
    let parts = and_parts (nat_lt (file s + n) 8) (is_in set (s + n)) (sym (is_in-that (λ s. nat_lt (file s + n) 8 && is_in set (s + n)) s inside) ∙ h) in
    let far : file s + n < 8 = ltb-true (file s + n) 8 parts.0 in
    record {
      square = s + n;
      inside = omega arith;
      placed = and_from _ _ (eq-eqb (rank s) (rank (s + n)) (omega arith)) (eq-eqb (files_apart s (s + n)) n (away-below (file s) (file (s + n)) n (omega arith)));
      member = parts.1;
    }

right-tells : (set : List Bool) (n s t : ℕ) → s < 64 → is_in set t ≡ true → rank s ≡ rank t → file s ≡ file t + n → is_in (right set n) s ≡ true
unfolding right
right-tells set n s t inside member same far =
    let e : t ≡ s - n = omega arith in
    is_in-that (λ s. nat_le n (file s) && is_in set (s - n)) s inside ∙ and_from _ _ (le-leb n (file s) (omega arith)) (ap (is_in set) (sym e) ∙ member)

left-tells : (set : List Bool) (n s t : ℕ) → s < 64 → is_in set t ≡ true → rank s ≡ rank t → file t ≡ file s + n → is_in (left set n) s ≡ true
unfolding left
left-tells set n s t inside member same far =
    let e : t ≡ s + n = omega arith in
    is_in-that (λ s. nat_lt (file s + n) 8 && is_in set (s + n)) s inside ∙ and_from _ _ (lt-ltb (file s + n) 8 (omega arith)) (ap (is_in set) (sym e) ∙ member)

pub across-near : (set : List Bool) (n : ℕ) → n < 8 → union (right set n) (left set n) ≡ near (is_across n) set
across-near set n few =
    near-is (is_across n) set (union (right set n) (left set n)) (length-union (right set n) (left set n))
    (λ s inside h. elim (or_cases (is_in (right set n) s) (is_in (left set n) s) (sym (is_in-union (right set n) (left set n) s inside) ∙ h)) [
      | inl first ↦ right-told set n s few inside first
      | inr second ↦ left-told set n s inside second
    ])
    (λ s inside h.
    let parts = and_parts (rank s == rank h.square) (files_apart s h.square == n) h.placed in
    let same : rank s ≡ rank h.square = eqb-true _ _ parts.0 in
    is_in-union (right set n) (left set n) s inside ∙ elim (apart-cases (file s) (file h.square) n (eqb-true _ n parts.1)) [
      | inl above ↦ or_left (is_in (right set n) s) (is_in (left set n) s) (right-tells set n s h.square inside h.member same above)
      | inr below ↦ or_right (is_in (right set n) s) (is_in (left set n) s) (left-tells set n s h.square inside h.member same below)
    ])

-- so many ranks up and down
up-told : (set : List Bool) (n s : ℕ) → s < 64 → is_in (up set n) s ≡ true → (t : ℕ) × (t < 64) × (is_in set t ≡ true) × (file s ≡ file t) × (rank s ≡ rank t + n)
unfolding up
up-told set n s inside h =
    let parts = and_parts (nat_le (8 * n) s) (is_in set (s - 8 * n)) (sym (is_in-that (λ s. nat_le (8 * n) s && is_in set (s - 8 * n)) s inside) ∙ h) in
    let far : 8 * n ≤ s = leb-true (8 * n) s parts.0 in
    (s - 8 * n, omega arith, parts.1, omega arith, omega arith)

down-told : (set : List Bool) (n s : ℕ) → s < 64 → is_in (down set n) s ≡ true → (t : ℕ) × (t < 64) × (is_in set t ≡ true) × (file s ≡ file t) × (rank t ≡ rank s + n)
unfolding down
down-told set n s inside h =
    let parts = and_parts (nat_lt (s + 8 * n) 64) (is_in set (s + 8 * n)) (sym (is_in-that (λ s. nat_lt (s + 8 * n) 64 && is_in set (s + 8 * n)) s inside) ∙ h) in
    (s + 8 * n, ltb-true (s + 8 * n) 64 parts.0, parts.1, omega arith, omega arith)

up-tells : (set : List Bool) (n s t : ℕ) → s < 64 → is_in set t ≡ true → file s ≡ file t → rank s ≡ rank t + n → is_in (up set n) s ≡ true
unfolding up
up-tells set n s t inside member same far =
    let e : t ≡ s - 8 * n = omega arith in
    is_in-that (λ s. nat_le (8 * n) s && is_in set (s - 8 * n)) s inside ∙ and_from _ _ (le-leb (8 * n) s (omega arith)) (ap (is_in set) (sym e) ∙ member)

down-tells : (set : List Bool) (n s t : ℕ) → s < 64 → t < 64 → is_in set t ≡ true → file s ≡ file t → rank t ≡ rank s + n → is_in (down set n) s ≡ true
unfolding down
down-tells set n s t inside on member same far =
    let e : t ≡ s + 8 * n = omega arith in
    is_in-that (λ s. nat_lt (s + 8 * n) 64 && is_in set (s + 8 * n)) s inside ∙ and_from _ _ (lt-ltb (s + 8 * n) 64 (omega arith)) (ap (is_in set) (sym e) ∙ member)

pub along-near : (set : List Bool) (n : ℕ) → union (up set n) (down set n) ≡ near (is_along n) set
along-near set n =
    near-is (is_along n) set (union (up set n) (down set n)) (length-union (up set n) (down set n))
    (λ s inside h. elim (or_cases (is_in (up set n) s) (is_in (down set n) s) (sym (is_in-union (up set n) (down set n) s inside) ∙ h)) [
      | inl first ↦ let from = up-told set n s inside first in record { square = from.0; inside = from.1; placed = and_from _ _ (eq-eqb (file s) (file from.0) from.3) (eq-eqb (ranks_apart s from.0) n (away-above (rank s) (rank from.0) n from.4)); member = from.2 }
      | inr second ↦ let from = down-told set n s inside second in record { square = from.0; inside = from.1; placed = and_from _ _ (eq-eqb (file s) (file from.0) from.3) (eq-eqb (ranks_apart s from.0) n (away-below (rank s) (rank from.0) n (sym from.4))); member = from.2 }
    ])
    (λ s inside h.
    let parts = and_parts (file s == file h.square) (ranks_apart s h.square == n) h.placed in
    let same : file s ≡ file h.square = eqb-true _ _ parts.0 in
    is_in-union (up set n) (down set n) s inside ∙ elim (apart-cases (rank s) (rank h.square) n (eqb-true _ n parts.1)) [
      | inl above ↦ or_left (is_in (up set n) s) (is_in (down set n) s) (up-tells set n s h.square inside h.member same above)
      | inr below ↦ or_right (is_in (up set n) s) (is_in (down set n) s) (down-tells set n s h.square inside h.inside h.member same below)
    ])

length-up : (set : List Bool) (n : ℕ) → length (up set n) ≡ 64
unfolding up
length-up set n = length-that (λ s. nat_le (8 * n) s && is_in set (s - 8 * n))

length-down : (set : List Bool) (n : ℕ) → length (down set n) ≡ 64
unfolding down
length-down set n = length-that (λ s. nat_lt (s + 8 * n) 64 && is_in set (s + 8 * n))

pub up-near : (set : List Bool) → up set 1 ≡ near (is_ahead White) set
up-near set =
    near-is (is_ahead White) set (up set 1) (length-up set 1)
    (λ s inside h. let from = up-told set 1 s inside h in record { square = from.0; inside = from.1; placed = and_from _ _ (eq-eqb (file s) (file from.0) from.3) (eq-eqb (rank s) (rank from.0 + 1) from.4); member = from.2 })
    (λ s inside h. let parts = and_parts (file s == file h.square) (rank s == rank h.square + 1) h.placed in up-tells set 1 s h.square inside h.member (eqb-true _ _ parts.0) (eqb-true _ _ parts.1))

pub down-near : (set : List Bool) → down set 1 ≡ near (is_ahead Black) set
down-near set =
    near-is (is_ahead Black) set (down set 1) (length-down set 1)
    (λ s inside h. let from = down-told set 1 s inside h in record { square = from.0; inside = from.1; placed = and_from _ _ (eq-eqb (file s) (file from.0) from.3) (eq-eqb (rank from.0) (rank s + 1) from.4); member = from.2 })
    (λ s inside h. let parts = and_parts (file s == file h.square) (rank h.square == rank s + 1) h.placed in down-tells set 1 s h.square inside h.inside h.member (eqb-true _ _ parts.0) (eqb-true _ _ parts.1))

-- one step along a line
line-numbers : (f r f' r' : ℕ) → (((r == r') && (distance f f' == 1)) || ((f == f') && (distance r r' == 1))) ≡ ((max (distance f f') (distance r r') == 1) && ((f == f') || (r == r')))
unfolding distance
line-numbers f r f' r' =
    same_truth _ _
    (λ h. elim (or_cases ((r == r') && (distance f f' == 1)) ((f == f') && (distance r r' == 1)) h) [
      | inl across ↦
          let parts = and_parts (r == r') (distance f f' == 1) across in
          let same : r ≡ r' = eqb-true r r' parts.0 in
          let one : (f - f') + (f' - f) ≡ 1 = eqb-true _ 1 parts.1 in
          and_from _ _ (eq-eqb _ 1 (omega arith)) (or_right (f == f') (r == r') parts.0)
      | inr along ↦
          let parts = and_parts (f == f') (distance r r' == 1) along in
          let same : f ≡ f' = eqb-true f f' parts.0 in
          let one : (r - r') + (r' - r) ≡ 1 = eqb-true _ 1 parts.1 in
          and_from _ _ (eq-eqb _ 1 (omega arith)) (or_left (f == f') (r == r') parts.0)
    ])
    (λ h.
    let parts = and_parts (max (distance f f') (distance r r') == 1) ((f == f') || (r == r')) h in
    let one : max ((f - f') + (f' - f)) ((r - r') + (r' - r)) ≡ 1 = eqb-true _ 1 parts.0 in
    elim (or_cases (f == f') (r == r') parts.1) [
      | inl same ↦ let e : f ≡ f' = eqb-true f f' same in or_right ((r == r') && (distance f f' == 1)) ((f == f') && (distance r r' == 1)) (and_from _ _ same (eq-eqb _ 1 (omega arith)))
      | inr same ↦ let e : r ≡ r' = eqb-true r r' same in or_left ((r == r') && (distance f f' == 1)) ((f == f') && (distance r r' == 1)) (and_from _ _ same (eq-eqb _ 1 (omega arith)))
    ])

pub line-near : (set : List Bool) → union (near (is_across 1) set) (near (is_along 1) set) ≡ near is_line_step set
unfolding king_distance
line-near set = near-either (is_across 1) (is_along 1) set ∙ near-same (λ s t. is_across 1 s t || is_along 1 s t) is_line_step set (λ s t si ti. line-numbers (file s) (rank s) (file t) (rank t))

-- one step along a diagonal
diagonal-numbers : (a b : ℕ) → ((b == 1) && (a == 1)) ≡ ((max a b == 1) && (a == b))
diagonal-numbers a b =
    same_truth _ _
    (λ h. let parts = and_parts (b == 1) (a == 1) h in let eb : b ≡ 1 = eqb-true b 1 parts.0 in let ea : a ≡ 1 = eqb-true a 1 parts.1 in and_from _ _ (eq-eqb (max a b) 1 (omega arith)) (eq-eqb a b (omega arith)))
    (λ h. let parts = and_parts (max a b == 1) (a == b) h in let em : max a b ≡ 1 = eqb-true _ 1 parts.0 in let same : a ≡ b = eqb-true a b parts.1 in and_from _ _ (eq-eqb b 1 (omega arith)) (eq-eqb a 1 (omega arith)))

pub diagonal-near : (set : List Bool) → near (is_along 1) (near (is_across 1) set) ≡ near is_diagonal_step set
unfolding king_distance
diagonal-near set = near-corner (λ a b. distance a b == 1) (λ a b. distance a b == 1) set ∙ near-same (placed (λ a b. distance a b == 1) (λ a b. distance a b == 1)) is_diagonal_step set (λ s t si ti. diagonal-numbers (files_apart s t) (ranks_apart s t))

-- a step of a king is one along a line or along a diagonal
next-numbers : (f r f' r' : ℕ) → (((max (distance f f') (distance r r') == 1) && ((f == f') || (r == r'))) || ((max (distance f f') (distance r r') == 1) && (distance f f' == distance r r'))) ≡ (max (distance f f') (distance r r') == 1)
unfolding distance
next-numbers f r f' r' =
    same_truth _ _
    (λ h. elim (or_cases ((max (distance f f') (distance r r') == 1) && ((f == f') || (r == r'))) ((max (distance f f') (distance r r') == 1) && (distance f f' == distance r r')) h) [
      | inl line ↦ (and_parts _ _ line).0
      | inr diagonal ↦ (and_parts _ _ diagonal).0
    ])
    (λ h.
    let one : max ((f - f') + (f' - f)) ((r - r') + (r' - r)) ≡ 1 = eqb-true _ 1 h in
    elim (cases_eq f f') [
      | inl same ↦ or_left ((max (distance f f') (distance r r') == 1) && ((f == f') || (r == r'))) ((max (distance f f') (distance r r') == 1) && (distance f f' == distance r r')) (and_from _ _ h (or_left (f == f') (r == r') (eq-eqb f f' same)))
      | inr other ↦ elim (cases_eq r r') [
        | inl same ↦ or_left ((max (distance f f') (distance r r') == 1) && ((f == f') || (r == r'))) ((max (distance f f') (distance r r') == 1) && (distance f f' == distance r r')) (and_from _ _ h (or_right (f == f') (r == r') (eq-eqb r r' same)))
        | inr another ↦ or_right ((max (distance f f') (distance r r') == 1) && ((f == f') || (r == r'))) ((max (distance f f') (distance r r') == 1) && (distance f f' == distance r r')) (and_from _ _ h (eq-eqb (distance f f') (distance r r') (omega arith)))
      ]
    ])

pub next-step : (s t : ℕ) → (is_line_step s t || is_diagonal_step s t) ≡ is_next s t
unfolding king_distance
next-step s t = next-numbers (file s) (rank s) (file t) (rank t)

pub next-near : (set : List Bool) → union (near is_line_step set) (near is_diagonal_step set) ≡ near is_next set
next-near set = near-either is_line_step is_diagonal_step set ∙ near-same (λ s t. is_line_step s t || is_diagonal_step s t) is_next set (λ s t si ti. next-step s t)

-- a knight's move is two ranks and a file, or a rank and two files
knight-numbers : (a b : ℕ) → a < 8 → b < 8 → (((b == 2) && (a == 1)) || ((b == 1) && (a == 2))) ≡ (a * b == 2)
knight-numbers a b la lb =
    agree_below_at (λ j. ((j == 2) && (a == 1)) || ((j == 1) && (a == 2))) (λ j. a * j == 2) 8 b
    (agree_below_at (λ i. agree_below (λ j. ((j == 2) && (i == 1)) || ((j == 1) && (i == 2))) (λ j. i * j == 2) 8) (λ i. true) 8 a refl la) lb

apart-few : (a b : ℕ) → a < 8 → b < 8 → distance a b < 8
unfolding distance
apart-few a b la lb = omega arith

pub knight-near : (set : List Bool) → union (near (is_along 2) (near (is_across 1) set)) (near (is_along 1) (near (is_across 2) set)) ≡ near is_knight_step set
knight-near set =
    ap (λ (l : List Bool). union l (near (is_along 1) (near (is_across 2) set))) (near-corner (λ a b. distance a b == 2) (λ a b. distance a b == 1) set)
    ∙ ap (union (near (placed (λ a b. distance a b == 2) (λ a b. distance a b == 1)) set)) (near-corner (λ a b. distance a b == 1) (λ a b. distance a b == 2) set)
    ∙ near-either (placed (λ a b. distance a b == 2) (λ a b. distance a b == 1)) (placed (λ a b. distance a b == 1) (λ a b. distance a b == 2)) set
    ∙ near-same (λ s t. placed (λ a b. distance a b == 2) (λ a b. distance a b == 1) s t || placed (λ a b. distance a b == 1) (λ a b. distance a b == 2) s t) is_knight_step set (λ s t si ti.
    knight-numbers (files_apart s t) (ranks_apart s t) (apart-few (file s) (file t) (omega arith) (omega arith)) (apart-few (rank s) (rank t) (omega arith) (omega arith)))

-- pawns
rise : Colour → ℕ → ℕ → Bool
rise White a b = a == b + 1
rise Black a b = b == a + 1

ahead-form : (c : Colour) (set : List Bool) → near (is_ahead c) set ≡ near (on_file (rise c)) set
unfolding rise
ahead-form White set = refl
ahead-form Black set = refl

rise-form : (c : Colour) (s t : ℕ) → rise c (rank s) (rank t) ≡ one_ahead c t s
unfolding rise
rise-form White s t = refl
rise-form Black s t = refl

beside-numbers : (s t : ℕ) → ((s == t) || ((rank s == rank t) && (files_apart s t == 1))) ≡ ((rank s == rank t) && nat_lt (files_apart s t) 2)
unfolding distance
beside-numbers s t =
    same_truth _ _
    (λ h. elim (or_cases (s == t) ((rank s == rank t) && (files_apart s t == 1)) h) [
      | inl same ↦ let e : s ≡ t = eqb-true s t same in and_from _ _ (eq-eqb (rank s) (rank t) (ap rank e)) (lt-ltb (files_apart s t) 2 (let f : file s ≡ file t = ap file e in omega arith))
      | inr beside ↦
          let parts = and_parts (rank s == rank t) (files_apart s t == 1) beside in
          let one : files_apart s t ≡ 1 = eqb-true _ 1 parts.1 in
          and_from _ _ parts.0 (lt-ltb (files_apart s t) 2 (omega arith))
    ])
    (λ h.
    let parts = and_parts (rank s == rank t) (nat_lt (files_apart s t) 2) h in
    let same : rank s ≡ rank t = eqb-true _ _ parts.0 in
    let close : files_apart s t < 2 = ltb-true _ 2 parts.1 in
    elim (cases_eq (file s) (file t)) [
      | inl equal ↦ or_left (s == t) ((rank s == rank t) && (files_apart s t == 1)) (eq-eqb s t (omega arith))
      | inr other ↦ or_right (s == t) ((rank s == rank t) && (files_apart s t == 1)) (and_from _ _ parts.0 (eq-eqb (files_apart s t) 1 (omega arith)))
    ])

pub behind-near : (c : Colour) (set : List Bool) → near (is_ahead c) (union set (near (is_across 1) set)) ≡ near (is_behind c) set
behind-near c set =
    ap (near (is_ahead c)) (near-more (is_across 1) set ∙ near-same (λ s t. (s == t) || is_across 1 s t) (on_rank (λ a b. nat_lt (distance a b) 2)) set (λ s t si ti. beside-numbers s t))
    ∙ ahead-form c (near (on_rank (λ a b. nat_lt (distance a b) 2)) set)
    ∙ near-corner (rise c) (λ a b. nat_lt (distance a b) 2) set
    ∙ near-same (placed (rise c) (λ a b. nat_lt (distance a b) 2)) (is_behind c) set (λ s t si ti. ap (λ (x : Bool). x && nat_lt (files_apart s t) 2) (rise-form c s t))

pub strike-near : (c : Colour) (set : List Bool) → near (is_ahead c) (near (is_across 1) set) ≡ near (is_strike c) set
strike-near c set =
    ahead-form c (near (is_across 1) set)
    ∙ near-corner (rise c) (λ a b. distance a b == 1) set
    ∙ near-same (placed (rise c) (λ a b. distance a b == 1)) (is_strike c) set (λ s t si ti. ap (λ (x : Bool). x && (files_apart s t == 1)) (rise-form c s t) ∙ ap (λ (n : ℕ). one_ahead c t s && (n == 1)) (distance-sym (file s) (file t)))

-- a pawn takes none of these steps
pub none-near : (set : List Bool) → squares_of 0 ≡ near (is_step Pawn) set
unfolding is_step
none-near set =
    near-is (is_step Pawn) set (squares_of 0) (length-squares_of 0)
    (λ s inside h. absurd (both_ways _ (none-in-zero s) h))
    (λ s inside h. absurd (both_ways false refl h.placed))

-- the steps of each kind
pub piece-knight : (set : List Bool) → near is_knight_step set ≡ near (is_step Knight) set
unfolding is_step
piece-knight set = refl

pub piece-bishop : (set : List Bool) → near is_diagonal_step set ≡ near (is_step Bishop) set
unfolding is_step
piece-bishop set = refl

pub piece-rook : (set : List Bool) → near is_line_step set ≡ near (is_step Rook) set
unfolding is_step
piece-rook set = refl

pub piece-queen : (set : List Bool) → union (near is_line_step set) (near is_diagonal_step set) ≡ near (is_step Queen) set
unfolding is_step
piece-queen set = next-near set

pub piece-king : (set : List Bool) → union (near is_line_step set) (near is_diagonal_step set) ≡ near (is_step King) set
unfolding is_step
piece-king set = next-near set
