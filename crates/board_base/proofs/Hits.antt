-- Attacks, found from the square that is attacked.
use Rattle.std.proofs.Common.{◌≡◌, ℕ, zero, suc, ◌+◌, ◌*◌, ◌<◌, ◌==◌, ◌⊎◌, Bool, true, false, ◌&&◌, ◌||◌, not, inl, inr, refl, ap, sym, ◌∙◌, subst, arith}
use Rattle.std.proofs.lemmas.Bool.{and_parts, and_from, both_ways, cases_eq, cases_lt, eq-eqb, eqb-true, eqb-false, ne_eqb, not-true, not_from_false, or_cases, or_left, or_right}
use Rattle.std.specs.Prelude.{Option, Some, None}
use Rattle.general_lemmas.proofs.Ranges.{any-found, any-one}
use Rattle.board_base.specs.Board.{Places, at, file, is_empty, is_of, is_the, rank, same_colour}
use Rattle.board_base.specs.Attacks.{attacks, attacks_from, distance, files_apart, is_open, kind_attacks, king_distance, on_one_diagonal, on_one_line, one_ahead, ranks_apart}
use Rattle.board_base.specs.declared.men.Man.{Man}
use Rattle.board_base.specs.declared.men.Colour.{Colour}
use Rattle.board_base.specs.declared.men.Colour.TheVariants.{White, Black}
use Rattle.board_base.specs.declared.men.Kind.{Kind}
use Rattle.board_base.specs.declared.men.Kind.TheVariants.{Pawn, Knight, Bishop, Rook, Queen, King}
use Rattle.board_base.proofs.KindsOfMen.{kind_is}
use Rattle.board_base.proofs.Ways.{diagonal-back, king_distance-sym, line-back, near-open, open-back}

-- a man of c who attacks a square
pub hit-attacks : (board : Places) (c : Colour) (s t : ℕ) → t < 64 → (is_of c (at board t) && attacks_from board t s) ≡ true → attacks board s c ≡ true
unfolding attacks
hit-attacks board c s t small h = any-found (λ from. is_of c (at board from) && attacks_from board from s) 0 64 t (omega arith) (omega arith) h

pub hit-full : (c : Colour) (place : Option Man) (b : Bool) → (is_of c place && b) ≡ true → is_empty place ≡ false
hit-full c None b h = absurd (both_ways false refl h)
hit-full c (Some m) b h = refl

-- the ways in which a man of c hits a square
pub data Hit (board : Places) (c : Colour) (s t : ℕ) : Type 0 where
  straight : (not (s == t) && on_one_line s t) ≡ true → is_open board s t ≡ true → Hit board c s t
  diagonally : (not (s == t) && on_one_diagonal s t) ≡ true → is_open board s t ≡ true → Hit board c s t
  by_knight : is_the c Knight (at board t) ≡ true → distance (rank t) (rank s) * distance (file t) (file s) ≡ 2 → Hit board c s t

apart-back : (s t : ℕ) → not (t == s) ≡ true → not (s == t) ≡ true
apart-back s t h = not_from_false _ (ne_eqb s t (λ e. eqb-false t s (not-true _ h) (sym e)))

far-apart : (s t : ℕ) → king_distance t s ≡ 1 → not (s == t) ≡ true
unfolding king_distance distance
far-apart s t h = not_from_false _ (ne_eqb s t (λ e. let f : file s ≡ file t = ap file e in let r : rank s ≡ rank t = ap rank e in omega arith))

pawn-one : (c : Colour) (s t : ℕ) → one_ahead c t s ≡ true → files_apart t s ≡ 1 → (ranks_apart s t ≡ 1) × (files_apart s t ≡ 1)
unfolding distance
pawn-one White s t up one = let e : rank s ≡ rank t + 1 = eqb-true _ _ up in (omega arith, omega arith)
pawn-one Black s t up one = let e : rank t ≡ rank s + 1 = eqb-true _ _ up in (omega arith, omega arith)

one-diagonal : (s t : ℕ) → ranks_apart s t ≡ 1 → files_apart s t ≡ 1 → (king_distance s t ≡ 1) × (on_one_diagonal s t ≡ true)
unfolding king_distance
one-diagonal s t r f = (omega arith, eq-eqb _ _ (f ∙ sym r))

king-line : (s t : ℕ) → king_distance s t ≡ 1 → (on_one_line s t || on_one_diagonal s t) ≡ true
unfolding king_distance distance
king-line s t h = elim (cases_eq (file s) (file t)) [
  | inl same ↦ or_left _ _ (or_left _ _ (eq-eqb _ _ same))
  | inr f ↦ elim (cases_eq (rank s) (rank t)) [
    | inl same ↦ or_left _ _ (or_right _ _ (eq-eqb _ _ same))
    | inr r ↦ or_right (on_one_line s t) (on_one_diagonal s t) (eq-eqb (files_apart s t) (ranks_apart s t) (omega arith))
  ]
]

near-hit : (board : Places) (c : Colour) (s t : ℕ) → king_distance s t ≡ 1 → Hit board c s t
near-hit board c s t one =
    let apart : not (s == t) ≡ true = far-apart s t (king_distance-sym t s ∙ one) in
    let clear = near-open board s t one in
    elim (or_cases _ _ (king-line s t one)) [
      | inl line ↦ straight (and_from _ _ apart line) clear
      | inr line ↦ diagonally (and_from _ _ apart line) clear
    ]

line-hit : (board : Places) (c : Colour) (s t : ℕ) → not (t == s) ≡ true → on_one_line t s ≡ true → is_open board t s ≡ true → Hit board c s t
line-hit board c s t apart line clear =
    straight (and_from _ _ (apart-back s t apart) (line-back t s line)) (open-back board s t (or_left _ _ (line-back t s line)) clear)

diagonal-hit : (board : Places) (c : Colour) (s t : ℕ) → not (t == s) ≡ true → on_one_diagonal t s ≡ true → is_open board t s ≡ true → Hit board c s t
diagonal-hit board c s t apart line clear =
    diagonally (and_from _ _ (apart-back s t apart) (diagonal-back t s line)) (open-back board s t (or_right (on_one_line s t) _ (diagonal-back t s line)) clear)

kind-hit : (board : Places) (c d : Colour) (k : Kind) (s t : ℕ) → at board t ≡ Some (record { colour = d; kind = k }) → same_colour c d ≡ true → kind_attacks board d k t s ≡ true → Hit board c s t
unfolding kind_attacks
kind-hit board c d Pawn s t here own h =
    let parts = and_parts _ _ h in
    let one = pawn-one d s t parts.0 (eqb-true _ 1 parts.1) in
    near-hit board c s t (one-diagonal s t one.0 one.1).0
kind-hit board c d Knight s t here own h =
    by_knight (ap (is_the c Knight) here ∙ and_from _ _ own refl) (let e : files_apart t s * ranks_apart t s ≡ 2 = eqb-true _ 2 h in omega (arith, e))
kind-hit board c d Bishop s t here own h = let parts = and_parts _ _ h in let ends = and_parts _ _ parts.0 in diagonal-hit board c s t ends.0 ends.1 parts.1
kind-hit board c d Rook s t here own h = let parts = and_parts _ _ h in let ends = and_parts _ _ parts.0 in line-hit board c s t ends.0 ends.1 parts.1
kind-hit board c d Queen s t here own h =
    let parts = and_parts _ _ h in
    let ends = and_parts _ _ parts.0 in
    elim (or_cases _ _ ends.1) [
      | inl line ↦ line-hit board c s t ends.0 line parts.1
      | inr line ↦ diagonal-hit board c s t ends.0 line parts.1
    ]
kind-hit board c d King s t here own h = near-hit board c s t (king_distance-sym s t ∙ eqb-true _ 1 h)

place-hit : (board : Places) (c : Colour) (place : Option Man) (s t : ℕ) → at board t ≡ place → is_of c place ≡ true → elim place as (λ _. Bool) [ None ↦ false | Some m ↦ kind_attacks board m.colour m.kind t s ] ≡ true → Hit board c s t
place-hit board c None s t here own h = absurd (both_ways false refl own)
place-hit board c (Some m) s t here own h = kind-hit board c m.colour m.kind s t here own h

-- a square that is attacked is hit from some square
pub record IsHit (board : Places) (c : Colour) (s : ℕ) : Type 0 where
  pub from : ℕ
  pub small : from < 64
  pub attacks : (is_of c (at board from) && attacks_from board from s) ≡ true
  pub way : Hit board c s from

pub attack-hit : (board : Places) (c : Colour) (s : ℕ) → attacks board s c ≡ true → IsHit board c s
unfolding attacks attacks_from
attack-hit board c s h =
    let w = any-one (λ from. is_of c (at board from) && attacks_from board from s) 0 64 h in
    let below = w.below in
    let parts = and_parts (is_of c (at board w.number)) _ w.passes in
    record { from = w.number; small = omega arith; attacks = w.passes; way = place-hit board c (at board w.number) s w.number refl parts.0 parts.1 }

knight-place : (board : Places) (c : Colour) (place : Option Man) (s t : ℕ) → is_the c Knight place ≡ true → distance (rank t) (rank s) * distance (file t) (file s) ≡ 2 → (is_of c place && elim place as (λ _. Bool) [ None ↦ false | Some m ↦ kind_attacks board m.colour m.kind t s ]) ≡ true
unfolding kind_attacks
knight-place board c None s t knight away = absurd (both_ways false refl knight)
knight-place board c (Some m) s t knight away =
    let parts = and_parts _ _ knight in
    let e : files_apart t s * ranks_apart t s ≡ 2 = omega (arith, away) in
    and_from _ _ parts.0 (subst (λ (k : Kind). kind_attacks board m.colour k t s ≡ true) (kind_is Knight m.kind parts.1) (eq-eqb _ 2 e))

-- a knight a knight's move away attacks
pub knight-attacks : (board : Places) (c : Colour) (s t : ℕ) → t < 64 → is_the c Knight (at board t) ≡ true → distance (rank t) (rank s) * distance (file t) (file s) ≡ 2 → attacks board s c ≡ true
unfolding attacks_from
knight-attacks board c s t small knight away = hit-attacks board c s t small (knight-place board c (at board t) s t knight away)

one_two : (a b : ℕ) → a * b ≡ 2 → ((a ≡ 1) × (b ≡ 2)) ⊎ ((a ≡ 2) × (b ≡ 1))
one_two zero b e = absurd (omega (arith, e))
one_two (suc zero) b e = inl (refl, omega (arith, e))
one_two (suc (suc zero)) b e = inr (refl, omega (arith, e))
one_two (suc (suc (suc a))) zero e = absurd (omega (arith, e))
one_two (suc (suc (suc a))) (suc b) e = absurd (omega (arith, e))

pub away : (a b n : ℕ) → distance a b ≡ n → (a + n ≡ b) ⊎ (a ≡ b + n)
unfolding distance
away a b n e = elim (cases_lt a b) [ inl low ↦ inl (omega arith) | inr high ↦ inr (omega arith) ]

pub away-below : (a b n : ℕ) → a + n ≡ b → distance a b ≡ n
unfolding distance
away-below a b n e = omega arith

pub away-above : (a b n : ℕ) → a ≡ b + n → distance a b ≡ n
unfolding distance
away-above a b n e = omega arith

pub knight-at : (board : Places) (c : Colour) (s row column : ℕ) → row < 8 → column < 8 → is_the c Knight (at board (8 * row + column)) ≡ true → distance row (rank s) * distance column (file s) ≡ 2 → attacks board s c ≡ true
knight-at board c s row column r f knight far =
    let er : row ≡ rank (8 * row + column) = omega arith in
    let ef : column ≡ file (8 * row + column) = omega arith in
    knight-attacks board c s (8 * row + column) (omega arith) knight (ap (λ (n : ℕ). n * distance (file (8 * row + column)) (file s)) (ap (λ (n : ℕ). distance n (rank s)) (sym er)) ∙ ap (λ (n : ℕ). distance row (rank s) * distance n (file s)) (sym ef) ∙ far)

-- a knight's move away: one rank or two below or above
pub knight-rows : (s t : ℕ) → distance (rank t) (rank s) * distance (file t) (file s) ≡ 2 → (((rank t + 1 ≡ rank s) × (distance (file t) (file s) ≡ 2)) ⊎ ((rank t + 2 ≡ rank s) × (distance (file t) (file s) ≡ 1))) ⊎ (((rank t ≡ rank s + 1) × (distance (file t) (file s) ≡ 2)) ⊎ ((rank t ≡ rank s + 2) × (distance (file t) (file s) ≡ 1)))
knight-rows s t e = elim (one_two (distance (rank t) (rank s)) (distance (file t) (file s)) e) [
  | inl w ↦ elim (away (rank t) (rank s) 1 w.0) [ inl below ↦ inl (inl (below, w.1)) | inr above ↦ inr (inl (above, w.1)) ]
  | inr w ↦ elim (away (rank t) (rank s) 2 w.0) [ inl below ↦ inl (inr (below, w.1)) | inr above ↦ inr (inr (above, w.1)) ]
]
