-- Attacks on boards that are empty on the same squares of the lines that matter.
use Rattle.std.proofs.Common.{◌≡◌, ◌≢◌, ℕ, zero, suc, ◌+◌, ◌-◌, ◌*◌, ◌<◌, ◌≤◌, ◌==◌, Bool, true, false, ◌&&◌, ◌||◌, not, inl, inr, refl, ap, sym, ◌∙◌, subst, arith}
use Rattle.std.proofs.lemmas.Bool.{and_parts, and_from, both_ways, cases_eq, cases_lt, eq-eqb, eqb-true, false_from_ne_true, or_cases, or_left, or_right}
use Rattle.std.proofs.lemmas.List.{get_or-set_same, get_or-set_other}
use Rattle.std.specs.Prelude.{Option, Some, None, length, slice_set}
use Rattle.std.specs.List.{list_all, range_with_len}
use Rattle.board_base.specs.Board.{Places, at, file, is_empty, is_of, rank}
use Rattle.board_base.specs.Attacks.{attacks, attacks_from, distance, files_apart, is_open, kind_attacks, king_distance, on_one_diagonal, on_one_line, on_the_way, ranks_apart, toward}
use Rattle.board_base.specs.declared.men.Man.{Man}
use Rattle.board_base.specs.declared.men.Colour.{Colour}
use Rattle.board_base.specs.declared.men.Kind.{Kind}
use Rattle.board_base.specs.declared.men.Kind.TheVariants.{Pawn, Knight, Bishop, Rook, Queen, King}
use Rattle.board_base.proofs.Ways.{toward-down, toward-same, toward-up, zero-apart}
use Rattle.play_rules.proofs.Attacked.{none_in_range}
use Rattle.unmove_gen.proofs.Opened.{any-none}

pub and-under : (a b d : Bool) → (a ≡ true → b ≡ d) → (a && b) ≡ (a && d)
and-under true b d same = same refl
and-under false b d same = refl

all-same : (p q : ℕ → Bool) (k n : ℕ) → ((i : ℕ) → k ≤ i → i < k + n → p i ≡ q i) → list_all p (range_with_len k n) ≡ list_all q (range_with_len k n)
all-same p q k zero same = refl
all-same p q k (suc n) same =
    ap (λ (b : Bool). b && list_all p (range_with_len (k + 1) n)) (same k (omega arith) (omega arith))
    ∙ ap (λ (b : Bool). q k && b) (all-same p q (k + 1) n (λ i low high. same i (omega arith) (omega arith)))

-- a number strictly between two others
record IsBetween (a b n : ℕ) : Type 0 where
  below : n < 8
  not_first : n ≢ a
  not_last : n ≢ b

between : (a b k : ℕ) → a < 8 → b < 8 → 1 ≤ k → k < distance a b → IsBetween a b (toward a b k)
unfolding distance
between a b k low high one few = elim (cases_lt a b) [
  | inl up ↦ let e : toward a b k ≡ a + k = toward-up a b k up in record { below = omega arith; not_first = λ same. omega arith; not_last = λ same. omega arith }
  | inr not_up ↦ let down : b < a = omega arith in let e : toward a b k ≡ a - k = toward-down a b k down in record { below = omega arith; not_first = λ same. omega arith; not_last = λ same. omega arith }
]

left : (a b k : ℕ) → k ≤ distance a b → distance (toward a b k) b + k ≡ distance a b
unfolding distance
left a b k few = elim (cases_lt a b) [
  | inl up ↦ let e : toward a b k ≡ a + k = toward-up a b k up in omega arith
  | inr not_up ↦ elim (cases_lt b a) [
    | inl down ↦ let e : toward a b k ≡ a - k = toward-down a b k down in omega arith
    | inr not_down ↦ let same : a ≡ b = omega arith in let e : toward a b k ≡ a = toward-same a b k same in omega arith
  ]
]

-- the squares share a file, a rank or a diagonal
abbrev pub on_a_line : ℕ → ℕ → Bool
on_a_line s t = on_one_line s t || on_one_diagonal s t

-- a square strictly between two others on a line
pub record IsOnWay (s t w : ℕ) : Type 0 where
  pub not_first : w ≢ s
  pub not_last : w ≢ t
  pub line : on_a_line w t ≡ true

on-way : (s t k : ℕ) → s < 64 → t < 64 → on_a_line s t ≡ true → 1 ≤ k → k < king_distance s t → IsOnWay s t (on_the_way s t k)
unfolding on_the_way king_distance
on-way s t k small low line one few =
    let r : ℕ = toward (rank s) (rank t) k in
    let f : ℕ = toward (file s) (file t) k in
    elim (or_cases (on_one_line s t) (on_one_diagonal s t) line) [
      | inl straight ↦ elim (or_cases (file s == file t) (rank s == rank t) straight) [
        | inl files ↦
            let same : file s ≡ file t = eqb-true _ _ files in
            let none : files_apart s t ≡ 0 = zero-apart (file s) (file t) same in
            let w = between (rank s) (rank t) k (omega arith) (omega arith) one (omega arith) in
            let e : f ≡ file s = toward-same (file s) (file t) k same in
            record {
              not_first = λ here. w.not_first (omega arith);
              not_last = λ here. w.not_last (omega arith);
              line = or_left _ _ (or_left _ _ (eq-eqb (file (8 * r + f)) (file t) (omega arith)));
            }
        | inr ranks ↦
            let same : rank s ≡ rank t = eqb-true _ _ ranks in
            let none : ranks_apart s t ≡ 0 = zero-apart (rank s) (rank t) same in
            let w = between (file s) (file t) k (omega arith) (omega arith) one (omega arith) in
            let e : r ≡ rank s = toward-same (rank s) (rank t) k same in
            let below = w.below in
            record {
              not_first = λ here. w.not_first (omega arith);
              not_last = λ here. w.not_last (omega arith);
              line = or_left _ _ (or_right (file (8 * r + f) == file t) _ (eq-eqb (rank (8 * r + f)) (rank t) (omega arith)));
            }
      ]
      | inr diagonal ↦
          let same : files_apart s t ≡ ranks_apart s t = eqb-true _ _ diagonal in
          let w = between (file s) (file t) k (omega arith) (omega arith) one (omega arith) in
          let below = w.below in
          let ef : file (8 * r + f) ≡ f = omega arith in
          let er : rank (8 * r + f) ≡ r = omega arith in
          let a : distance f (file t) + k ≡ files_apart s t = left (file s) (file t) k (omega arith) in
          let b : distance r (rank t) + k ≡ ranks_apart s t = left (rank s) (rank t) k (omega arith) in
          let c : distance f (file t) ≡ distance r (rank t) = omega arith in
          record {
            not_first = λ here. w.not_first (omega arith);
            not_last = λ here. w.not_last (omega arith);
            line = or_right (on_one_line (8 * r + f) t) _ (eq-eqb (files_apart (8 * r + f) t) (ranks_apart (8 * r + f) t) (ap (λ (n : ℕ). distance n (file t)) ef ∙ c ∙ ap (λ (n : ℕ). distance n (rank t)) (sym er)));
          }
    ]

-- a line is open on one board as on another that is empty on the same squares of the way
open-way : (a b : Places) (s t : ℕ) → s < 64 → t < 64 → on_a_line s t ≡ true → ((x : ℕ) → IsOnWay s t x → is_empty (at a x) ≡ is_empty (at b x)) → is_open a s t ≡ is_open b s t
open-way a b s t small low line same =
    all-same _ _ 1 (king_distance s t - 1) (λ k one far. same (on_the_way s t k) (on-way s t k small low line one (omega arith)))

-- and a man attacks as on the other
kind-way : (a b : Places) (c : Colour) (k : Kind) (s t : ℕ) → s < 64 → t < 64 → ((x : ℕ) → IsOnWay s t x → is_empty (at a x) ≡ is_empty (at b x)) → kind_attacks a c k s t ≡ kind_attacks b c k s t
unfolding kind_attacks
kind-way a b c Pawn s t small low same = refl
kind-way a b c Knight s t small low same = refl
kind-way a b c Bishop s t small low same =
    and-under (not (s == t) && on_one_diagonal s t) _ _ (λ h. open-way a b s t small low (or_right (on_one_line s t) _ (and_parts _ _ h).1) same)
kind-way a b c Rook s t small low same =
    and-under (not (s == t) && on_one_line s t) _ _ (λ h. open-way a b s t small low (or_left _ (on_one_diagonal s t) (and_parts _ _ h).1) same)
kind-way a b c Queen s t small low same =
    and-under (not (s == t) && (on_one_line s t || on_one_diagonal s t)) _ _ (λ h. open-way a b s t small low (and_parts _ _ h).1 same)
kind-way a b c King s t small low same = refl

-- only the squares strictly between matter
pub open-between : (a b : Places) (s t : ℕ) → s < 64 → t < 64 → on_a_line s t ≡ true → ((x : ℕ) → x ≢ s → x ≢ t → is_empty (at a x) ≡ is_empty (at b x)) → is_open a s t ≡ is_open b s t
open-between a b s t small low line same = open-way a b s t small low line (λ x w. same x w.not_first w.not_last)

pub kind-between : (a b : Places) (c : Colour) (k : Kind) (s t : ℕ) → s < 64 → t < 64 → ((x : ℕ) → x ≢ s → x ≢ t → is_empty (at a x) ≡ is_empty (at b x)) → kind_attacks a c k s t ≡ kind_attacks b c k s t
kind-between a b c k s t small low same = kind-way a b c k s t small low (λ x w. same x w.not_first w.not_last)

-- a square that is on no line with the one that is attacked doesn't matter
kind-aside : (a b : Places) (c : Colour) (k : Kind) (s t f : ℕ) → s < 64 → t < 64 → on_a_line f t ≡ false → ((x : ℕ) → x ≢ f → is_empty (at a x) ≡ is_empty (at b x)) → kind_attacks a c k s t ≡ kind_attacks b c k s t
kind-aside a b c k s t f small low off same = kind-way a b c k s t small low (λ x w. same x (λ e. both_ways _ off (ap (λ (n : ℕ). on_a_line n t) (sym e) ∙ w.line)))

place-aside : (a b : Places) (place : Option Man) (s t f : ℕ) → s < 64 → t < 64 → on_a_line f t ≡ false → ((x : ℕ) → x ≢ f → is_empty (at a x) ≡ is_empty (at b x)) → elim place as (λ _. Bool) [ None ↦ false | Some m ↦ kind_attacks a m.colour m.kind s t ] ≡ elim place as (λ _. Bool) [ None ↦ false | Some m ↦ kind_attacks b m.colour m.kind s t ]
place-aside a b None s t f small low off same = refl
place-aside a b (Some m) s t f small low off same = kind-aside a b m.colour m.kind s t f small low off same

-- who takes a man off such a square uncovers no attack
pub aside-quiet : (board : Places) (t f : ℕ) (c : Colour) → length board ≡ 64 → t < 64 → f < 64 → on_a_line f t ≡ false → attacks board t c ≡ false → attacks (slice_set board f None) t c ≡ false
unfolding attacks attacks_from
aside-quiet board t f c whole low inside off none =
    let bare : Places = slice_set board f None in
    none_in_range (λ s. is_of c (at bare s) && elim (at bare s) as (λ _. Bool) [ None ↦ false | Some m ↦ kind_attacks bare m.colour m.kind s t ]) 0 64 (λ s small. false_from_ne_true _ (λ hit.
    let parts = and_parts (is_of c (at bare s)) _ hit in
    elim (cases_eq s f) [
      | inl here ↦ both_ways _ (ap (is_of c) (ap (at bare) here ∙ get_or-set_same board f None None (omega arith))) parts.0
      | inr apart ↦
          let e : at bare s ≡ at board s = get_or-set_other board f s None None apart in
          let same : (x : ℕ) → x ≢ f → is_empty (at bare x) ≡ is_empty (at board x) = λ x other. ap is_empty (get_or-set_other board f x None None other) in
          let hits = sym (place-aside bare board (at bare s) s t f (omega arith) low off same) ∙ parts.1 in
          both_ways _ (any-none (λ n. is_of c (at board n) && elim (at board n) as (λ _. Bool) [ None ↦ false | Some m ↦ kind_attacks board m.colour m.kind n t ]) 0 64 s none (omega arith) (omega arith))
          (subst (λ (p : Option Man). (is_of c p && elim p as (λ _. Bool) [ None ↦ false | Some m ↦ kind_attacks board m.colour m.kind s t ]) ≡ true) e (and_from _ _ parts.0 hits))
    ]))
