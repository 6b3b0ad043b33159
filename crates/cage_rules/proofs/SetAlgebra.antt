-- Sets of squares by tests of their squares, and by the bits of numbers.
use Rattle.std.proofs.Common.{◌≡◌, ℕ, zero, suc, ◌-◌, ◌^◌, ◌<◌, ◌==◌, ◌⊎◌, inl, inr, min, max, Bool, true, false, ◌&&◌, ◌||◌, not, List, [], ◌∷◌, length, refl, ap, sym, ◌∙◌, arith, bit_or, bit_and}
use Rattle.std.proofs.lemmas.Bool.{and_parts, and_from, eqb-true, eq-eqb, not-true, not_from_false}
use Rattle.std.proofs.lemmas.List.{ext_get_or}
use Rattle.std.proofs.lemmas.Nat.Bits.{bit_at_and, bit_at_or, bit_at_not, bit_at-lt}
use Rattle.std.specs.List.{list_all, range_with_len}
use Rattle.std.specs.Int.{bit_at, bit_not, w64}
use Rattle.general_lemmas.proofs.Truth.{same_truth}
use Rattle.board_base.specs.Board.{is_in}
use Rattle.board_base.specs.Squares.{number_of, squares_of}
use Rattle.board_base.specs.SquareNumbers.{is_in-squares_of, length-squares_of, number_of-squares_of}
use Rattle.play_rules.specs.Reach.{IsWithin}
use Rattle.cage_rules.specs.Sets.{all_lists, squares_that, union}
use Rattle.cage_rules.specs.SetSteps.{are_apart, both, outside}
use Rattle.cage_rules.proofs.Filling.{is_in-that, length-that, none-in-zero}
use Rattle.cage_rules.proofs.Tested.{all_board, at_board}

-- a set is told by what is said of each square of the board
pub that-is : (p : ℕ → Bool) (set : List Bool) → length set ≡ 64 → ((s : ℕ) → s < 64 → is_in set s ≡ p s) → set ≡ squares_that p
that-is p set size each = ext_get_or false set (squares_that p) (size ∙ sym (length-that p)) (λ s low. let inside : s < 64 = omega arith in each s inside ∙ sym (is_in-that p s inside))

pub same-that : (p r : ℕ → Bool) → ((s : ℕ) → s < 64 → p s ≡ r s) → squares_that p ≡ squares_that r
same-that p r same = that-is r (squares_that p) (length-that p) (λ s inside. is_in-that p s inside ∙ same s inside)

pub same-set : (a b : List Bool) → length a ≡ 64 → length b ≡ 64 → IsWithin a b → IsWithin b a → a ≡ b
same-set a b sa sb there back = ext_get_or false a b (sa ∙ sym sb) (λ s low. same_truth (is_in a s) (is_in b s) (there s) (back s))

-- what is in both, in either, and outside
pub is_in-both : (a b : List Bool) (s : ℕ) → s < 64 → is_in (both a b) s ≡ (is_in a s && is_in b s)
unfolding both
is_in-both a b s inside = is_in-that (λ s. is_in a s && is_in b s) s inside

pub is_in-union : (a b : List Bool) (s : ℕ) → s < 64 → is_in (union a b) s ≡ (is_in a s || is_in b s)
unfolding union
is_in-union a b s inside = is_in-that (λ s. is_in a s || is_in b s) s inside

pub is_in-outside : (a : List Bool) (s : ℕ) → s < 64 → is_in (outside a) s ≡ not (is_in a s)
unfolding outside
is_in-outside a s inside = is_in-that (λ s. not (is_in a s)) s inside

pub length-both : (a b : List Bool) → length (both a b) ≡ 64
unfolding both
length-both a b = length-that (λ s. is_in a s && is_in b s)

pub length-union : (a b : List Bool) → length (union a b) ≡ 64
unfolding union
length-union a b = length-that (λ s. is_in a s || is_in b s)

-- of sets by tests, again by tests
pub union-that : (p r : ℕ → Bool) → union (squares_that p) (squares_that r) ≡ squares_that (λ s. p s || r s)
union-that p r =
    that-is (λ s. p s || r s) (union (squares_that p) (squares_that r)) (length-union (squares_that p) (squares_that r)) (λ s inside.
    is_in-union (squares_that p) (squares_that r) s inside ∙ ap (λ (x : Bool). x || is_in (squares_that r) s) (is_in-that p s inside) ∙ ap (λ (x : Bool). p s || x) (is_in-that r s inside))

-- bits
one-of : (b : ℕ) → b < 2 → (b ≡ 0) ⊎ (b ≡ 1)
one-of zero low = inl refl
one-of (suc zero) low = inr refl
one-of (suc (suc b)) low = absurd (omega arith)

min-bits : (a b : ℕ) → a < 2 → b < 2 → (min a b == 1) ≡ ((a == 1) && (b == 1))
min-bits a b la lb = elim (one-of a la) [
  | inl za ↦ elim (one-of b lb) [ inl zb ↦ rw (za, zb) refl | inr ob ↦ rw (za, ob) refl ]
  | inr oa ↦ elim (one-of b lb) [ inl zb ↦ rw (oa, zb) refl | inr ob ↦ rw (oa, ob) refl ]
]

max-bits : (a b : ℕ) → a < 2 → b < 2 → (max a b == 1) ≡ ((a == 1) || (b == 1))
max-bits a b la lb = elim (one-of a la) [
  | inl za ↦ elim (one-of b lb) [ inl zb ↦ rw (za, zb) refl | inr ob ↦ rw (za, ob) refl ]
  | inr oa ↦ elim (one-of b lb) [ inl zb ↦ rw (oa, zb) refl | inr ob ↦ rw (oa, ob) refl ]
]

not-bit : (a : ℕ) → a < 2 → (1 - a == 1) ≡ not (a == 1)
not-bit a la = elim (one-of a la) [ inl za ↦ rw za refl | inr oa ↦ rw oa refl ]

-- the bit that says whether s is in the set of a number
pub bit-and : (a b s : ℕ) → (bit_at (bit_and a b) s == 1) ≡ ((bit_at a s == 1) && (bit_at b s == 1))
bit-and a b s = ap (λ (n : ℕ). n == 1) (bit_at_and a b s) ∙ min-bits (bit_at a s) (bit_at b s) (bit_at-lt a s) (bit_at-lt b s)

pub both-bits : (a b : ℕ) → squares_of (bit_and a b) ≡ both (squares_of a) (squares_of b)
unfolding both
both-bits a b =
    that-is (λ s. is_in (squares_of a) s && is_in (squares_of b) s) (squares_of (bit_and a b)) (length-squares_of (bit_and a b)) (λ s inside.
    is_in-squares_of (bit_and a b) s inside ∙ bit-and a b s
    ∙ ap (λ (x : Bool). x && (bit_at b s == 1)) (sym (is_in-squares_of a s inside)) ∙ ap (λ (x : Bool). is_in (squares_of a) s && x) (sym (is_in-squares_of b s inside)))

pub union-bits : (a b : ℕ) → squares_of (bit_or a b) ≡ union (squares_of a) (squares_of b)
unfolding union
union-bits a b =
    that-is (λ s. is_in (squares_of a) s || is_in (squares_of b) s) (squares_of (bit_or a b)) (length-squares_of (bit_or a b)) (λ s inside.
    is_in-squares_of (bit_or a b) s inside ∙ ap (λ (n : ℕ). n == 1) (bit_at_or a b s) ∙ max-bits (bit_at a s) (bit_at b s) (bit_at-lt a s) (bit_at-lt b s)
    ∙ ap (λ (x : Bool). x || (bit_at b s == 1)) (sym (is_in-squares_of a s inside)) ∙ ap (λ (x : Bool). is_in (squares_of a) s || x) (sym (is_in-squares_of b s inside)))

pub outside-bits : (a : ℕ) → a < 2 ^ 64 → squares_of (bit_not w64 a) ≡ outside (squares_of a)
unfolding outside
outside-bits a fits =
    that-is (λ s. not (is_in (squares_of a) s)) (squares_of (bit_not w64 a)) (length-squares_of (bit_not w64 a)) (λ s inside.
    is_in-squares_of (bit_not w64 a) s inside ∙ ap (λ (n : ℕ). n == 1) (bit_at_not w64 a s fits inside) ∙ not-bit (bit_at a s) (bit_at-lt a s) ∙ ap not (sym (is_in-squares_of a s inside)))

-- the number of a set is 0 where no square is in it, and only there
pub none-bits : (set : List Bool) (n : ℕ) → n ≡ number_of set → squares_of n ≡ set → (n == 0) ≡ list_all (λ s. not (is_in set s)) (range_with_len 0 64)
none-bits set n number squares =
    same_truth (n == 0) (list_all (λ s. not (is_in set s)) (range_with_len 0 64))
    (λ zero_is. all_board (λ s. not (is_in set s)) (λ s inside. not_from_false _ (ap (λ (l : List Bool). is_in l s) (sym squares ∙ ap squares_of (eqb-true n 0 zero_is)) ∙ none-in-zero s)))
    (λ none.
    let size : length set ≡ 64 = ap length (sym squares) ∙ length-squares_of n in
    let empty : set ≡ squares_of 0 = ext_get_or false set (squares_of 0) (size ∙ sym (length-squares_of 0)) (λ s low. not-true _ (at_board (λ s. not (is_in set s)) s none (omega arith)) ∙ sym (none-in-zero s)) in
    eq-eqb n 0 (number ∙ ap number_of empty ∙ number_of-squares_of 0 (omega arith)))

pub apart-bits : (a b : List Bool) (n : ℕ) → n ≡ number_of (both a b) → squares_of n ≡ both a b → (n == 0) ≡ are_apart a b
unfolding are_apart
apart-bits a b n number squares =
    none-bits (both a b) n number squares
    ∙ same_truth _ _
    (λ none. all_board (λ s. not (is_in a s && is_in b s)) (λ s inside. ap not (sym (is_in-both a b s inside)) ∙ at_board (λ s. not (is_in (both a b) s)) s none inside))
    (λ none. all_board (λ s. not (is_in (both a b) s)) (λ s inside. ap not (is_in-both a b s inside) ∙ at_board (λ s. not (is_in a s && is_in b s)) s none inside))

-- a test of each list of n truth values
pub lists-told : (n : ℕ) (p : List Bool → Bool) (set : List Bool) → all_lists n p ≡ true → length set ≡ n → p set ≡ true
unfolding all_lists
lists-told zero p [] h size = h
lists-told zero p (x ∷ set) h size = absurd (omega arith)
lists-told (suc n) p [] h size = absurd (omega arith)
lists-told (suc n) p (true ∷ set) h size = lists-told n (λ rest. p (true ∷ rest)) set (and_parts _ _ h).0 (omega arith)
lists-told (suc n) p (false ∷ set) h size = lists-told n (λ rest. p (false ∷ rest)) set (and_parts _ _ h).1 (omega arith)

pub lists-tell : (n : ℕ) (p : List Bool → Bool) → ((set : List Bool) → length set ≡ n → p set ≡ true) → all_lists n p ≡ true
unfolding all_lists
lists-tell zero p h = h [] refl
lists-tell (suc n) p h = and_from _ _ (lists-tell n (λ rest. p (true ∷ rest)) (λ rest size. h (true ∷ rest) (ap suc size))) (lists-tell n (λ rest. p (false ∷ rest)) (λ rest size. h (false ∷ rest) (ap suc size)))
