-- The squares from which a man may have come to a square, as steps from it.
use Rattle.std.proofs.Common.{◌≡◌, ℕ, ◌+◌, ◌<◌, ◌==◌, inl, inr, Bool, true, false, cond, ◌&&◌, ◌||◌, length, set, refl, ap, sym, ◌∙◌, arith}
use Rattle.std.proofs.lemmas.Bool.{and_parts, and_from, both_ways, cases_eq, eq-eqb, eqb-true, ne_eqb}
use Rattle.std.proofs.lemmas.List.{get_or-set_same, get_or-set_other}
use Rattle.std.specs.Prelude.{nat_lt}
use Rattle.general_lemmas.proofs.Truth.{same_truth}
use Rattle.board_base.specs.Board.{file, is_in, opponent, rank}
use Rattle.board_base.specs.Attacks.{on_one_diagonal, on_one_line, one_ahead}
use Rattle.board_base.specs.Legal.{is_officer, last_rank}
use Rattle.board_base.specs.Squares.{squares_of}
use Rattle.board_base.specs.SquareNumbers.{length-squares_of}
use Rattle.board_base.specs.declared.men.Colour.{Colour}
use Rattle.board_base.specs.declared.men.Colour.TheVariants.{White, Black}
use Rattle.board_base.specs.declared.men.Kind.{Kind}
use Rattle.board_base.specs.declared.men.Kind.TheVariants.{Pawn, Knight, Bishop, Rook, Queen, King}
use Rattle.board_base.proofs.Ways.{diagonal-back, distance-sym, king_distance-sym, line-back}
use Rattle.cage_rules.specs.Frozen.{is_before_promotion, is_behind, is_entry, is_next, is_past_home, is_plain_entry}
use Rattle.cage_rules.specs.Sets.{squares_that, union}
use Rattle.cage_rules.specs.Steps.{is_ahead, is_near, is_step, near}
use Rattle.cage_rules.proofs.Entries.{knight-back}
use Rattle.cage_rules.proofs.Filling.{none-in-zero}
use Rattle.cage_rules.proofs.Near.{is_in-near, length-near, near-tells, near-told}
use Rattle.cage_rules.proofs.SetAlgebra.{same-that, that-is, union-that}
use Rattle.sketch_grounds.specs.Entries.{pawn_enters}
use Rattle.past_account.specs.Frozen.{enters_as}

-- the set of one square
pub only-member : (s t : ℕ) → s < 64 → is_in (set (squares_of 0) s true) t ≡ true → t ≡ s
only-member s t inside member = elim (cases_eq t s) [
  | inl same ↦ same
  | inr other ↦ absurd (both_ways _ (none-in-zero t) (sym (get_or-set_other (squares_of 0) s t true false other) ∙ member))
]

pub member-there : (s : ℕ) → s < 64 → is_in (set (squares_of 0) s true) s ≡ true
member-there s inside = let full : length (squares_of 0) ≡ 64 = length-squares_of 0 in get_or-set_same (squares_of 0) s true false (omega arith)

-- the squares that are so placed to one square
pub near-one : (p q : ℕ → ℕ → Bool) (s : ℕ) → s < 64 → ((t : ℕ) → t < 64 → p t s ≡ q s t) → near p (set (squares_of 0) s true) ≡ squares_that (q s)
near-one p q s inside back =
    that-is (q s) (near p (set (squares_of 0) s true)) (length-near p (set (squares_of 0) s true)) (λ t ti.
    is_in-near p (set (squares_of 0) s true) t ti
    ∙ same_truth (is_near p (set (squares_of 0) s true) t) (q s t)
    (λ near_it. let from = near-told p (set (squares_of 0) s true) t near_it in sym (back t ti) ∙ ap (p t) (sym (only-member s from.square inside from.member)) ∙ from.placed)
    (λ here. near-tells p (set (squares_of 0) s true) t (record { square = s; inside = inside; placed = back t ti ∙ here; member = member-there s inside })))

next-back : (s t : ℕ) → is_next t s ≡ is_next s t
next-back s t = ap (λ (n : ℕ). n == 1) (king_distance-sym t s)

line-same : (s t : ℕ) → on_one_line t s ≡ on_one_line s t
line-same s t = same_truth (on_one_line t s) (on_one_line s t) (line-back t s) (line-back s t)

diagonal-same : (s t : ℕ) → on_one_diagonal t s ≡ on_one_diagonal s t
diagonal-same s t = same_truth (on_one_diagonal t s) (on_one_diagonal s t) (diagonal-back t s) (diagonal-back s t)

-- a step leads back
pub step-back : (k : Kind) (s t : ℕ) → is_step k t s ≡ is_step k s t
unfolding is_step
step-back Pawn s t = refl
step-back Knight s t = ap (λ (n : ℕ). n == 2) (knight-back t s)
step-back Bishop s t = ap (λ (b : Bool). b && on_one_diagonal t s) (next-back s t) ∙ ap (λ (b : Bool). is_next s t && b) (diagonal-same s t)
step-back Rook s t = ap (λ (b : Bool). b && on_one_line t s) (next-back s t) ∙ ap (λ (b : Bool). is_next s t && b) (line-same s t)
step-back Queen s t = next-back s t
step-back King s t = next-back s t

pub behind-back : (c : Colour) (s t : ℕ) → is_behind (opponent c) t s ≡ is_behind c s t
behind-back White s t = ap (λ (n : ℕ). (rank s == rank t + 1) && nat_lt n 2) (distance-sym (file t) (file s))
behind-back Black s t = ap (λ (n : ℕ). (rank t == rank s + 1) && nat_lt n 2) (distance-sym (file t) (file s))

-- on one file, one ahead of the other
abbrev pub straight_behind : Colour → ℕ → ℕ → Bool
straight_behind c s t = one_ahead c t s && (file s == file t)

swapped : (a b : Bool) (m n : ℕ) → ((m == n) && a) ≡ (a && (n == m))
swapped a b m n = same_truth _ _
    (λ h. let parts = and_parts (m == n) a h in and_from _ _ parts.1 (eq-eqb n m (sym (eqb-true m n parts.0))))
    (λ h. let parts = and_parts a (n == m) h in and_from _ _ (eq-eqb m n (sym (eqb-true n m parts.1))) parts.0)

pub ahead-back : (c : Colour) (s t : ℕ) → is_ahead (opponent c) t s ≡ straight_behind c s t
ahead-back White s t = swapped (rank s == rank t + 1) true (file t) (file s)
ahead-back Black s t = swapped (rank t == rank s + 1) true (file t) (file s)

-- as sets
pub behind-made : (c : Colour) (s : ℕ) → s < 64 → near (is_behind (opponent c)) (set (squares_of 0) s true) ≡ squares_that (is_behind c s)
behind-made c s inside = near-one (is_behind (opponent c)) (is_behind c) s inside (λ t ti. behind-back c s t)

pub straight-made : (c : Colour) (s : ℕ) → s < 64 → near (is_ahead (opponent c)) (set (squares_of 0) s true) ≡ squares_that (straight_behind c s)
straight-made c s inside = near-one (is_ahead (opponent c)) (straight_behind c) s inside (λ t ti. ahead-back c s t)

pub steps-made : (k : Kind) (s : ℕ) → s < 64 → near (is_step k) (set (squares_of 0) s true) ≡ squares_that (is_step k s)
steps-made k s inside = near-one (is_step k) (is_step k) s inside (λ t ti. step-back k s t)

-- no square
pub none-that : (p : ℕ → Bool) → ((t : ℕ) → t < 64 → p t ≡ false) → squares_of 0 ≡ squares_that p
none-that p none = that-is p (squares_of 0) (length-squares_of 0) (λ t ti. none-in-zero t ∙ sym (none t ti))

-- entries by kinds
pub enters-pawn : (marked : Bool) (c : Colour) (s t : ℕ) → pawn_enters marked c s t ≡ enters_as marked c Pawn s t
unfolding is_entry is_plain_entry
enters-pawn true c s t = refl
enters-pawn false c s t = refl

pub enters-king : (marked : Bool) (c : Colour) (s t : ℕ) → is_step King s t ≡ enters_as marked c King s t
unfolding is_entry is_plain_entry is_step
enters-king true c s t = refl
enters-king false c s t = refl

pub enters-plain : (c : Colour) (k : Kind) (s t : ℕ) → is_officer k ≡ true → is_step k s t ≡ enters_as true c k s t
unfolding is_plain_entry is_step
enters-plain c Pawn s t officer = absurd (both_ways false refl officer)
enters-plain c Knight s t officer = refl
enters-plain c Bishop s t officer = refl
enters-plain c Rook s t officer = refl
enters-plain c Queen s t officer = refl
enters-plain c King s t officer = absurd (both_ways false refl officer)

pub enters-any : (c : Colour) (k : Kind) (s t : ℕ) → is_officer k ≡ true → (is_step k s t || is_before_promotion c s t) ≡ enters_as false c k s t
unfolding is_entry is_step
enters-any c Pawn s t officer = absurd (both_ways false refl officer)
enters-any c Knight s t officer = refl
enters-any c Bishop s t officer = refl
enters-any c Rook s t officer = refl
enters-any c Queen s t officer = refl
enters-any c King s t officer = absurd (both_ways false refl officer)

pub entries-any : (c : Colour) (k : Kind) (s : ℕ) → is_officer k ≡ true → union (squares_that (is_step k s)) (squares_that (is_before_promotion c s)) ≡ squares_that (enters_as false c k s)
entries-any c k s officer = union-that (is_step k s) (is_before_promotion c s) ∙ same-that (λ t. is_step k s t || is_before_promotion c s t) (enters_as false c k s) (λ t ti. enters-any c k s t officer)

pub entries-plain : (c : Colour) (k : Kind) (s : ℕ) → is_officer k ≡ true → squares_that (is_step k s) ≡ squares_that (enters_as true c k s)
entries-plain c k s officer = same-that (is_step k s) (enters_as true c k s) (λ t ti. enters-plain c k s t officer)

pub entries-king : (marked : Bool) (c : Colour) (s : ℕ) → squares_that (is_step King s) ≡ squares_that (enters_as marked c King s)
entries-king marked c s = same-that (is_step King s) (enters_as marked c King s) (λ t ti. enters-king marked c s t)

pub entries-pawn : (marked : Bool) (c : Colour) (s : ℕ) → squares_that (pawn_enters marked c s) ≡ squares_that (enters_as marked c Pawn s)
entries-pawn marked c s = same-that (pawn_enters marked c s) (enters_as marked c Pawn s) (λ t ti. enters-pawn marked c s t)

-- none
pub enters-none : (marked : Bool) (c : Colour) (s t : ℕ) → is_past_home c s ≡ false → pawn_enters marked c s t ≡ false
enters-none marked c s t h = ap (λ (b : Bool). b && cond marked (straight_behind c s t) (is_behind c s t)) h

pub before-none : (c : Colour) (s t : ℕ) → (rank s ≡ last_rank c → ⊥) → is_before_promotion c s t ≡ false
before-none c s t other = ap (λ (b : Bool). b && is_behind c s t) (ne_eqb (rank s) (last_rank c) other)
