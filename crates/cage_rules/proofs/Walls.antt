-- A man who goes over empty squares goes between the walls of a set whose squares are occupied.
use Rattle.std.proofs.Common.{◌≡◌, ℕ, zero, suc, ◌+◌, ◌-◌, ◌<◌, inl, inr, Bool, true, false, List, map, refl, ap, ◌∙◌, arith}
use Rattle.std.proofs.lemmas.Bool.{and_parts, and_from, both_ways, cases_lt, cases_Bool}
use Rattle.std.proofs.lemmas.List.{get_or_past}
use Rattle.std.proofs.lemmas.List.FromFn.{length-map-range_with_len, get_or-map-range_with_len}
use Rattle.std.specs.Prelude.{None}
use Rattle.std.specs.List.{list_all, range_with_len}
use Rattle.board_base.specs.Board.{Places, at, is_empty, is_in}
use Rattle.board_base.specs.Attacks.{is_open, kind_attacks, king_distance, on_the_way}
use Rattle.board_base.specs.declared.men.Colour.{Colour}
use Rattle.board_base.specs.declared.men.Kind.{Kind}
use Rattle.board_base.specs.declared.men.Kind.TheVariants.{Pawn, Knight, Bishop, Rook, Queen, King}
use Rattle.cage_rules.specs.Regions.{wall, walls}

-- what holds where another test does
all-more : (p r : ℕ → Bool) → ((i : ℕ) → p i ≡ true → r i ≡ true) → (k n : ℕ) → list_all p (range_with_len k n) ≡ true → list_all r (range_with_len k n) ≡ true
all-more p r more k zero h = refl
all-more p r more k (suc n) h = let parts = and_parts _ _ h in and_from _ _ (more k parts.0) (all-more p r more (k + 1) n parts.1)

pub at-walls : (set : List Bool) (s : ℕ) → s < 64 → at (walls set) s ≡ wall (is_in set s)
unfolding walls
at-walls set s inside = get_or-map-range_with_len (λ x. wall (is_in set x)) 0 64 s s None inside (omega arith)

-- outside the set nobody stands there
pub no-wall : (set : List Bool) (s : ℕ) → is_in set s ≡ false → is_empty (at (walls set) s) ≡ true
unfolding walls
no-wall set s out = elim (cases_lt s 64) [
  | inl inside ↦ ap is_empty (get_or-map-range_with_len (λ x. wall (is_in set x)) 0 64 s s None inside (omega arith) ∙ ap wall out)
  | inr past ↦ ap is_empty (get_or_past (map (λ x. wall (is_in set x)) (range_with_len 0 64)) s None (omega (arith, length-map-range_with_len (λ x. wall (is_in set x)) 0 64)))
]

-- each square of the set is occupied
abbrev pub IsFull : Places → List Bool → Type 0
IsFull board set = (s : ℕ) → is_in set s ≡ true → is_empty (at board s) ≡ false

empty-out : (board : Places) (set : List Bool) (s : ℕ) → IsFull board set → is_empty (at board s) ≡ true → is_empty (at (walls set) s) ≡ true
empty-out board set s full none = elim (cases_Bool (is_in set s)) [
  | inl member ↦ absurd (both_ways _ (full s member) none)
  | inr out ↦ no-wall set s out
]

open-between : (board : Places) (set : List Bool) (s t : ℕ) → IsFull board set → is_open board s t ≡ true → is_open (walls set) s t ≡ true
open-between board set s t full clear =
    all-more (λ k. is_empty (at board (on_the_way s t k))) (λ k. is_empty (at (walls set) (on_the_way s t k))) (λ k none. empty-out board set (on_the_way s t k) full none) 1 (king_distance s t - 1) clear

pub goes-between : (board : Places) (set : List Bool) (c : Colour) (k : Kind) (s t : ℕ) → IsFull board set → kind_attacks board c k s t ≡ true → kind_attacks (walls set) c k s t ≡ true
unfolding kind_attacks
goes-between board set c Pawn s t full h = h
goes-between board set c Knight s t full h = h
goes-between board set c Bishop s t full h = let parts = and_parts _ _ h in and_from _ _ parts.0 (open-between board set s t full parts.1)
goes-between board set c Rook s t full h = let parts = and_parts _ _ h in and_from _ _ parts.0 (open-between board set s t full parts.1)
goes-between board set c Queen s t full h = let parts = and_parts _ _ h in and_from _ _ parts.0 (open-between board set s t full parts.1)
goes-between board set c King s t full h = h
