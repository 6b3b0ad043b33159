-- A king castles exactly where it goes two squares along its rank from home.
use Rattle.std.proofs.Common.{◌≡◌, ℕ, ◌<◌, Bool, true, false, cond, ◌&&◌, ◌==◌, not, List, [], ◌∷◌, inl, inr, refl, ap, sym, ◌∙◌, arith}
use Rattle.std.proofs.lemmas.Bool.{and_left, and_right, cases_lt, both_ways, ne_eqb}
use Rattle.std.specs.Prelude.{Option, Some, None, is_none, IsNone, ◌↔◌}
use Rattle.std.specs.List.{find, list_all, range_with_len}
use Rattle.board_base.proofs.Ranges.{all_in_range}
use Rattle.board_base.specs.Attacks.{distance, files_apart}
use Rattle.board_base.specs.Board.{rank, same_kind}
use Rattle.board_base.specs.Play.{all_castles, castling_from, king_home, king_target}
use Rattle.board_base.specs.declared.castles.Castle.{Castle}
use Rattle.board_base.specs.declared.men.Man.{Man}
use Rattle.board_base.specs.declared.men.Colour.{Colour}
use Rattle.board_base.specs.declared.men.Colour.TheVariants.{White, Black}
use Rattle.board_base.specs.declared.men.Kind.TheVariants.{King}
use Rattle.board_base.specs.declared.moves.Move.{Move}
use Rattle.board_base.proofs.CastleSquares.{king_home-within, king_target-within}
use Rattle.castle_history.specs.TakenBack.{goes_two, goes_two_from_home, king_square, of_king, of_side}

abbrev is_missing : Colour → ℕ → ℕ → Bool
is_missing c from to = is_none (of_side c (castling_from from to))

abbrev agrees : Colour → ℕ → ℕ → Bool
agrees c from to = cond (is_missing c from to) (not (goes_two c from to)) (goes_two c from to)

all-agree : (c : Colour) → list_all (λ from. list_all (agrees c from) (range_with_len 0 64)) (range_with_len 0 64) ≡ true
unfolding distance
all-agree White = refl
all-agree Black = refl

agreed : (a b : Bool) → cond a (not b) b ≡ true → a ≡ not b
agreed true b h = sym h
agreed false b h = sym (ap not h)

none_passes : {A : Type 0} (p : A → Bool) (xs : List A) → ((x : A) → p x ≡ false) → find p xs ≡ None
none_passes p [] fails = refl
none_passes p (x ∷ xs) fails = ap (λ (b : Bool). cond b (Some x) (find p xs)) (fails x) ∙ none_passes p xs fails

missing : (c : Colour) (from to : ℕ) → castling_from from to ≡ None → goes_two c from to ≡ false → is_missing c from to ≡ not (goes_two c from to)
missing c from to none stays = ap (λ (o : Option Castle). is_none (of_side c o)) none ∙ sym (ap not stays)

home-within : (c : Colour) → king_square c < 64
home-within White = omega arith
home-within Black = omega arith

-- none exactly where the king doesn't go so
none-castled : (c : Colour) (from to : ℕ) → is_missing c from to ≡ not (goes_two c from to)
none-castled c from to = elim (cases_lt from 64) [
  | inl f ↦ elim (cases_lt to 64) [
    | inl t ↦
        agreed _ _ (all_in_range (agrees c from) 0 64 to (all_in_range (λ s. list_all (agrees c s) (range_with_len 0 64)) 0 64 from (all-agree c) (omega arith) (omega arith)) (omega arith) (omega arith))
    | inr past ↦ missing c from to (none_passes (λ x. (king_home x == from) && (king_target x == to)) all_castles (λ x. and_right (king_home x == from) (king_target x == to) (ne_eqb _ _ (λ e. omega (arith, king_target-within x, e))))) (and_left ((from == king_square c) && (rank from == rank to)) (files_apart from to == 2) (and_right (from == king_square c) (rank from == rank to) (ne_eqb (rank from) (rank to) (λ e. omega (arith, e)))))
  ]
  | inr past ↦ missing c from to (none_passes (λ x. (king_home x == from) && (king_target x == to)) all_castles (λ x. and_left (king_home x == from) (king_target x == to) (ne_eqb _ _ (λ e. omega (arith, king_home-within x, e))))) (and_left ((from == king_square c) && (rank from == rank to)) (files_apart from to == 2) (and_left (from == king_square c) (rank from == rank to) (ne_eqb _ _ (λ e. omega (arith, home-within c, e)))))
]

none-own : (place : Option Man) (m : Move) → is_none (of_king place (castling_from m.from m.to)) ≡ not (goes_two_from_home place m)
none-own None m = refl
none-own (Some man) m = elim (same_kind King man.kind) as (λ b. is_none (cond b (of_side man.colour (castling_from m.from m.to)) None) ≡ not (b && goes_two man.colour m.from m.to)) [
  | true ↦ none-castled man.colour m.from m.to
  | false ↦ refl
]

none-way : (o : Option Castle) (b : Bool) → is_none o ≡ not b → IsNone o ↔ (b ≡ false)
none-way None false e = (λ h. refl, λ h. refl)
none-way None true e = absurd (both_ways true e refl)
none-way (Some x) true e = (λ h. h, λ h. h)
none-way (Some x) false e = absurd (both_ways false refl e)

-- no castling is taken back exactly where no king on the target went so
pub none-back : (place : Option Man) (m : Move) (o : Option Castle) → o ≡ of_king place (castling_from m.from m.to) → IsNone o ↔ (goes_two_from_home place m ≡ false)
none-back place m o e = none-way o (goes_two_from_home place m) (ap is_none e ∙ none-own place m)
