-- Pawns of one file don't pass one another by quiet moves.
use Rattle.std.proofs.Common.{◌≡◌, ◌≢◌, ℕ, ◌+◌, ◌<◌, ◌==◌, inl, inr, Bool, true, false, ◌&&◌, ◌||◌, not, refl, arith}
use Rattle.std.proofs.lemmas.Bool.{and_parts, and_from, or_cases, or_left, or_right, both_ways, cases_Bool, eqb-true, lt-ltb, not_from_false, not-true}
use Rattle.std.specs.Prelude.{nat_lt}
use Rattle.std.specs.List.{list_all, list_any, range_with_len}
use Rattle.general_lemmas.proofs.Ranges.{all_in_range, any-found}
use Rattle.board_base.specs.Board.{file, is_in, rank, same_kind}
use Rattle.board_base.specs.Attacks.{one_ahead}
use Rattle.board_base.specs.declared.men.Colour.{Colour}
use Rattle.board_base.specs.declared.men.Colour.TheVariants.{White, Black}
use Rattle.board_base.specs.declared.men.Kind.TheVariants.{Pawn}
use Rattle.past_sketches.specs.Figures.{Figure}
use Rattle.past_sketches.specs.FileOrder.{is_pawn_on, stands_beside}

-- a square w of one file lies on one side of two squares
pub record Sides (e t w : ℕ) : Type 0 where
  pub up : rank e < rank w → rank t < rank w
  pub down : rank w < rank e → rank w < rank t
  pub up_back : rank t < rank w → rank e < rank w
  pub down_back : rank w < rank t → rank w < rank e

pub other-rank : (s t : ℕ) → file s ≡ file t → s ≢ t → rank s ≢ rank t
other-rank s t same other level = other (let e : s ≡ t = omega arith in e)

pub step-sides : (c : Colour) (e t w : ℕ) → one_ahead c e t ≡ true → rank w ≢ rank e → rank w ≢ rank t → Sides e t w
step-sides White e t w ahead a b = let u : rank t ≡ rank e + 1 = eqb-true _ _ ahead in record { up = λ h. omega arith; down = λ h. omega arith; up_back = λ h. omega arith; down_back = λ h. omega arith }
step-sides Black e t w ahead a b = let u : rank e ≡ rank t + 1 = eqb-true _ _ ahead in record { up = λ h. omega arith; down = λ h. omega arith; up_back = λ h. omega arith; down_back = λ h. omega arith }

pub then-sides : (e x t w : ℕ) → Sides e x w → Sides x t w → Sides e t w
then-sides e x t w a b = record { up = λ h. b.up (a.up h); down = λ h. b.down (a.down h); up_back = λ h. a.up_back (b.up_back h); down_back = λ h. a.down_back (b.down_back h) }

-- where a figure who is a pawn on the file of e stands on a square on the right side of it
pub room-by : (g : Figure) (e w : ℕ) (lower higher : Bool) → w < 64 → is_in g.squares w ≡ true → (file w ≡ file e → (list_all (same_kind Pawn) g.kinds ≡ true) → (lower ≡ true → rank w < rank e) × (higher ≡ true → rank e < rank w)) → stands_beside e lower higher g ≡ true
room-by g e w lower higher small member side = elim (cases_Bool (is_pawn_on (file e) g)) [
  | inr other ↦ or_left _ _ (not_from_false _ other)
  | inl pawn ↦
      let parts = and_parts (list_all (same_kind Pawn) g.kinds) (list_all (λ q. not (is_in g.squares q) || (file q == file e)) (range_with_len 0 64)) pawn in
      let here : file w ≡ file e = elim (or_cases _ _ (all_in_range (λ q. not (is_in g.squares q) || (file q == file e)) 0 64 w parts.1 (omega arith) (omega arith))) [
        | inl out ↦ absurd (both_ways _ (not-true _ out) member)
        | inr same ↦ eqb-true _ _ same
      ] in
      let both = side here parts.0 in
      or_right (not (is_pawn_on (file e) g)) _ (and_from _ _ (on_side lower (λ q. nat_lt (rank q) (rank e)) (λ is. lt-ltb _ _ (both.0 is))) (on_side higher (λ q. nat_lt (rank e) (rank q)) (λ is. lt-ltb _ _ (both.1 is))))
]
  where
    on_side : (asked : Bool) (test : ℕ → Bool) → (asked ≡ true → test w ≡ true) → (not asked || list_any (λ q. is_in g.squares q && test q) (range_with_len 0 64)) ≡ true
    on_side false test h = refl
    on_side true test h = any-found (λ q. is_in g.squares q && test q) 0 64 w (omega arith) (omega arith) (and_from _ _ member (h refl))

-- the file of a figure who is a pawn on one
pub pawn-file : (g : Figure) (n w : ℕ) → w < 64 → is_in g.squares w ≡ true → is_pawn_on n g ≡ true → (file w ≡ n) × (list_all (same_kind Pawn) g.kinds ≡ true)
pawn-file g n w small member pawn =
    let parts = and_parts (list_all (same_kind Pawn) g.kinds) (list_all (λ q. not (is_in g.squares q) || (file q == n)) (range_with_len 0 64)) pawn in (
      elim (or_cases _ _ (all_in_range (λ q. not (is_in g.squares q) || (file q == n)) 0 64 w parts.1 (omega arith) (omega arith))) [
        | inl out ↦ absurd (both_ways _ (not-true _ out) member)
        | inr same ↦ eqb-true _ _ same
      ],
      parts.0,
    )
