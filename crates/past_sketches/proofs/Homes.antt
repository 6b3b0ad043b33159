-- The squares of pawns' quiet moves.
use Rattle.std.proofs.Common.{◌≡◌, ◌≢◌, ℕ, ◌+◌, ◌<◌, inl, inr, true, false, arith}
use Rattle.std.proofs.lemmas.Bool.{and_from, or_cases, eqb-true, eq-eqb, lt-ltb, false_from_ne_true}
use Rattle.board_base.specs.Board.{file, rank}
use Rattle.board_base.specs.Attacks.{distance, one_ahead, ranks_apart}
use Rattle.board_base.specs.Play.{ahead}
use Rattle.board_base.specs.Legal.{pawn_rank}
use Rattle.board_base.specs.declared.men.Colour.{Colour}
use Rattle.board_base.specs.declared.men.Colour.TheVariants.{White, Black}
use Rattle.play_rules.specs.Laws.{is_end}
use Rattle.cage_rules.specs.Frozen.{is_past_home}
use Rattle.cage_rules.proofs.PawnEntries.{inner}

pub not-end : (s : ℕ) → rank s ≢ 0 → rank s ≢ 7 → is_end s ≡ false
not-end s first last = false_from_ne_true _ (λ end. elim (or_cases _ _ end) [ inl a ↦ first (eqb-true _ 0 a) | inr b ↦ last (eqb-true _ 7 b) ])

-- a pawn that has gone one square ahead, and stays a pawn
pub pawn-past : (c : Colour) (s t : ℕ) → s < 64 → t < 64 → one_ahead c s t ≡ true → is_end s ≡ false → is_end t ≡ false → is_past_home c t ≡ true
pawn-past White s t below small up s_inner t_inner =
    let e : rank t ≡ rank s + 1 = eqb-true _ _ up in
    let first = (inner s s_inner).0 in
    let last = (inner t t_inner).1 in
    let low : 1 < rank t = omega arith in
    let high : rank t < 7 = omega arith in
    and_from _ _ (lt-ltb _ _ low) (lt-ltb _ _ high)
pawn-past Black s t below small up s_inner t_inner =
    let e : rank s ≡ rank t + 1 = eqb-true _ _ up in
    let last = (inner s s_inner).1 in
    let first = (inner t t_inner).0 in
    let low : 0 < rank t = omega arith in
    let high : rank t < 6 = omega arith in
    and_from _ _ (lt-ltb _ _ low) (lt-ltb _ _ high)

-- the two steps of a double step, of which x is the first
pub record TwoSteps (c : Colour) (s x t : ℕ) : Type 0 where
  pub within : x < 64
  pub first : one_ahead c s x ≡ true
  pub second : one_ahead c x t ≡ true
  pub file_first : file s ≡ file x
  pub file_second : file x ≡ file t
  pub inner_first : is_end s ≡ false
  pub inner_crossed : is_end x ≡ false
  pub apart : x ≢ t

pub two-steps : (c : Colour) (s x t : ℕ) → t < 64 → rank s ≡ pawn_rank c → file s ≡ file t → ranks_apart s t ≡ 2 → x ≡ ahead c s → TwoSteps c s x t
unfolding distance
two-steps White s x t small home same two e = record { within = omega arith; first = eq-eqb _ _ (omega arith); second = eq-eqb _ _ (omega arith); file_first = omega arith; file_second = omega arith; inner_first = not-end s (λ a. omega arith) (λ b. omega arith); inner_crossed = not-end x (λ a. omega arith) (λ b. omega arith); apart = λ a. omega arith }
two-steps Black s x t small home same two e = record { within = omega arith; first = eq-eqb _ _ (omega arith); second = eq-eqb _ _ (omega arith); file_first = omega arith; file_second = omega arith; inner_first = not-end s (λ a. omega arith) (λ b. omega arith); inner_crossed = not-end x (λ a. omega arith) (λ b. omega arith); apart = λ a. omega arith }
