-- The lines of claims of several steps.
use Rattle.std.specs.Prelude.{ℕ, zero, suc, ◌≤◌, Bool, cond, ◌&&◌, ◌==◌, nat_eq, nat_lt, IsTrue, List, [], ◌∷◌, ◌++◌, length, drop, codes, Option, Some, None}
use Rattle.std.specs.List.{list_all, starts_with}
use Rattle.std.specs.Option.{option_map}
use Rattle.board_base.specs.Texts.{◌>>=◌, can_capture, can_promote, unmove_from, unmove_text}
use Rattle.board_base.specs.declared.castles.Castle.{Castle}
use Rattle.board_base.specs.declared.castles.Castle.TheVariants.{WhiteShort, WhiteLong, BlackShort, BlackLong}
use Rattle.board_base.specs.declared.unmoves.Unmove.{Unmove}
use Rattle.fen_text.specs.Fen.{castle_letter}
use Rattle.fen_text.specs.Parts.{parted}
use Rattle.line_claims.specs.declared.claims.LineClaim.{LineClaim}
use Rattle.line_claims.specs.declared.claims.LineClaim.TheVariants.{NotBoth, Line}

-- the place of the castling in the order K, Q, k, q, counted from 0
abbrev pub castle_place : Castle → ℕ
castle_place WhiteShort = 0
castle_place WhiteLong = 1
castle_place BlackShort = 2
castle_place BlackLong = 3

-- the castling of a letter
abbrev pub castling_lettered : ℕ → Option Castle
castling_lettered b =
    cond (b == castle_letter WhiteShort) (Some WhiteShort) (
    cond (b == castle_letter WhiteLong) (Some WhiteLong) (
    cond (b == castle_letter BlackShort) (Some BlackShort) (
    cond (b == castle_letter BlackLong) (Some BlackLong) None)))

-- the first castling stands before the second in the order K, Q, k, q
abbrev pub in_order : Castle → Castle → Bool
in_order x y = nat_lt (castle_place x) (castle_place y)

-- the claim of two castlings, if they are in order
abbrev pub both_claimed : Castle → Castle → Option LineClaim
both_claimed x y = cond (in_order x y) (Some (NotBoth x y)) None

-- the claim of two letters
abbrev pub castles_lettered : ℕ → ℕ → Option LineClaim
castles_lettered a b = castling_lettered a >>= (λ x. castling_lettered b >>= both_claimed x)

-- the claim of two letters with a space between them
abbrev pub castles_of : List ℕ → Option LineClaim
castles_of (a ∷ s ∷ b ∷ []) = cond (s == 32) (castles_lettered a b) None
castles_of _ = None

-- the steps of a text: texts of unmoves, at least one and at most so many, with one space between two
unfoldable pub steps_of : ℕ → List ℕ → Option (List Unmove)
steps_of zero text = None
steps_of (suc n) text = parted 32 unmove_from (λ u. Some (u ∷ [])) (λ u rest. option_map (λ us. u ∷ us) (steps_of n rest)) text

-- the claim of a line: `claim notboth` and two castlings in order, or `claim line` and one to sixteen unmoves
unfoldable pub line_claim_of : List ℕ → Option LineClaim
line_claim_of text =
    cond (starts_with nat_eq text (codes "claim notboth ")) (castles_of (drop 14 text)) (
    cond (starts_with nat_eq text (codes "claim line ")) (option_map (λ us. Line us) (steps_of 16 (drop 11 text))) None)

-- the texts of the steps, with one space between two
abbrev pub steps_text : List Unmove → List ℕ
steps_text [] = []
steps_text (u ∷ []) = unmove_text u
steps_text (u ∷ v ∷ us) = unmove_text u ++ 32 ∷ steps_text (v ∷ us)

-- the one line of a claim
abbrev pub line_claim_text : LineClaim → List ℕ
line_claim_text (NotBoth x y) = codes "claim notboth " ++ castle_letter x ∷ 32 ∷ castle_letter y ∷ []
line_claim_text (Line steps) = codes "claim line " ++ steps_text steps

-- the unmove has a text
abbrev pub has_text : Unmove → Bool
has_text u = can_promote u.mv.promo && can_capture u.mv.promo u.captured u.ep

-- one to sixteen steps, each with a text
pub record AreSteps (steps : List Unmove) : Type 0 where
  pub some : 1 ≤ length steps
  pub few : length steps ≤ 16
  pub texts : IsTrue (list_all has_text steps)

-- the claim has a line: its castlings are in order, or its steps have texts
abbrev pub HasLine : LineClaim → Type 0
HasLine (NotBoth x y) = IsTrue (in_order x y)
HasLine (Line steps) = AreSteps steps
