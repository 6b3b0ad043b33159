-- Men, their kinds and their colours, by the tests that tell them.
use Rattle.std.proofs.Common.{◌≡◌, ℕ, zero, suc, Bool, true, false, ◌&&◌, not, refl, ap, sym, ◌∙◌}
use Rattle.std.proofs.lemmas.Bool.{and_parts, both_ways, false_from_ne_true}
use Rattle.std.specs.Prelude.{Option, Some, None, is_some, replicate}
use Rattle.board_base.specs.Board.{at, is_a, is_empty, is_of, opponent, same_colour, same_kind}
use Rattle.board_base.specs.Legal.{is_officer}
use Rattle.board_base.specs.declared.men.Man.{Man}
use Rattle.board_base.specs.declared.men.Colour.{Colour}
use Rattle.board_base.specs.declared.men.Colour.TheVariants.{White, Black}
use Rattle.board_base.specs.declared.men.Kind.{Kind}
use Rattle.board_base.specs.declared.men.Kind.TheVariants.{Pawn, Knight, Bishop, Rook, Queen, King}

pub kind_is : (j k : Kind) → same_kind j k ≡ true → j ≡ k
kind_is Pawn Pawn h = refl
kind_is Knight Knight h = refl
kind_is Bishop Bishop h = refl
kind_is Rook Rook h = refl
kind_is Queen Queen h = refl
kind_is King King h = refl
kind_is j k h = cc

pub same_kind-self : (k : Kind) → same_kind k k ≡ true
same_kind-self Pawn = refl
same_kind-self Knight = refl
same_kind-self Bishop = refl
same_kind-self Rook = refl
same_kind-self Queen = refl
same_kind-self King = refl

pub colour_is : (c d : Colour) → same_colour c d ≡ true → c ≡ d
colour_is White White h = refl
colour_is Black Black h = refl
colour_is c d h = cc

pub colour_other : (c d : Colour) → same_colour c d ≡ false → opponent c ≡ d
colour_other White Black h = refl
colour_other Black White h = refl
colour_other c d h = cc

pub same_colour-self : (c : Colour) → same_colour c c ≡ true
same_colour-self White = refl
same_colour-self Black = refl

pub opponent-twice : (c : Colour) → opponent (opponent c) ≡ c
opponent-twice White = refl
opponent-twice Black = refl

-- a man of one kind is of another where the kinds are the same, so that a pawn, for one, is no king
pub another_kind : (i j : Kind) (place : Option Man) → is_a j place ≡ true → is_a i place ≡ same_kind i j
another_kind i j None h = absurd (both_ways false refl h)
another_kind i j (Some m) h = ap (same_kind i) (sym (kind_is j m.kind h))

-- what a pawn becomes is of no kind but an officer's
pub no_officer : (i k : Kind) → is_officer i ≡ false → is_officer k ≡ true → same_kind i k ≡ false
no_officer i k none officer = false_from_ne_true _ (λ same. both_ways _ none (ap is_officer (kind_is i k same) ∙ officer))

pub full-some : (place : Option Man) → is_some place ≡ true → is_empty place ≡ false
full-some None h = cc
full-some (Some m) h = refl

pub none-empty : (place : Option Man) → is_some place ≡ false → is_empty place ≡ true
none-empty None h = refl
none-empty (Some m) h = cc

pub full-of : (c : Colour) (place : Option Man) → is_of c place ≡ true → is_empty place ≡ false
full-of c None h = cc
full-of c (Some m) h = refl

-- nobody stands on a board without men
pub none-stand : (n s : ℕ) → at (replicate n None) s ≡ None
none-stand zero s = refl
none-stand (suc n) zero = refl
none-stand (suc n) (suc s) = none-stand n s

-- who is no pawn is not promoted
pub no-promo : (promo : Option Kind) (pawn reaches : Bool) → pawn ≡ false → elim promo as (λ _. Bool) [ None ↦ not (pawn && reaches) | Some k ↦ pawn && reaches && is_officer k ] ≡ true → promo ≡ None
no-promo None pawn reaches other h = refl
no-promo (Some k) pawn reaches other h = absurd (both_ways _ other (and_parts _ _ (and_parts _ _ h).0).0)
