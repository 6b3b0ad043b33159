-- The clock before and after a move.
use Rattle.std.proofs.Common.{◌≡◌, ◌≢◌, ℕ, zero, suc, ◌+◌, ◌==◌, Bool, true, false, cond, ◌&&◌, ◌||◌, not, List, [], ◌∷◌, ◌++◌, refl, ap, ◌∙◌, arith}
use Rattle.std.proofs.lemmas.Bool.{and_parts, both_ways}
use Rattle.std.specs.Prelude.{Option, Some, None, IfSome, is_some}
use Rattle.board_base.specs.Board.{Places, at, is_a, is_empty, rank}
use Rattle.board_base.specs.Play.{promoted}
use Rattle.board_base.specs.Legal.{is_officer, last_rank, promotion_fits}
use Rattle.board_base.specs.Game.{board_after}
use Rattle.board_base.specs.declared.men.Colour.{Colour}
use Rattle.board_base.specs.declared.men.Kind.{Kind}
use Rattle.board_base.specs.declared.men.Kind.TheVariants.{Pawn}
use Rattle.board_base.specs.declared.men.Man.{Man}
use Rattle.board_base.specs.declared.moves.Move.{Move}
use Rattle.board_base.specs.declared.castles.Castle.{Castle}
use Rattle.board_base.specs.declared.unmoves.Unmove.{Unmove}
use Rattle.play_rules.specs.Clocks as moves
use Rattle.play_rules.proofs.Clocks.{clock-more}
use Rattle.play_rules.proofs.Legality.{Legality}
use Rattle.unmove_gen.specs.Listed.{allows, resets}
use Rattle.unmove_gen.specs.Predecessor.{clock_before}

-- what is asked of a clock of the last move
abbrev pub Obeys : Option ℕ → Bool → Type 0
Obeys clock reset = allows clock reset ≡ true

pub allows_above : (n : ℕ) (reset : Bool) → n ≢ 0 → allows (Some n) reset ≡ not reset
allows_above zero reset above = absurd (above refl)
allows_above (suc n) reset above = refl

-- the clock after a move that comes after so many
abbrev pub next : ℕ → Bool → ℕ
next n reset = cond reset 0 (n + 1)

pub clock-obeyed : (clock : Option ℕ) (n : ℕ) (reset : Bool) → IfSome clock (λ k. next n reset ≡ k) → Obeys clock reset
clock-obeyed None n reset met = refl
clock-obeyed (Some zero) n true met = refl
clock-obeyed (Some zero) n false met = absurd (omega (arith, met))
clock-obeyed (Some (suc k)) n true met = cc
clock-obeyed (Some (suc k)) n false met = refl

pub clock-came : (clock : Option ℕ) (n : ℕ) (reset : Bool) → IfSome clock (λ k. next n reset ≡ k) → IfSome (clock_before clock) (λ k. n ≡ k)
clock-came None n reset met = tt
clock-came (Some zero) n reset met = tt
clock-came (Some (suc k)) n true met = cc
clock-came (Some (suc k)) n false met = omega (arith, met)

pub clock-onward : (clock : Option ℕ) (n : ℕ) (reset : Bool) → Obeys clock reset → IfSome (clock_before clock) (λ k. n ≡ k) → IfSome clock (λ k. next n reset ≡ k)
clock-onward None n reset obeys before = tt
clock-onward (Some zero) n true obeys before = refl
clock-onward (Some zero) n false obeys before = cc
clock-onward (Some (suc k)) n true obeys before = cc
clock-onward (Some (suc k)) n false obeys before = omega (arith, before)

-- the parts of the two tests whether a move sets the clock to 0
weighed : (pawn there promo took ep empty : Bool) → (promo ≡ true → pawn ≡ true) → (promo ≡ false → there ≡ pawn) → (ep ≡ true → pawn ≡ true) → (ep ≡ false → took ≡ not empty) → (there || promo || took || ep) ≡ (pawn || not empty)
weighed true true promo took ep empty a b c d = refl
weighed true false true took ep empty a b c d = refl
weighed true false false took ep empty a b c d = absurd (both_ways _ refl (b refl))
weighed false there true took ep empty a b c d = absurd (both_ways _ refl (a refl))
weighed false true false took ep empty a b c d = absurd (both_ways _ (b refl) refl)
weighed false false false took true empty a b c d = absurd (both_ways _ refl (c refl))
weighed false false false true false empty a b c d = d refl
weighed false false false false false empty a b c d = d refl

-- what a board tells of the move that led to it
pub record Arrived (here board : Places) (u : Unmove) : Type 0 where
  pub there : at here u.mv.to ≡ promoted u.mv.promo (at board u.mv.from)
  pub promotes : is_some u.mv.promo ≡ true → is_a Pawn (at board u.mv.from) ≡ true
  pub passes : u.ep ≡ true → is_a Pawn (at board u.mv.from) ≡ true
  pub takes : u.ep ≡ false → is_some u.captured ≡ not (is_empty (at board u.mv.to))

unpromoted-there : (promo : Option Kind) (place : Option Man) → is_some promo ≡ false → is_a Pawn (promoted promo place) ≡ is_a Pawn place
unpromoted-there None place none = refl
unpromoted-there (Some k) place none = absurd (both_ways _ none refl)

-- the unmove says of its move what the board before it does
pub same-reset : (here board : Places) (u : Unmove) → Arrived here board u → resets here u ≡ moves.resets board u.mv
same-reset here board u a =
    weighed (is_a Pawn (at board u.mv.from)) (is_a Pawn (at here u.mv.to)) (is_some u.mv.promo) (is_some u.captured) u.ep (is_empty (at board u.mv.to)) a.promotes
    (λ none. ap (is_a Pawn) a.there ∙ unpromoted-there u.mv.promo (at board u.mv.from) none) a.passes a.takes

fits-pawn : (promo : Option Kind) (pawn reaches : Bool) → is_some promo ≡ true → elim promo as (λ _. Bool) [ None ↦ not (pawn && reaches) | Some k ↦ pawn && reaches && is_officer k ] ≡ true → pawn ≡ true
fits-pawn None pawn reaches some h = absurd (both_ways _ refl some)
fits-pawn (Some k) pawn reaches some h = (and_parts _ _ (and_parts _ _ h).0).0

-- only a pawn is promoted
pub promotes-pawn : (board : Places) (c : Colour) (rights : Castle → Bool) (last : Option Move) (m : Move) → Legality board c rights last m → is_some m.promo ≡ true → is_a Pawn (at board m.from) ≡ true
unfolding promotion_fits
promotes-pawn board c rights last m l some = fits-pawn m.promo (is_a Pawn (at board m.from)) (rank m.to == last_rank c) some l.promotion

pub after-one : (o : List Bool) (g : List Move) (m : Move) (reset : Bool) → moves.resets (board_after o g) m ≡ reset → moves.clock_after o (g ++ m ∷ []) ≡ next (moves.clock_after o g) reset
after-one o g m reset e = clock-more o g m ∙ ap (next (moves.clock_after o g)) e
