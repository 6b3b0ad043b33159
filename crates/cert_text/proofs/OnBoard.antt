-- What is read as an unmove has its squares on the board.
use Rattle.std.proofs.Common.{◌≡◌, ℕ, ◌+◌, ◌-◌, ◌*◌, ◌<◌, ◌&&◌, List, [], ◌∷◌, Option, Some, subst, arith}
use Rattle.std.specs.Prelude.{nat_le}
use Rattle.std.specs.Option.{option_map}
use Rattle.std.proofs.lemmas.Bool.{and_parts, leb-true}
use Rattle.std.proofs.lemmas.Option.{cond_some}
use Rattle.board_base.specs.declared.men.Kind.{Kind}
use Rattle.board_base.specs.declared.moves.Move.{Move}
use Rattle.board_base.specs.declared.unmoves.Unmove.{Unmove}
use Rattle.board_base.specs.Texts.{◌>>=◌, square_at, promo_of, move_of, promo_head, after_promo, capture_of, unmove_as, unmove_from}
use Rattle.board_base.proofs.TextLemmas.{bound_some, mapped_some}

square_small : (a b s : ℕ) → square_at a b ≡ Some s → s < 64
square_small a b s e =
    let parts = cond_some (nat_le 97 a && nat_le a 104 && nat_le 49 b && nat_le b 56) (8 * (b - 49) + (a - 97)) s e in
    let last = and_parts (nat_le 97 a && nat_le a 104 && nat_le 49 b) (nat_le b 56) parts.0 in
    let third = and_parts (nat_le 97 a && nat_le a 104) (nat_le 49 b) last.0 in
    let first = and_parts (nat_le 97 a) (nat_le a 104) third.0 in
    let file = leb-true a 104 first.1 in
    let rank = leb-true b 56 last.1 in
    let is = parts.1 in
    omega arith

pub record MoveOnBoard (m : Move) : Type 0 where
  pub from : m.from < 64
  pub to : m.to < 64

pub move_on_board : (text : List ℕ) (m : Move) → move_of text ≡ Some m → MoveOnBoard m
unfolding move_of
move_on_board [] m e = absurd cc
move_on_board (a ∷ []) m e = absurd cc
move_on_board (a ∷ b ∷ []) m e = absurd cc
move_on_board (a ∷ b ∷ c ∷ []) m e = absurd cc
move_on_board (a ∷ b ∷ c ∷ d ∷ rest) m e =
    let f = bound_some (square_at a b) (λ from. square_at c d >>= (λ to. option_map (λ p. record { from = from; to = to; promo = p }) (promo_of rest))) m e in
    let t = bound_some (square_at c d) (λ to. option_map (λ p. record { from = f.0; to = to; promo = p }) (promo_of rest)) m f.2 in
    let x = mapped_some (λ p. record { from = f.0; to = t.0; promo = p }) (promo_of rest) m t.2 in
    subst MoveOnBoard x.2 (record { from = square_small a b f.0 f.1; to = square_small c d t.0 t.1 })

pub record OnBoard (u : Unmove) : Type 0 where
  pub from : u.mv.from < 64
  pub to : u.mv.to < 64

pub unmove_on_board : (text : List ℕ) (u : Unmove) → unmove_from text ≡ Some u → OnBoard u
unfolding unmove_from
unmove_on_board [] u e = absurd cc
unmove_on_board (a ∷ []) u e = absurd cc
unmove_on_board (a ∷ b ∷ []) u e = absurd cc
unmove_on_board (a ∷ b ∷ c ∷ []) u e = absurd cc
unmove_on_board (a ∷ b ∷ c ∷ d ∷ rest) u e =
    let p : Option Kind = promo_head rest in
    let f = bound_some (square_at a b) (λ from. square_at c d >>= (λ to. option_map (unmove_as from to p) (capture_of p (after_promo rest)))) u e in
    let t = bound_some (square_at c d) (λ to. option_map (unmove_as f.0 to p) (capture_of p (after_promo rest))) u f.2 in
    let x = mapped_some (unmove_as f.0 t.0 p) (capture_of p (after_promo rest)) u t.2 in
    subst OnBoard x.2 (record { from = square_small a b f.0 f.1; to = square_small c d t.0 t.1 })
