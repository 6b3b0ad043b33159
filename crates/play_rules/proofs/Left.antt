-- Where a legal move goes; its origin is empty after it.
use Rattle.std.proofs.Common.{◌≡◌, ◌≢◌, ℕ, ◌<◌, Bool, true, false, cond, inl, inr, List, [], ◌∷◌, ◌++◌, length, set, refl, ap, sym, ◌∙◌, arith}
use Rattle.std.proofs.lemmas.Bool.{both_ways, cases_eq}
use Rattle.std.proofs.lemmas.List.{get_or-set_same, get_or-set_other}
use Rattle.std.proofs.lemmas.Option.{same_Some}
use Rattle.std.specs.Prelude.{Option, Some, None}
use Rattle.board_base.specs.Board.{Places, at, is_of}
use Rattle.board_base.specs.Play.{play, castling, goes_en_passant, en_passant_victim, rook_home, crossed, promoted}
use Rattle.board_base.specs.Parts.{played_as}
use Rattle.board_base.specs.Carry.{carry}
use Rattle.board_base.specs.Game.{IsGame, board_after, last_move}
use Rattle.board_base.specs.declared.men.Colour.{Colour}
use Rattle.board_base.specs.declared.men.Kind.{Kind}
use Rattle.board_base.specs.declared.moves.Move.{Move}
use Rattle.board_base.specs.declared.castles.Castle.{Castle}
use Rattle.board_base.proofs.CastleSquares.{crossed-not-home, rook_home-not-home}
use Rattle.play_rules.proofs.Legality.{Legality, legality}
use Rattle.play_rules.proofs.Games.{in_every_game, board_after-more}
use Rattle.play_rules.proofs.Doubles.{last_move-more}
use Rattle.play_rules.proofs.Kings.{castle-ends, length-after, length-carry, within}

-- where a legal move goes
pub record Placed (board : Places) (m : Move) : Type 0 where
  pub apart : m.from ≢ m.to
  pub origin : m.from < length board
  pub target : m.to < length board

pub placed : (board : Places) (c : Colour) (rights : Castle → Bool) (last : Option Move) (m : Move) → length board ≡ 64 → Legality board c rights last m → Placed board m
placed board c rights last m len l = record {
  apart = λ z. both_ways (is_of c (at board m.from)) (ap (λ (k : ℕ). is_of c (at board k)) z ∙ l.not_own) l.mover;
  origin = within (is_of c) board m.from refl l.mover;
  target = let small : m.to < 64 = l.on_board in omega arith;
}

carry-leaves : (board : Places) (from to : ℕ) (promo : Option Kind) → from ≢ to → from < length board → at (carry board from to promo) from ≡ None
carry-leaves board from to promo apart inside =
    get_or-set_other (set board from None) to from (promoted promo (at board from)) None apart ∙ get_or-set_same board from None None inside

empty-set : (board : Places) (i j : ℕ) → j < length board → at board j ≡ None → at (set board i None) j ≡ None
empty-set board i j inside gone = elim (cases_eq j i) [
  | inl same ↦ ap (λ (k : ℕ). at (set board k None) j) (sym same) ∙ get_or-set_same board j None None inside
  | inr other ↦ get_or-set_other board i j None None other ∙ gone
]

plain-leaves : (board : Places) (m : Move) (b : Bool) → Placed board m → at (cond b (set (carry board m.from m.to m.promo) (en_passant_victim m) None) (carry board m.from m.to m.promo)) m.from ≡ None
plain-leaves board m false p = carry-leaves board m.from m.to m.promo p.apart p.origin
plain-leaves board m true p =
    let long : m.from < length (carry board m.from m.to m.promo) = let inside = p.origin in omega (arith, length-carry board m.from m.to m.promo) in
    empty-set (carry board m.from m.to m.promo) (en_passant_victim m) m.from long (carry-leaves board m.from m.to m.promo p.apart p.origin)

played-leaves : (board : Places) (m : Move) (o : Option Castle) → castling board m ≡ o → Placed board m → at (played_as board m o) m.from ≡ None
played-leaves board m None e p = plain-leaves board m (goes_en_passant board m) p
played-leaves board m (Some x) e p =
    let ends = castle-ends board m x e in
    let moved : Places = carry board m.from m.to None in
    get_or-set_other (set moved (rook_home x) None) (crossed x) m.from (at moved (rook_home x)) None (λ z. crossed-not-home x (sym z ∙ sym ends.from))
    ∙ get_or-set_other moved (rook_home x) m.from None None (λ z. rook_home-not-home x (sym z ∙ sym ends.from)) ∙ carry-leaves board m.from m.to None p.apart p.origin

pub play-leaves : (board : Places) (m : Move) → Placed board m → at (play board m) m.from ≡ None
unfolding play
play-leaves board m p = played-leaves board m (castling board m) refl p

-- the origin of the last move of a game is empty after it
record HasLeft (o : List Bool) (g : List Move) : Type 0 where
  left : (l : Move) → last_move g ≡ Some l → at (board_after o g) l.from ≡ None

left-in-games : (o : List Bool) (g : List Move) → IsGame o g → HasLeft o g
left-in-games o = in_every_game o (HasLeft o) (record { left = λ l e. cc }) (λ g m game legal before. record {
  left = λ l e.
      let same : m ≡ l = same_Some _ _ (sym (last_move-more g m) ∙ e) in
      let p : Placed (board_after o g) m = placed (board_after o g) _ _ _ m (length-after o g game) (legality _ _ _ _ _ legal) in
      ap (λ (k : Move). at (board_after o (g ++ m ∷ [])) k.from) (sym same) ∙ ap (λ (b : Places). at b m.from) (board_after-more o g m) ∙ play-leaves (board_after o g) m p;
})

pub left-in-game : (o : List Bool) (g : List Move) → IsGame o g → (l : Move) → last_move g ≡ Some l → at (board_after o g) l.from ≡ None
left-in-game o g game = (left-in-games o g game).left
