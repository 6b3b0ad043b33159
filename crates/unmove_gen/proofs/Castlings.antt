-- The castling that a move takes back.
use Rattle.std.proofs.Common.{◌≡◌, ℕ, ◌<◌, Bool, true, false, cond, length, set, inl, inr, refl, ap, sym, ◌∙◌, subst, arith}
use Rattle.std.proofs.lemmas.Bool.{and_parts, both_ways, cases_Bool, cond-true, cond-false}
use Rattle.std.proofs.lemmas.List.{length-set, get_or-set_same, get_or-set_other}
use Rattle.std.specs.Prelude.{Option, Some, None}
use Rattle.board_base.specs.Board.{Places, at, is_a, is_the, same_colour, same_kind}
use Rattle.board_base.specs.Attacks.{is_open}
use Rattle.board_base.specs.Play.{castling, castling_from, side, king_home, king_target, rook_home, crossed}
use Rattle.board_base.specs.Parts.{played_as}
use Rattle.board_base.specs.Carry.{carry}
use Rattle.board_base.specs.Legal.{may_castle}
use Rattle.castle_history.specs.TakenBack.{castling_back, of_king, of_side}
use Rattle.play_rules.proofs.Kings.{castle-ends, Ends}
use Rattle.board_base.proofs.Equal.{empty_is}
use Rattle.board_base.specs.declared.men.Man.{Man}
use Rattle.board_base.specs.declared.men.Colour.{Colour}
use Rattle.board_base.specs.declared.men.Kind.TheVariants.{King}
use Rattle.board_base.specs.declared.moves.Move.{Move}
use Rattle.board_base.specs.declared.castles.Castle.{Castle}
use Rattle.board_base.proofs.KindsOfMen.{colour_is, same_colour-self}
use Rattle.board_base.proofs.CastleSquares.{crossed-not-target, rook_home-not-target, target-empty}

-- what a castling asks for: its right, its king, and a free way
pub record Castles (board : Places) (rights : Castle → Bool) (x : Castle) : Type 0 where
  pub right : rights x ≡ true
  pub king : is_the (side x) King (at board (king_home x)) ≡ true
  pub clear : is_open board (king_home x) (rook_home x) ≡ true
  pub target : at board (king_target x) ≡ None

pub castles : (board : Places) (c : Colour) (rights : Castle → Bool) (x : Castle) → may_castle board c rights x ≡ true → Castles board rights x
castles board c rights x h =
    let p5 = and_parts _ _ (and_parts _ _ (and_parts _ _ (and_parts _ _ h).0).0).0 in
    let p3 = and_parts _ _ (and_parts _ _ p5.0).0 in
    let p1 = and_parts _ _ p3.0 in
    record {
      right = p1.1;
      king = subst (λ (d : Colour). is_the d King (at board (king_home x)) ≡ true) (colour_is c (side x) p1.0) p3.1;
      clear = p5.1;
      target = empty_is _ (target-empty board x p5.1);
    }

-- the king stands on his target
pub castle-there : (board : Places) (m : Move) (x : Castle) → m.to < length board → Ends m x board → at (played_as board m (Some x)) m.to ≡ at board m.from
castle-there board m x inside ends =
    let t : m.to < length (set board m.from None) = omega (arith, length-set board m.from None) in
    let moved : Places = carry board m.from m.to None in
    get_or-set_other (set moved (rook_home x) None) (crossed x) m.to (at moved (rook_home x)) None (λ z. crossed-not-target x (sym z ∙ sym ends.to))
    ∙ get_or-set_other moved (rook_home x) m.to None None (λ z. rook_home-not-target x (sym z ∙ sym ends.to)) ∙ get_or-set_same (set board m.from None) m.to (at board m.from) None t

own-king : (x : Castle) (place : Option Man) → is_the (side x) King place ≡ true → of_king place (Some x) ≡ Some x
own-king x None h = absurd (both_ways false refl h)
own-king x (Some m) h =
    let parts = and_parts _ _ h in
    let own : same_colour m.colour (side x) ≡ true = subst (λ (c : Colour). same_colour c (side x) ≡ true) (colour_is (side x) m.colour parts.0) (same_colour-self (side x)) in
    cond-true (same_kind King m.kind) (of_side m.colour (Some x)) None parts.1 ∙ cond-true (same_colour m.colour (side x)) (Some x) None own

-- a castling from here to there is found from its ends
pub from-ends : (board : Places) (m : Move) (x : Castle) → castling board m ≡ Some x → castling_from m.from m.to ≡ Some x
from-ends board m x e = sym (cond-true _ (castling_from m.from m.to) None (castle-ends board m x e).king) ∙ e

-- a castling that was played is the one that is taken back
pub castled : (board : Places) (c : Colour) (rights : Castle → Bool) (m : Move) (x : Castle) → m.to < length board → castling board m ≡ Some x → may_castle board c rights x ≡ true → castling_back (played_as board m (Some x)) m ≡ Some x
castled board c rights m x inside e may =
    let ends = castle-ends board m x e in
    let king : is_the (side x) King (at board m.from) ≡ true = subst (λ (s : ℕ). is_the (side x) King (at board s) ≡ true) ends.from (castles board c rights x may).king in
    ap (λ (place : Option Man). of_king place (castling_from m.from m.to)) (castle-there board m x inside ends)
    ∙ ap (of_king (at board m.from)) (from-ends board m x e)
    ∙ own-king x (at board m.from) king

no-king : (place : Option Man) (o : Option Castle) → is_a King place ≡ false → of_king place o ≡ None
no-king None o h = refl
no-king (Some m) o h = cond-false (same_kind King m.kind) (of_side m.colour o) None h

no-castling : (place : Option Man) → of_king place None ≡ None
no-castling None = refl
no-castling (Some m) = elim (same_kind King m.kind) as (λ b. cond {A = Option Castle} b None None ≡ None) [ true ↦ refl | false ↦ refl ]

-- a move that was no castling takes none back, since the man on the target was a king exactly where he is
pub none-castled : (board after : Places) (m : Move) → castling board m ≡ None → is_a King (at after m.to) ≡ is_a King (at board m.from) → castling_back after m ≡ None
none-castled board after m e king = elim (cases_Bool (is_a King (at board m.from))) [
  | inl was ↦ ap (of_king (at after m.to)) (sym (cond-true _ (castling_from m.from m.to) None was) ∙ e) ∙ no-castling (at after m.to)
  | inr other ↦ no-king (at after m.to) (castling_from m.from m.to) (king ∙ other)
]

side-some : (c : Colour) (o : Option Castle) (x : Castle) → of_side c o ≡ Some x → o ≡ Some x
side-some c None x e = e
side-some c (Some y) x e = elim (cases_Bool (same_colour c (side y))) [
  | inl own ↦ sym (cond-true _ (Some y) None own) ∙ e
  | inr other ↦ let never : None ≡ Some x = sym (cond-false _ (Some y) None other) ∙ e in cc
]

-- what is taken back was a king's castling
pub taken-king : (place : Option Man) (o : Option Castle) (x : Castle) → of_king place o ≡ Some x → (is_a King place ≡ true) × (o ≡ Some x)
taken-king None o x e = let never : None ≡ Some x = e in cc
taken-king (Some m) o x e = elim (cases_Bool (same_kind King m.kind)) [
  | inl is ↦ (is, side-some m.colour o x (sym (cond-true _ (of_side m.colour o) None is) ∙ e))
  | inr other ↦ let never : None ≡ Some x = sym (cond-false _ (of_side m.colour o) None other) ∙ e in cc
]

pub was-castling : (board after : Places) (m : Move) (x : Castle) → is_a King (at after m.to) ≡ is_a King (at board m.from) → castling_back after m ≡ Some x → castling board m ≡ Some x
was-castling board after m x king e =
    let parts = taken-king (at after m.to) (castling_from m.from m.to) x e in
    cond-true (is_a King (at board m.from)) (castling_from m.from m.to) None (sym king ∙ parts.0) ∙ parts.1
