-- How a knight, a bishop, a rook or a queen comes to a square by a legal move.
use Rattle.std.proofs.Common.{◌≡◌, ℕ, ◌==◌, ◌⊎◌, inl, inr, Bool, true, false, cond, ◌&&◌, refl, ap, sym, ◌∙◌, subst}
use Rattle.std.proofs.lemmas.Bool.{and_parts, and_from, both_ways, eqb-true, cases_Bool}
use Rattle.std.proofs.lemmas.Option.{none-some, same_Some}
use Rattle.std.specs.Prelude.{Option, Some, None}
use Rattle.board_base.specs.Board.{Places, at, is_a, same_kind}
use Rattle.board_base.specs.Attacks.{attacks_from, distance, is_open, kind_attacks, king_distance, on_the_way, toward}
use Rattle.board_base.specs.Play.{castling, crossed, goes_en_passant, en_passant_victim, king_home, king_target, rook_home}
use Rattle.board_base.specs.Legal.{king_castles, man_moves, pawn_captures, pawn_captures_en_passant, pawn_doubles, pawn_steps}
use Rattle.board_base.specs.Parts.{castles_as}
use Rattle.board_base.specs.declared.men.Man.{Man}
use Rattle.board_base.specs.declared.men.Colour.{Colour}
use Rattle.board_base.specs.declared.men.Kind.{Kind}
use Rattle.board_base.specs.declared.men.Kind.TheVariants.{Pawn, Rook, King}
use Rattle.board_base.specs.declared.moves.Move.{Move}
use Rattle.board_base.specs.declared.castles.Castle.{Castle}
use Rattle.board_base.specs.declared.castles.Castle.TheVariants.{WhiteShort, WhiteLong, BlackShort, BlackLong}
use Rattle.board_base.proofs.KindsOfMen.{kind_is}
use Rattle.play_rules.proofs.Legality.{Manner, moves, steps, doubles, takes, passes, castles}
use Rattle.play_rules.proofs.Kings.{castle-ends, two-castles}
use Rattle.men_account.proofs.Moved.{moved_from}
use Rattle.cage_rules.proofs.Stays.{castle-from, king-comes, rook-comes, whence}

-- he is no pawn and no king
pub record IsPiece (man : Man) : Type 0 where
  pub no_pawn : same_kind Pawn man.kind ≡ false
  pub no_king : same_kind King man.kind ≡ false

-- he stayed, or went from u to s
abbrev pub Went : Places → Man → ℕ → ℕ → Type 0
Went board man u s = (u ≡ s) ⊎ (kind_attacks board man.colour man.kind u s ≡ true)

-- a man who is no pawn and no king and doesn't castle goes where he attacks
goes-plain : (board : Places) (c : Colour) (rights : Castle → Bool) (last : Option Move) (m : Move) (man : Man) → castling board m ≡ None → at board m.from ≡ Some man → IsPiece man → Manner board c rights last m → kind_attacks board man.colour man.kind m.from m.to ≡ true
unfolding man_moves attacks_from pawn_steps pawn_doubles pawn_captures pawn_captures_en_passant king_castles
goes-plain board c rights last m man none here piece (moves h) =
    subst (λ (o : Option Man). elim o as (λ _. Bool) [ None ↦ false | Some n ↦ kind_attacks board n.colour n.kind m.from m.to ] ≡ true) here (and_parts _ _ h).1
goes-plain board c rights last m man none here piece (steps h) = absurd (both_ways _ (ap (is_a Pawn) here ∙ piece.no_pawn) (and_parts _ _ (and_parts _ _ (and_parts _ _ h).0).0).0)
goes-plain board c rights last m man none here piece (doubles h) = absurd (both_ways _ (ap (is_a Pawn) here ∙ piece.no_pawn) (and_parts _ _ (and_parts _ _ (and_parts _ _ (and_parts _ _ (and_parts _ _ h).0).0).0).0).0)
goes-plain board c rights last m man none here piece (takes h) = absurd (both_ways _ (ap (is_a Pawn) here ∙ piece.no_pawn) (and_parts _ _ (and_parts _ _ (and_parts _ _ h).0).0).0)
goes-plain board c rights last m man none here piece (passes h) = absurd (both_ways _ (ap (is_a Pawn) here ∙ piece.no_pawn) (and_parts _ _ (and_parts _ _ h).0).0)
goes-plain board c rights last m man none here piece (castles h) = absurd (both_ways false refl (subst (λ (o : Option Castle). castles_as board c rights o ≡ true) none h))

from-plain : (from to s u : ℕ) (taken at_to at_from : Bool) → (s == to) ≡ at_to → cond taken None (cond at_to (Some from) (cond at_from None (Some s))) ≡ Some u → (u ≡ s) ⊎ ((u ≡ from) × (s ≡ to))
from-plain from to s u true at_to at_from t e = cc
from-plain from to s u false true at_from t e = inr (sym (same_Some _ _ e), eqb-true s to t)
from-plain from to s u false false true t e = cc
from-plain from to s u false false false t e = inl (sym (same_Some _ _ e))

went-plain : (board : Places) (c : Colour) (rights : Castle → Bool) (last : Option Move) (m : Move) (man : Man) (u s : ℕ) → castling board m ≡ None → at board u ≡ Some man → IsPiece man → Manner board c rights last m → moved_from m None (goes_en_passant board m) s ≡ Some u → Went board man u s
went-plain board c rights last m man u s none here piece manner e = elim (from-plain m.from m.to s u (goes_en_passant board m && (s == en_passant_victim m)) (s == m.to) (s == m.from) refl e) [
  | inl stays ↦ inl stays
  | inr goes ↦
      let here' : at board m.from ≡ Some man = ap (at board) (sym goes.0) ∙ here in
      let hits = goes-plain board c rights last m man none here' piece manner in
      inr (subst (λ (x : ℕ). kind_attacks board man.colour man.kind x s ≡ true) (sym goes.0) (subst (λ (x : ℕ). kind_attacks board man.colour man.kind m.from x ≡ true) (sym goes.1) hits))
]

-- the rook goes along its own line, over squares that are empty
rook-goes : (board : Places) (c : Colour) (x : Castle) → is_open board (king_home x) (rook_home x) ≡ true → kind_attacks board c Rook (rook_home x) (crossed x) ≡ true
unfolding kind_attacks king_distance distance on_the_way toward
rook-goes board c WhiteShort h = and_from _ _ (and_parts _ _ (and_parts _ _ h).1).0 refl
rook-goes board c WhiteLong h = let rest = and_parts _ _ (and_parts _ _ h).1 in and_from _ _ (and_parts _ _ rest.1).0 (and_from _ _ rest.0 refl)
rook-goes board c BlackShort h = and_from _ _ (and_parts _ _ (and_parts _ _ h).1).0 refl
rook-goes board c BlackLong h = let rest = and_parts _ _ (and_parts _ _ h).1 in and_from _ _ (and_parts _ _ rest.1).0 (and_from _ _ rest.0 refl)

-- the others stay
whence-stays : (x : Castle) (s u : ℕ) (at_rook at_king : Bool) → (s == rook_home x) ≡ at_rook → (s == king_home x) ≡ at_king → (s == crossed x) ≡ false → (s == king_target x) ≡ false → whence x s ≡ Some u → u ≡ s
unfolding whence
whence-stays x s u true at_king r k cr t e = absurd (none-some u (sym (let none : whence x s ≡ None = rw (cr, r) refl in none) ∙ e))
whence-stays x s u false true r k cr t e = absurd (none-some u (sym (let none : whence x s ≡ None = rw (cr, r, t, k) refl in none) ∙ e))
whence-stays x s u false false r k cr t e = sym (same_Some s u (sym (let same : whence x s ≡ Some s = rw (cr, r, t, k) refl in same) ∙ e))

went-castle : (board : Places) (c : Colour) (rights : Castle → Bool) (last : Option Move) (m : Move) (x : Castle) (man : Man) (u s : ℕ) → castling board m ≡ Some x → at board u ≡ Some man → IsPiece man → Manner board c rights last m → moved_from m (Some x) (goes_en_passant board m) s ≡ Some u → Went board man u s
went-castle board c rights last m x man u s e here piece manner from =
    let ends = castle-ends board m x e in
    let may = two-castles board c rights last m x e manner in
    let p4 = and_parts _ _ (and_parts _ _ (and_parts _ _ (and_parts _ _ may).0).0).0 in
    let came : whence x s ≡ Some u = sym (castle-from board m x s ends) ∙ from in
    elim (cases_Bool (s == crossed x)) [
      | inl rook ↦
          let there : s ≡ crossed x = eqb-true s (crossed x) rook in
          let home : rook_home x ≡ u = same_Some _ _ (sym (ap (whence x) there ∙ rook-comes x) ∙ came) in
          let is_rook : same_kind Rook man.kind ≡ true = ap (is_a Rook) (sym (ap (at board) home ∙ here)) ∙ (and_parts _ _ (and_parts _ _ p4.0).1).1 in
          let hits : kind_attacks board man.colour man.kind (rook_home x) (crossed x) ≡ true =
          subst (λ (k : Kind). kind_attacks board man.colour k (rook_home x) (crossed x) ≡ true) (kind_is Rook man.kind is_rook) (rook-goes board man.colour x p4.1) in
          inr (subst (λ (n : ℕ). kind_attacks board man.colour man.kind n s ≡ true) home (subst (λ (n : ℕ). kind_attacks board man.colour man.kind (rook_home x) n ≡ true) (sym there) hits))
      | inr not_rook ↦ elim (cases_Bool (s == king_target x)) [
        | inl king ↦
            let there : s ≡ king_target x = eqb-true s (king_target x) king in
            let home : king_home x ≡ u = same_Some _ _ (sym (ap (whence x) there ∙ king-comes x) ∙ came) in
            let at_home : at board m.from ≡ Some man = ap (at board) (sym ends.from ∙ home) ∙ here in
            absurd (both_ways _ (ap (is_a King) at_home ∙ piece.no_king) ends.king)
        | inr not_king ↦ inl (whence-stays x s u _ _ refl refl not_rook not_king came)
      ]
    ]

went-as : (board : Places) (c : Colour) (rights : Castle → Bool) (last : Option Move) (m : Move) (castle : Option Castle) (man : Man) (u s : ℕ) → castling board m ≡ castle → at board u ≡ Some man → IsPiece man → Manner board c rights last m → moved_from m castle (goes_en_passant board m) s ≡ Some u → Went board man u s
went-as board c rights last m None man u s e here piece manner from = went-plain board c rights last m man u s e here piece manner from
went-as board c rights last m (Some x) man u s e here piece manner from = went-castle board c rights last m x man u s e here piece manner from

-- who comes to s by a legal move from u, and is no pawn and no king, stayed or went there as he attacks
pub went : (board : Places) (c : Colour) (rights : Castle → Bool) (last : Option Move) (m : Move) (man : Man) (u s : ℕ) → at board u ≡ Some man → IsPiece man → Manner board c rights last m → moved_from m (castling board m) (goes_en_passant board m) s ≡ Some u → Went board man u s
went board c rights last m man u s here piece manner from = went-as board c rights last m (castling board m) man u s refl here piece manner from
