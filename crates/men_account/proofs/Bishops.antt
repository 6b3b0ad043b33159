-- A bishop who began as one stands on a square of his home's colour.
use Rattle.std.proofs.Common.{◌≡◌, ℕ, Bool, true, ◌&&◌, not, inl, inr, List, refl, ap, sym, ◌∙◌, subst, ◌+◌, ◌-◌, ◌%◌, ◌==◌, false, arith}
use Rattle.std.proofs.lemmas.Bool.{and_parts, both_ways, cases_Bool, eqb-true}
use Rattle.std.specs.Prelude.{Option, Some, None}
use Rattle.board_base.specs.Board.{Places, array_of, at, is_a, same_kind, file, rank}
use Rattle.board_base.specs.Play.{castling, rook_home}
use Rattle.board_base.specs.Legal.{is_officer, promotion_fits, man_moves, pawn_steps, pawn_doubles, pawn_captures, pawn_captures_en_passant, king_castles}
use Rattle.board_base.specs.Parts.{castles_as}
use Rattle.board_base.specs.Game.{IsGame, board_after}
use Rattle.board_base.specs.declared.men.Colour.{Colour}
use Rattle.board_base.specs.declared.men.Kind.{Kind}
use Rattle.board_base.specs.declared.men.Kind.TheVariants.{Pawn, Bishop, Rook, King}
use Rattle.board_base.specs.declared.men.Man.{Man}
use Rattle.board_base.specs.declared.moves.Move.{Move}
use Rattle.board_base.specs.declared.castles.Castle.{Castle}
use Rattle.board_base.proofs.KindsOfMen.{another_kind, kind_is}
use Rattle.play_rules.proofs.Legality.{Legality, Manner, moves, steps, doubles, takes, passes, castles}
use Rattle.play_rules.proofs.Kings.{castle-ends}
use Rattle.men_account.specs.Labels.{labels_after, HoldsOfEach, IsPromotedFrom}
use Rattle.men_account.specs.Captures.{KeepsColour}
use Rattle.men_account.proofs.Origins.{promoted_man, in_each_game}
use Rattle.board_base.specs.Attacks.{distance, files_apart, ranks_apart, attacks_from, kind_attacks}
use Rattle.men_account.specs.Account.{is_light}

-- a bishop stays on the colour of his square
diagonal : (f r f' r' : ℕ) → (f - f') + (f' - f) ≡ (r - r') + (r' - r) → (f + r) % 2 ≡ (f' + r') % 2
diagonal f r f' r' h = omega arith

-- a bishop's step keeps the colour of his square
pub bishop-steps : (board : Places) (place : Option Man) (s t : ℕ) → is_a Bishop place ≡ true → elim place as (λ _. Bool) [ None ↦ false | Some m ↦ kind_attacks board m.colour m.kind s t ] ≡ true → is_light s ≡ is_light t
unfolding kind_attacks distance
bishop-steps board None s t k h = cc
bishop-steps board (Some m) s t k h =
    let goes : kind_attacks board m.colour Bishop s t ≡ true = subst (λ (j : Kind). kind_attacks board m.colour j s t ≡ true) (sym (kind_is Bishop m.kind k)) h in
    let e : files_apart s t ≡ ranks_apart s t = eqb-true _ _ (and_parts _ _ (and_parts _ _ goes).0).1 in
    ap (λ (n : ℕ). n == 1) (diagonal (file s) (rank s) (file t) (rank t) e)

bishop-goes : (board : Places) (c : Colour) (rights : Castle → Bool) (last : Option Move) (m : Move) → castling board m ≡ None → is_a Bishop (at board m.from) ≡ true → Manner board c rights last m → is_light m.from ≡ is_light m.to
unfolding man_moves attacks_from pawn_steps pawn_doubles pawn_captures pawn_captures_en_passant king_castles
bishop-goes board c rights last m none bishop (moves h) = bishop-steps board (at board m.from) m.from m.to bishop (and_parts _ _ h).1
bishop-goes board c rights last m none bishop (steps h) = absurd (both_ways _ (another_kind Pawn Bishop _ bishop) (and_parts _ _ (and_parts _ _ (and_parts _ _ h).0).0).0)
bishop-goes board c rights last m none bishop (doubles h) = absurd (both_ways _ (another_kind Pawn Bishop _ bishop) (and_parts _ _ (and_parts _ _ (and_parts _ _ (and_parts _ _ (and_parts _ _ h).0).0).0).0).0)
bishop-goes board c rights last m none bishop (takes h) = absurd (both_ways _ (another_kind Pawn Bishop _ bishop) (and_parts _ _ (and_parts _ _ (and_parts _ _ h).0).0).0)
bishop-goes board c rights last m none bishop (passes h) = absurd (both_ways _ (another_kind Pawn Bishop _ bishop) (and_parts _ _ (and_parts _ _ h).0).0)
bishop-goes board c rights last m none bishop (castles h) =
    let P : Option Castle → Type 0 = λ o. castles_as board c rights o ≡ true in
    absurd (both_ways false refl (subst P none h))

-- the label of a pawn is the home of a pawn
pub pawn-label : (first : Places) (s l : ℕ) (man : Man) → IsPromotedFrom first s l man → same_kind Pawn man.kind ≡ true → is_a Pawn (at first l) ≡ true
pawn-label first s l man promotions pawn = elim (cases_Bool (is_a man.kind (at first l))) [
  | inl same ↦ subst (λ (k : Kind). is_a k (at first l) ≡ true) (sym (kind_is Pawn man.kind pawn)) same
  | inr other ↦ (promotions other).1
]

-- a bishop doesn't castle
no-castling : (board : Places) (m : Move) (o : Option Castle) → castling board m ≡ o → is_a Bishop (at board m.from) ≡ true → castling board m ≡ None
no-castling board m None is bishop = is
no-castling board m (Some x) is bishop = absurd (both_ways _ (another_kind King Bishop (at board m.from) bishop) (castle-ends board m x is).king)

-- by what the man who moves becomes
keeps-by : (o : List Bool) (board : Places) (d : Colour) (rights : Castle → Bool) (last : Option Move) (m : Move) (l : ℕ) (man : Man) (promo : Option Kind) (reaches : Bool) → Legality board d rights last m → elim promo as (λ _. Bool) [ None ↦ not (is_a Pawn (at board m.from) && reaches) | Some k ↦ is_a Pawn (at board m.from) && reaches && is_officer k ] ≡ true → at board m.from ≡ Some man → IsPromotedFrom (array_of o) m.from l man → KeepsColour (array_of o) m.from l man → KeepsColour (array_of o) m.to l (promoted_man promo man)
keeps-by o board d rights last m l man None reaches legal fits there promotions old bishop home =
    let here : is_a Bishop (at board m.from) ≡ true = ap (is_a Bishop) there ∙ bishop in
    sym (bishop-goes board d rights last m (no-castling board m (castling board m) refl here) here legal.manner) ∙ old bishop home
keeps-by o board d rights last m l man (Some k) reaches legal fits there promotions old bishop home =
    let pawn : same_kind Pawn man.kind ≡ true = sym (ap (is_a Pawn) there) ∙ (and_parts _ _ (and_parts _ _ fits).0).0 in
    absurd (both_ways _ (another_kind Bishop Pawn (at (array_of o) l) (pawn-label (array_of o) m.from l man promotions pawn)) home)

keeps-move : (o : List Bool) (board : Places) (d : Colour) (rights : Castle → Bool) (last : Option Move) (m : Move) (l : ℕ) (man : Man) → Legality board d rights last m → at board m.from ≡ Some man → IsPromotedFrom (array_of o) m.from l man → KeepsColour (array_of o) m.from l man → KeepsColour (array_of o) m.to l (promoted_man m.promo man)
unfolding promotion_fits
keeps-move o board d rights last m l man legal there = keeps-by o board d rights last m l man m.promo _ legal legal.promotion there

pub bishops-keep : (o : List Bool) (g : List Move) → IsGame o g → HoldsOfEach (board_after o g) (labels_after o g) (KeepsColour (array_of o))
bishops-keep o = in_each_game o (KeepsColour (array_of o))
    (λ s man there bishop home. refl)
    (λ board d rights last m len legal. record {
      mover = λ l man there colours promotions before. keeps-move o board d rights last m l man legal there promotions before;
      rook = λ x l man castles rook there before bishop. absurd (both_ways _ (another_kind Bishop Rook (at board (rook_home x)) rook) (ap (is_a Bishop) there ∙ bishop));
    })
