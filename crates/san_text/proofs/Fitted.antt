-- What is said of a legal move fits it, and no other.
use Rattle.std.proofs.Common.{◌≡◌, ◌≢◌, ◌==◌, ℕ, Bool, true, false, cond, not, length, refl, sym, ap, ◌∙◌, subst}
use Rattle.std.proofs.lemmas.Bool.{and_parts, and_from, eqb-true, eq-eqb, false_from_ne_true}
use Rattle.std.specs.Prelude.{Option, Some, None, is_none}
use Rattle.board_base.specs.Board.{Places, at, is_a, is_of, same_colour, file, rank}
use Rattle.board_base.specs.Play.{castling, king_home, king_target, side}
use Rattle.board_base.specs.Rights.{holds}
use Rattle.board_base.specs.Legal.{may_castle}
use Rattle.board_base.specs.declared.men.Man.{Man}
use Rattle.board_base.specs.declared.men.Colour.{Colour}
use Rattle.board_base.specs.declared.men.Colour.TheVariants.{White, Black}
use Rattle.board_base.specs.declared.men.Kind.{Kind}
use Rattle.board_base.specs.declared.men.Kind.TheVariants.{Pawn, Knight, Bishop, Rook, Queen, King}
use Rattle.board_base.specs.declared.moves.Move.{Move}
use Rattle.board_base.specs.declared.castles.Castle.{Castle}
use Rattle.board_base.specs.declared.castles.Castle.TheVariants.{WhiteShort, WhiteLong, BlackShort, BlackLong}
use Rattle.board_base.proofs.Equal.{promo_is, promo_self}
use Rattle.board_base.proofs.KindsOfMen.{same_kind-self}
use Rattle.play_rules.specs.States.{Position, legal_at}
use Rattle.play_rules.specs.Listed.{move_of}
use Rattle.play_rules.proofs.Legality.{legality}
use Rattle.play_rules.proofs.Kings.{Ends, castle-ends, two-castles}
use Rattle.san_text.specs.Fits.{fits, agrees, castles_by, short_of, long_of, allows, same_truth, captures, IsOnly}
use Rattle.san_text.specs.Spelling.{named, named_as, named_castle, kind_of, kind_at, origin_of, is_rival}
use Rattle.san_text.proofs.Candidates.{made_of, castled, from_inside}
use Rattle.san_text.proofs.Pawns.{way_of, one_pawn}
use Rattle.san_text.proofs.Rivals.{piece_alone, origin_allows}

by_ends : (board : Places) (x : Castle) (m : Move) → Ends m x board → castles_by board x m ≡ true
by_ends board x m e = and_from _ _ (and_from _ _ e.king (eq-eqb _ _ (sym e.from))) (eq-eqb _ _ (sym e.to))

-- a castling of this colour is what is said of it
castle_agrees : (board : Places) (c : Colour) (x : Castle) (m : Move) → same_colour c (side x) ≡ true → castles_by board x m ≡ true → agrees board c (named_castle x) m ≡ true
castle_agrees board White WhiteShort m own h = h
castle_agrees board White WhiteLong m own h = h
castle_agrees board Black BlackShort m own h = h
castle_agrees board Black BlackLong m own h = h
castle_agrees board White BlackShort m own h = cc
castle_agrees board White BlackLong m own h = cc
castle_agrees board Black WhiteShort m own h = cc
castle_agrees board Black WhiteLong m own h = cc

own_castle : (board : Places) (c : Colour) (rights : Castle → Bool) (x : Castle) → may_castle board c rights x ≡ true → same_colour c (side x) ≡ true
own_castle board c rights x h =
    (and_parts _ _ (and_parts _ _ (and_parts _ _ (and_parts _ _ (and_parts _ _ (and_parts _ _ (and_parts _ _ h).0).0).0).0).0).0).0

pub kind_there : (c : Colour) (place : Option Man) → is_of c place ≡ true → is_a (kind_of place) place ≡ true
kind_there c None h = cc
kind_there c (Some m) h = same_kind-self m.kind

same_truth-self : (b : Bool) → same_truth b b ≡ true
same_truth-self true = refl
same_truth-self false = refl

same_truth_is : (a b : Bool) → same_truth a b ≡ true → a ≡ b
same_truth_is true true h = refl
same_truth_is false false h = refl
same_truth_is true false h = cc
same_truth_is false true h = cc

named_agrees : (p : Position) (m : Move) (o : Option Castle) → castling p.board m ≡ o → legal_at p m ≡ true → agrees p.board p.turn (named_as o p m) m ≡ true
named_agrees p m (Some x) e legal =
    let l = legality p.board p.turn _ _ m legal in
    castle_agrees p.board p.turn x m (own_castle p.board p.turn (holds p.rights) x (two-castles p.board p.turn (holds p.rights) _ m x e l.manner)) (by_ends p.board x m (castle-ends p.board m x e))
named_agrees p m None e legal =
    let l = legality p.board p.turn _ _ m legal in
    let origin = origin_allows p (kind_at p.board m.from) m in
    and_from _ _ (and_from _ _ (and_from _ _ (and_from _ _ (and_from _ _ (and_from _ _ (ap is_none e) (kind_there p.turn (at p.board m.from) l.mover)) (eq-eqb _ _ refl)) (promo_self m.promo)) origin.0) origin.1) (same_truth-self (captures p.board m))

pub named_fits : (p : Position) (m : Move) → legal_at p m ≡ true → fits (named p m) p m ≡ true
unfolding fits named
named_fits p m legal = and_from _ _ legal (named_agrees p m (castling p.board m) refl legal)

-- two kings' moves of one castling are one
one_castling : (p : Position) (x : Castle) (m n : Move) → legal_at p m ≡ true → legal_at p n ≡ true → castles_by p.board x m ≡ true → castles_by p.board x n ≡ true → n ≡ m
one_castling p x m n legal_m legal_n h k =
    let from_m : m.from ≡ king_home x = eqb-true _ _ (and_parts _ _ (and_parts _ _ h).0).1 in
    let from_n : n.from ≡ king_home x = eqb-true _ _ (and_parts _ _ (and_parts _ _ k).0).1 in
    castled p x n legal_n k ∙ ap (λ (s : ℕ). move_of s (king_target x) None) (from_n ∙ sym from_m) ∙ sym (castled p x m legal_m h)

one_castle : (p : Position) (x : Castle) (m n : Move) → legal_at p m ≡ true → legal_at p n ≡ true → agrees p.board p.turn (named_castle x) m ≡ true → agrees p.board p.turn (named_castle x) n ≡ true → n ≡ m
one_castle p WhiteShort m n a b h k = one_castling p (short_of p.turn) m n a b h k
one_castle p WhiteLong m n a b h k = one_castling p (long_of p.turn) m n a b h k
one_castle p BlackShort m n a b h k = one_castling p (short_of p.turn) m n a b h k
one_castle p BlackLong m n a b h k = one_castling p (long_of p.turn) m n a b h k

-- what a move has that goes as another
record Alike (p : Position) (k : Kind) (m n : Move) : Type 0 where
  legal : legal_at p m ≡ true
  other_legal : legal_at p n ≡ true
  man : is_a k (at p.board m.from) ≡ true
  other_man : is_a k (at p.board n.from) ≡ true
  to : n.to ≡ m.to
  promo : n.promo ≡ m.promo
  file_told : allows (origin_of p k m).0 (file n.from) ≡ true
  rank_told : allows (origin_of p k m).1 (rank n.from) ≡ true
  truth : captures p.board m ≡ captures p.board n

rival_of : (p : Position) (k : Kind) (m n : Move) → Alike p k m n → n.from ≢ m.from → is_rival p k m n.from ≡ true
rival_of p k m n a differ =
    let apart : (n.from == m.from) ≡ false = false_from_ne_true _ (λ e. differ (eqb-true _ _ e)) in
    and_from _ _ (and_from _ _ (ap not apart) a.other_man) (subst (λ (x : Move). legal_at p x ≡ true) (made_of n m.to m.promo a.to a.promo) a.other_legal)

allowed_file : (b : Bool) (s t : ℕ) → allows (cond b (Some (file s)) None) (file t) ≡ true → b ≡ true → file t ≡ file s
allowed_file true s t h e = sym (eqb-true _ _ h)
allowed_file false s t h e = cc

one_origin : (p : Position) (k : Kind) (m n : Move) → length p.board ≡ 64 → Alike p k m n → n.from ≡ m.from
one_origin p Pawn m n size a =
    let l = legality p.board p.turn _ _ m a.legal in
    let j = legality p.board p.turn _ _ n a.other_legal in
    one_pawn p.board p.turn m n l.on_board a.to a.man a.other_man (sym a.truth) (allowed_file (captures p.board m) m.from n.from a.file_told) (way_of p.board p.turn _ _ m a.man l.manner) (way_of p.board p.turn _ _ n a.other_man j.manner)
one_origin p Knight m n size a = piece_alone p Knight m n.from (from_inside p size n a.other_legal) a.file_told a.rank_told (rival_of p Knight m n a)
one_origin p Bishop m n size a = piece_alone p Bishop m n.from (from_inside p size n a.other_legal) a.file_told a.rank_told (rival_of p Bishop m n a)
one_origin p Rook m n size a = piece_alone p Rook m n.from (from_inside p size n a.other_legal) a.file_told a.rank_told (rival_of p Rook m n a)
one_origin p Queen m n size a = piece_alone p Queen m n.from (from_inside p size n a.other_legal) a.file_told a.rank_told (rival_of p Queen m n a)
one_origin p King m n size a = piece_alone p King m n.from (from_inside p size n a.other_legal) a.file_told a.rank_told (rival_of p King m n a)

one_move : (p : Position) (k : Kind) (m n : Move) → length p.board ≡ 64 → Alike p k m n → n ≡ m
one_move p k m n size a =
    made_of n m.to m.promo a.to a.promo ∙ ap (λ (s : ℕ). move_of s m.to m.promo) (one_origin p k m n size a)

named_one : (p : Position) (m n : Move) (o : Option Castle) → length p.board ≡ 64 → castling p.board m ≡ o → legal_at p m ≡ true → legal_at p n ≡ true → agrees p.board p.turn (named_as o p m) n ≡ true → n ≡ m
named_one p m n (Some x) size e legal_m legal_n h = one_castle p x m n legal_m legal_n (named_agrees p m (Some x) e legal_m) h
named_one p m n None size e legal_m legal_n h =
    let l = legality p.board p.turn _ _ m legal_m in
    let p6 = and_parts _ _ h in
    let p5 = and_parts _ _ p6.0 in
    let p4 = and_parts _ _ p5.0 in
    let p3 = and_parts _ _ p4.0 in
    let p2 = and_parts _ _ p3.0 in
    let p1 = and_parts _ _ p2.0 in
    one_move p (kind_at p.board m.from) m n size (record {
      legal = legal_m;
      other_legal = legal_n;
      man = kind_there p.turn (at p.board m.from) l.mover;
      other_man = p1.1;
      to = eqb-true _ _ p2.1;
      promo = sym (promo_is m.promo n.promo p3.1);
      file_told = p4.1;
      rank_told = p5.1;
      truth = same_truth_is _ _ p6.1;
    })

-- what is said of a legal move fits it alone
pub named_only : (p : Position) (m : Move) → length p.board ≡ 64 → legal_at p m ≡ true → IsOnly (fits (named p m) p) m
unfolding fits named
named_only p m size legal = record {
  passes = named_fits p m legal;
  alone = λ n h.
      let both = and_parts _ _ h in
      named_one p m n (castling p.board m) size refl legal both.0 both.1;
}
