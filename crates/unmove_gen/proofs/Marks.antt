-- Captures en passant, and how they are marked.
use Rattle.std.proofs.Common.{◌≡◌, ◌≢◌, ◌+◌, ◌==◌, Bool, true, false, ◌&&◌, refl, ap, sym, ◌∙◌, subst, arith}
use Rattle.std.proofs.lemmas.Bool.{and_parts, and_from, not-true, not_from_false, both_ways, cond-false, eqb-true, false_from_ne_true}
use Rattle.std.specs.Prelude.{Option, Some, None, IsTrue, IfSome}
use Rattle.board_base.specs.Board.{Places, at, is_a, is_of, is_the, is_empty, man, opponent, file, rank}
use Rattle.board_base.specs.Attacks.{distance, files_apart, one_ahead}
use Rattle.board_base.specs.Play.{castling, castling_from, double_of, goes_en_passant, en_passant_victim}
use Rattle.board_base.specs.Legal.{is_move, man_moves, pawn_steps, pawn_doubles, pawn_captures, pawn_captures_en_passant, king_castles}
use Rattle.board_base.specs.Parts.{castles_as}
use Rattle.board_base.specs.declared.men.Colour.{Colour}
use Rattle.board_base.specs.declared.men.Colour.TheVariants.{White, Black}
use Rattle.board_base.specs.declared.men.Kind.TheVariants.{Pawn, King}
use Rattle.board_base.specs.declared.moves.Move.{Move}
use Rattle.board_base.specs.declared.castles.Castle.{Castle}
use Rattle.board_base.proofs.KindsOfMen.{another_kind}
use Rattle.board_base.proofs.Equal.{last_is, move_self, the_is}
use Rattle.board_base.proofs.Passing.{may_pass, double-en_passant_victim, other-files}
use Rattle.play_rules.proofs.Legality.{Manner, moves, steps, doubles, takes, passes, castles, Legality}
use Rattle.play_rules.proofs.Kings.{empty-not}
use Rattle.unmove_gen.specs.Listed.{has_left}
use Rattle.general_lemmas.proofs.Truth.{same_truth}

-- the pawn that has just made this double step stands where it ended
abbrev pub has_passed : Places → Colour → Option Move → Option Move → Bool
has_passed board c last o = elim o as (λ _. Bool) [ None ↦ false | Some d ↦ is_move last d && is_the (opponent c) Pawn (at board d.to) ]

origin-apart : (m : Move) → files_apart m.from m.to ≡ 1 → en_passant_victim m ≢ m.from
unfolding distance
origin-apart m apart e = omega arith

target-apart : (c : Colour) (m : Move) → one_ahead c m.from m.to ≡ true → en_passant_victim m ≢ m.to
target-apart White m up e = let u : rank m.to ≡ rank m.from + 1 = eqb-true _ _ up in omega arith
target-apart Black m up e = let u : rank m.from ≡ rank m.to + 1 = eqb-true _ _ up in omega arith

-- what is known of a capture en passant
pub record Captures (board : Places) (c : Colour) (m : Move) : Type 0 where
  pub not_target : en_passant_victim m ≢ m.to
  pub not_origin : en_passant_victim m ≢ m.from
  pub pawn : at board (en_passant_victim m) ≡ man (opponent c) Pawn
  pub no_promo : m.promo ≡ None
  pub goes : goes_en_passant board m ≡ true

captures-as : (board : Places) (c : Colour) (last : Option Move) (m : Move) (o : Option Move) → double_of m c ≡ o → (is_a Pawn (at board m.from) && is_empty (at board m.to)) ≡ true → has_passed board c last o ≡ true → Captures board c m
captures-as board c last m None e ends h = absurd (both_ways false refl h)
captures-as board c last m (Some d) e ends h =
    let may = may_pass m c d e in
    let places = and_parts _ _ ends in
    record {
      not_target = target-apart c m may.ahead_is;
      not_origin = origin-apart m may.files;
      pawn = ap (at board) (sym (double-en_passant_victim m d c e)) ∙ the_is (opponent c) Pawn (at board d.to) (and_parts _ _ h).1;
      no_promo = may.promo;
      goes = and_from _ _ (and_from _ _ places.0 (not_from_false _ (other-files m may.files))) places.1;
    }

pub captures : (board : Places) (c : Colour) (last : Option Move) (m : Move) → pawn_captures_en_passant board c last m ≡ true → Captures board c m
unfolding pawn_captures_en_passant
captures board c last m h = let p = and_parts _ _ h in captures-as board c last m (double_of m c) refl p.0 p.1

-- a pawn that goes as in a capture en passant makes one
pub goes-captures : (board : Places) (c : Colour) (rights : Castle → Bool) (last : Option Move) (m : Move) → castling board m ≡ None → goes_en_passant board m ≡ true → Manner board c rights last m → pawn_captures_en_passant board c last m ≡ true
unfolding man_moves pawn_steps pawn_doubles pawn_captures pawn_captures_en_passant king_castles
goes-captures board c rights last m none t (moves h) = absurd (both_ways (is_a Pawn (at board m.from)) (not-true _ (and_parts _ _ h).0) (and_parts _ _ (and_parts _ _ t).0).0)
goes-captures board c rights last m none t (steps h) = absurd (both_ways (file m.from == file m.to) (not-true _ (and_parts _ _ (and_parts _ _ t).0).1) (and_parts _ _ (and_parts _ _ h).0).1)
goes-captures board c rights last m none t (doubles h) =
    absurd (both_ways (file m.from == file m.to) (not-true _ (and_parts _ _ (and_parts _ _ t).0).1) (and_parts _ _ (and_parts _ _ (and_parts _ _ (and_parts _ _ h).0).0).0).1)
goes-captures board c rights last m none t (takes h) =
    absurd (both_ways (is_of (opponent c) (at board m.to)) (empty-not (is_of (opponent c)) _ refl (and_parts _ _ t).1) (and_parts _ _ h).1)
goes-captures board c rights last m none t (passes h) = h
goes-captures board c rights last m none t (castles h) =
    let P : Option Castle → Type 0 = λ o. castles_as board c rights o ≡ true in
    absurd (both_ways false refl (subst P none h))

pawn-no_castling : (board : Places) (m : Move) → goes_en_passant board m ≡ true → castling board m ≡ None
pawn-no_castling board m h = cond-false _ (castling_from m.from m.to) None (another_kind King Pawn _ (and_parts _ _ (and_parts _ _ h).0).0)

-- a legal move goes so exactly where it is a capture en passant
pub goes-same : (board : Places) (c : Colour) (rights : Castle → Bool) (last : Option Move) (m : Move) → Legality board c rights last m → goes_en_passant board m ≡ pawn_captures_en_passant board c last m
goes-same board c rights last m l =
    same_truth _ _ (λ h. goes-captures board c rights last m (pawn-no_castling board m h) h l.manner) (λ h. (captures board c last m h).goes)

self-from : (board : Places) (c : Colour) (last o : Option Move) → has_passed board c last o ≡ true → has_passed board c o o ≡ true
self-from board c last None h = h
self-from board c last (Some d) h = and_from _ _ (move_self d) (and_parts _ _ h).1

-- it is one also after the double step that it answers
pub self-answers : (board : Places) (c : Colour) (last : Option Move) (m : Move) → pawn_captures_en_passant board c last m ≡ true → pawn_captures_en_passant board c (double_of m c) m ≡ true
unfolding pawn_captures_en_passant
self-answers board c last m h = let p = and_parts _ _ h in and_from _ _ p.0 (self-from board c last (double_of m c) p.1)

none-passed : (board : Places) (c : Colour) (o : Option Move) → has_passed board c None o ≡ false
none-passed board c None = refl
none-passed board c (Some d) = refl

-- without a last move there is none
pub none-answers : (board : Places) (c : Colour) (m : Move) → pawn_captures_en_passant board c None m ≡ false
unfolding pawn_captures_en_passant
none-answers board c m = false_from_ne_true _ (λ h. both_ways _ (none-passed board c (double_of m c)) (and_parts _ _ h).1)

left-from : (board : Places) (c : Colour) (last o : Option Move) → ((l : Move) → last ≡ Some l → at board l.from ≡ None) → has_passed board c last o ≡ true → has_left o board ≡ true
left-from board c last None left h = refl
left-from board c last (Some d) left h = ap is_empty (left d (last_is last d (and_parts _ _ h).0))

-- the home of the double step is empty
pub home-left : (board : Places) (c : Colour) (last : Option Move) (m : Move) → ((l : Move) → last ≡ Some l → at board l.from ≡ None) → pawn_captures_en_passant board c last m ≡ true → has_left (double_of m c) board ≡ true
unfolding pawn_captures_en_passant
home-left board c last m left h = left-from board c last (double_of m c) left (and_parts _ _ h).1

answered-from : (board : Places) (c : Colour) (last o : Option Move) → has_passed board c last o ≡ true → IfSome o (λ d. (last ≡ Some d) × IsTrue (is_a Pawn (at board d.to)))
answered-from board c last None h = tt
answered-from board c last (Some d) h = let p = and_parts _ _ h in (last_is last d p.0, (and_parts _ _ p.1).1)

-- the double step was the last move
pub answered-last : (board : Places) (c : Colour) (last : Option Move) (m : Move) → pawn_captures_en_passant board c last m ≡ true → IfSome (double_of m c) (λ d. (last ≡ Some d) × IsTrue (is_a Pawn (at board d.to)))
unfolding pawn_captures_en_passant
answered-last board c last m h = answered-from board c last (double_of m c) (and_parts _ _ h).1

-- what captures en passant is a pawn
pub goes-pawn : (board : Places) (m : Move) (b : Bool) → goes_en_passant board m ≡ b → b ≡ true → is_a Pawn (at board m.from) ≡ true
goes-pawn board m b goes e = (and_parts _ _ (and_parts _ _ (goes ∙ e)).0).0
