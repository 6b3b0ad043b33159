-- Which moves may have brought a man to his square.
use Rattle.std.proofs.Common.{◌≡◌, ℕ, ◌+◌, ◌==◌, Bool, true, false, cond, ◌&&◌, length, refl, ap, sym, ◌∙◌, subst, arith}
use Rattle.std.proofs.lemmas.Bool.{and_parts, and_from, both_ways, cond-true, eqb-true, eq-eqb, true_from_ne_false}
use Rattle.std.specs.Prelude.{Option, Some, None}
use Rattle.board_base.specs.Board.{Places, at, is_a, is_empty, is_of, rank}
use Rattle.board_base.specs.Attacks.{kind_attacks}
use Rattle.board_base.specs.Play.{double_of, promoted}
use Rattle.board_base.specs.Parts.{double_step}
use Rattle.board_base.specs.Legal.{last_rank, pawn_captures_en_passant, promotion_fits}
use Rattle.board_base.specs.Rights.{Rights, holds}
use Rattle.board_base.specs.declared.men.Man.{Man}
use Rattle.board_base.specs.declared.men.Colour.{Colour}
use Rattle.board_base.specs.declared.men.Colour.TheVariants.{White, Black}
use Rattle.board_base.specs.declared.men.Kind.{Kind}
use Rattle.board_base.specs.declared.men.Kind.TheVariants.{Pawn, Knight, Bishop, Rook, Queen, King}
use Rattle.board_base.specs.declared.moves.Move.{Move}
use Rattle.board_base.specs.declared.castles.Castle.{Castle}
use Rattle.board_base.specs.declared.unmoves.Unmove.{Unmove}
use Rattle.board_base.proofs.KindsOfMen.{colour_is, kind_is, same_kind-self}
use Rattle.board_base.proofs.EachCastle.{each-castle}
use Rattle.query_base.specs.Asked.{Asked}
use Rattle.play_rules.specs.Listed.{move_of}
use Rattle.play_rules.specs.Ways.{may_reach}
use Rattle.play_rules.specs.States.{Position, legal_at, step_over}
use Rattle.play_rules.proofs.Legality.{Legality}
use Rattle.play_rules.proofs.Skipped.{too-far}
use Rattle.unmove_gen.specs.Listed.{answered, before, every_right, is_legal_before, is_listed, mover}
use Rattle.unmove_gen.specs.Ways.{may_go_alone, may_have_made}
use Rattle.board_base.proofs.Passing.{may_pass}
use Rattle.play_rules.proofs.Left.{placed}
use Rattle.unmove_gen.proofs.Back.{came, fits_as}
use Rattle.unmove_gen.proofs.Exchanged.{legal-exchanged}
use Rattle.unmove_gen.proofs.Marks.{captures, goes-same, has_passed}
use Rattle.unmove_gen.proofs.Members.{length-back}
use Rattle.unmove_gen.proofs.Parts.{legality_of, parts}

crossing : (c : Colour) (m : Move) (d : Move) → double_of m c ≡ Some d → step_over (Some m.to) c ≡ Some d
crossing White m d e =
    let may = may_pass m White d e in
    let low : rank m.from ≡ 4 = may.rank_is in
    let up : rank m.to ≡ rank m.from + 1 = eqb-true _ _ may.ahead_is in
    cond-true _ (Some (double_step m White)) None (eq-eqb (rank m.to) 5 (omega arith)) ∙ ap Some may.double
crossing Black m d e =
    let may = may_pass m Black d e in
    let low : rank m.from ≡ 3 = may.rank_is in
    let down : rank m.from ≡ rank m.to + 1 = eqb-true _ _ may.ahead_is in
    cond-true _ (Some (double_step m Black)) None (eq-eqb (rank m.to) 2 (omega arith)) ∙ ap Some may.double

passed-same : (board : Places) (c : Colour) (m : Move) (o : Option Move) → double_of m c ≡ o → has_passed board c (step_over (Some m.to) c) o ≡ has_passed board c o o
passed-same board c m None e = refl
passed-same board c m (Some d) e = ap (λ (l : Option Move). has_passed board c l (Some d)) (crossing c m d e)

-- the crossed square tells of the double step that is answered
answer-same : (board : Places) (c : Colour) (m : Move) (captured : Option Kind) (ep : Bool) → pawn_captures_en_passant board c (step_over (cond ep (Some m.to) None) c) m ≡ pawn_captures_en_passant board c (answered (record { mv = m; captured = captured; ep = ep }) c) m
unfolding pawn_captures_en_passant
answer-same board c m captured false = refl
answer-same board c m captured true = ap (λ (b : Bool). is_a Pawn (at board m.from) && is_empty (at board m.to) && b) (passed-same board c m (double_of m c) refl)

-- the state before an unmove's move: every castling is allowed, and the double step that it answers has just been made
abbrev pub state_before : Places → Colour → Rights → Unmove → Position
state_before board c rights u = record { board = board; turn = c; rights = rights; ep = cond u.ep (Some u.mv.to) None; clock = 0 }

pub legal-before : (board : Places) (c : Colour) (rights : Rights) (u : Unmove) → ((x : Castle) → holds rights x ≡ true) → legal_at (state_before board c rights u) u.mv ≡ is_legal_before board c u
legal-before board c rights u all = legal-exchanged board c (holds rights) every_right (step_over (cond u.ep (Some u.mv.to) None) c) (answered u c) u.mv (λ x e. all x) (answer-same board c u.mv u.captured u.ep)

all_rights : Rights
all_rights = record { white_short = true; white_long = true; black_short = true; black_long = true }

all-held : (x : Castle) → holds all_rights x ≡ true
unfolding all_rights
all-held = each-castle (holds all_rights) refl

-- a man who may go so may do so on an empty board
reach-alone : (board : Places) (c : Colour) (k : Kind) (s t : ℕ) → may_reach board c k s t ≡ true → may_go_alone c k s t ≡ true
unfolding may_reach may_go_alone kind_attacks
reach-alone board c Pawn s t h = h
reach-alone board c Knight s t h = h
reach-alone board c King s t h = h
reach-alone board c Bishop s t h = (and_parts _ _ (and_parts _ _ h).0).1
reach-alone board c Rook s t h = (and_parts _ _ (and_parts _ _ h).0).1
reach-alone board c Queen s t h = (and_parts _ _ (and_parts _ _ h).0).1

went : (board : Places) (c : Colour) (u : Unmove) (man : Man) → is_legal_before board c u ≡ true → at board u.mv.from ≡ Some man → may_go_alone man.colour man.kind u.mv.from u.mv.to ≡ true
went board c u man legal here =
    reach-alone board man.colour man.kind u.mv.from u.mv.to (true_from_ne_false _ (λ far. both_ways _ (too-far (state_before board c all_rights u) man u.mv.from u.mv.to here far u.mv.promo) (legal-before board c all_rights u all-held ∙ legal)))

made-as : (c : Colour) (m : Move) (promo : Option Kind) (place : Option Man) → is_of c place ≡ true → fits_as place (rank m.to == last_rank c) promo ≡ true → ((was : Man) → place ≡ Some was → may_go_alone was.colour was.kind m.from m.to ≡ true) → may_have_made (promoted promo place) (move_of m.from m.to promo) ≡ true
made-as c m None None own fits went = absurd (both_ways false refl own)
made-as c m None (Some was) own fits went = went was refl
made-as c m (Some k) None own fits went = absurd (both_ways false refl own)
made-as c m (Some k) (Some was) own fits went =
    let parts = and_parts _ _ (and_parts _ _ fits).0 in
    let there : (rank m.to == last_rank was.colour) ≡ true = subst (λ (d : Colour). (rank m.to == last_rank d) ≡ true) (colour_is c was.colour own) parts.1 in
    let step : may_go_alone was.colour Pawn m.from m.to ≡ true = subst (λ (j : Kind). may_go_alone was.colour j m.from m.to ≡ true) (sym (kind_is Pawn was.kind parts.0)) (went was refl) in
    and_from _ _ (and_from _ _ (same_kind-self k) there) step

-- the man on the target of a listed unmove may have made its move
pub listed-made : (q : Asked) (u : Unmove) → length q.board ≡ 64 → is_listed q u ≡ true → may_have_made (at q.board u.mv.to) u.mv ≡ true
unfolding promotion_fits
listed-made q u len h =
    let p = parts q u h in
    let board : Places = before q u in
    let c : Colour = mover q in
    let l : Legality board c every_right (answered u c) u.mv = legality_of q u p in
    let goes = goes-same board c every_right (answered u c) u.mv l in
    let there = (came board c every_right (answered u c) u.mv _ goes (captures board c (answered u c) u.mv) (placed board c every_right (answered u c) u.mv (length-back q.board u ∙ len) l) l).there in
    let same : promoted u.mv.promo (at board u.mv.from) ≡ at q.board u.mv.to = sym there ∙ ap (λ (b : Places). at b u.mv.to) p.here in
    subst (λ (place : Option Man). may_have_made place u.mv ≡ true) same (made-as c u.mv u.mv.promo (at board u.mv.from) l.mover l.promotion (λ was e. went board c u was p.legal e))
