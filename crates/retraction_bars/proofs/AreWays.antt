-- Each listed retraction is a way in which a man may have come.
use Rattle.std.proofs.Common.{◌≡◌, ℕ, Bool, true, false, ◌&&◌, length, inl, inr, Option, Some, None, refl, sym}
use Rattle.std.proofs.lemmas.Bool.{and_from, and_left, and_parts, and_right, both_ways, cases_Bool, not_from_false}
use Rattle.std.specs.Prelude.{is_some}
use Rattle.board_base.specs.Board.{Places, at, is_a, is_the, opponent}
use Rattle.board_base.specs.Legal.{is_move, legal_on, may_go, pawn_captures_en_passant, promotion_fits}
use Rattle.board_base.specs.Play.{double_of}
use Rattle.board_base.specs.declared.castles.Castle.{Castle}
use Rattle.board_base.specs.declared.men.Colour.{Colour}
use Rattle.board_base.specs.declared.men.Kind.{Kind}
use Rattle.board_base.specs.declared.men.Kind.TheVariants.{Pawn}
use Rattle.board_base.specs.declared.men.Man.{Man}
use Rattle.board_base.specs.declared.moves.Move.{Move}
use Rattle.board_base.specs.declared.unmoves.Unmove.{Unmove}
use Rattle.play_rules.proofs.NoPawns.{answers_law}
use Rattle.play_rules.specs.Laws.{HasNoPawnOnEnds, has_no_pawn_on_ends, is_end}
use Rattle.play_rules.specs.Listed.{move_of}
use Rattle.query_base.specs.Asked.{Asked}
use Rattle.unmove_gen.proofs.Arrivals.{listed-made}
use Rattle.unmove_gen.proofs.Marking.{marked-passes}
use Rattle.unmove_gen.proofs.Parts.{listed-sane, parts}
use Rattle.unmove_gen.specs.Listed.{answered, before, every_right, is_listed, is_marked, mover}
use Rattle.unmove_gen.specs.Sane.{is_sane}
use Rattle.unmove_gen.specs.Ways.{may_have_made}
use Rattle.retraction_bars.specs.Ways.{has_no_pawn_on_end, is_way, passes_well}

kept : (place : Option Man) (from to : ℕ) (promo : Option Kind) → may_have_made place (move_of from to promo) ≡ true → elim promo as (λ _. Bool) [ None ↦ true | Some k ↦ is_a k place ] ≡ true
kept None from to promo h = absurd (both_ways false refl h)
kept (Some man) from to None h = refl
kept (Some man) from to (Some k) h = (and_parts _ _ (and_parts _ _ h).0).0

no_pawns : (q : Asked) (u : Unmove) → is_listed q u ≡ true → HasNoPawnOnEnds (before q u)
unfolding is_sane
no_pawns q u h =
    let test : has_no_pawn_on_ends (before q u) ≡ true = (and_parts _ _ (and_parts _ _ (listed-sane q u h)).0).1 in
    (answers_law (before q u) true (sym test)).0 refl

no_pawn : (board : Places) (s : ℕ) → HasNoPawnOnEnds board → has_no_pawn_on_end board s ≡ true
no_pawn board s ends = elim (cases_Bool (is_end s)) [
  | inl end ↦ not_from_false _ (and_right _ _ (ends s end))
  | inr inner ↦ not_from_false _ (and_left _ _ inner)
]

is_given : (o : Option Move) (f : Move → Bool) → elim o as (λ _. Bool) [ None ↦ false | Some d ↦ f d ] ≡ true → is_some o ≡ true
is_given None f h = h
is_given (Some d) f h = refl

passer : (board : Places) (c : Colour) (m : Move) → pawn_captures_en_passant board c (double_of m c) m ≡ true → (is_a Pawn (at board m.from) && is_some (double_of m c)) ≡ true
unfolding pawn_captures_en_passant
passer board c m h =
    let goes = and_parts _ _ h in
    let pawn = and_parts _ _ goes.0 in
    and_from (is_a Pawn (at board m.from)) (is_some (double_of m c)) pawn.0 (is_given (double_of m c) (λ d. is_move (double_of m c) d && is_the (opponent c) Pawn (at board d.to)) goes.1)

well : (board : Places) (c : Colour) (m : Move) (captured : Option Kind) (ep : Bool) → is_marked board c (record { mv = m; captured = captured; ep = ep }) ≡ true → passes_well board c (record { mv = m; captured = captured; ep = ep }) ≡ true
well board c m captured false h = refl
well board c m captured true h = passer board c m (marked-passes board c m captured h)

legal_parts : (board : Places) (c : Colour) (rights : Castle → Bool) (last : Option Move) (m : Move) → legal_on board c rights last m ≡ true → (promotion_fits board c m && may_go board c rights last m) ≡ true
unfolding legal_on
legal_parts board c rights last m h =
    let p6 = and_parts _ _ h in
    let p5 = and_parts _ _ p6.0 in
    let p4 = and_parts _ _ p5.0 in
    and_from (promotion_fits board c m) (may_go board c rights last m) p4.1 p5.1

pub listed_way : (q : Asked) (u : Unmove) → length q.board ≡ 64 → is_listed q u ≡ true → is_way q u ≡ true
unfolding is_way
listed_way q u len h =
    let p = parts q u h in
    let goes = and_parts (promotion_fits (before q u) (mover q) u.mv) (may_go (before q u) (mover q) every_right (answered u (mover q)) u.mv) (legal_parts (before q u) (mover q) every_right (answered u (mover q)) u.mv p.legal) in
    let ends = no_pawns q u h in
    and_from _ _ p.target
    (and_from _ _ (kept (at q.board u.mv.to) u.mv.from u.mv.to u.mv.promo (listed-made q u len h))
    (and_from _ _ (and_from _ _ (and_from _ _ (and_from _ _ (no_pawn (before q u) u.mv.from ends) (no_pawn (before q u) u.mv.to ends)) (well (before q u) (mover q) u.mv u.captured u.ep p.marked)) goes.0) goes.1))
