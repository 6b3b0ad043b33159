-- A game to what is before a listed unmove goes on by its move, which takes back what the unmove says.
use Rattle.std.proofs.Common.{◌≡◌, ◌+◌, ◌<◌, Bool, true, false, cond, List, [], ◌∷◌, ◌++◌, length, refl, ap, sym, subst, ◌∙◌, arith}
use Rattle.std.proofs.lemmas.Bool.{and_parts, both_ways, cond-false}
use Rattle.std.specs.Prelude.{◌&&◌, Option, Some, None}
use Rattle.std.specs.Bool.{beq}
use Rattle.std.specs.List.{Contains}
use Rattle.general_lemmas.proofs.Filtered.{passes-filter}
use Rattle.general_lemmas.proofs.Truth.{same_truth}
use Rattle.board_base.specs.Board.{Places, at, is_of, same_kind}
use Rattle.board_base.specs.Game.{board_after, last_move, turn_after}
use Rattle.board_base.specs.Legal.{pawn_captures_en_passant}
use Rattle.board_base.specs.Play.{en_passant_victim}
use Rattle.board_base.specs.declared.men.Colour.{Colour}
use Rattle.board_base.specs.declared.men.Kind.{Kind}
use Rattle.board_base.specs.declared.men.Kind.TheVariants.{Pawn}
use Rattle.board_base.specs.declared.men.Man.{Man}
use Rattle.board_base.specs.declared.moves.Move.{Move}
use Rattle.board_base.specs.declared.unmoves.Unmove.{Unmove}
use Rattle.board_base.proofs.KindsOfMen.{kind_is}
use Rattle.play_rules.proofs.Kings.{length-after}
use Rattle.query_base.specs.Asked.{Asked}
use Rattle.query_base.specs.Reach.{Reaches}
use Rattle.unmove_gen.specs.Listed.{answered, before, candidates, every_right, has_left, is_listed, mover, took_pawn, unmoves}
use Rattle.unmove_gen.specs.Predecessor.{is_en_passant_after, predecessor, unmove_after}
use Rattle.unmove_gen.specs.TakenBack.{capture_square, captured_by, kind_of}
use Rattle.unmove_gen.proofs.Marks.{captures, goes-same}
use Rattle.unmove_gen.proofs.Members.{at-capture, length-back}
use Rattle.unmove_gen.proofs.Parts.{Parts, legality_of, parts}
use Rattle.unmove_gen.proofs.Onward.{passes-last}

-- the man that one of this side captured is of the kind that was given
kind-captured : (place : Option Man) (c : Colour) (k : Option Kind) → is_of c place ≡ true → kind_of (captured_by place k) ≡ k
kind-captured None c k own = absurd (both_ways false refl own)
kind-captured (Some m) c None own = refl
kind-captured (Some m) c (Some k) own = refl

took : (k : Option Kind) → elim k [ None ↦ false | Some i ↦ same_kind Pawn i ] ≡ true → k ≡ Some Pawn
took None h = absurd (both_ways _ refl h)
took (Some k) h = ap (λ (i : Kind). let o : Option Kind = Some i in o) (sym (kind_is Pawn k h))

beq-is : (a b : Bool) → beq a b ≡ true → b ≡ a
beq-is true true h = refl
beq-is true false h = absurd (both_ways _ refl h)
beq-is false true h = absurd (both_ways _ refl h)
beq-is false false h = refl

-- what the move of a listed unmove captures on the board before it
captured-here : (q : Asked) (u : Unmove) (b : Bool) → length q.board ≡ 64 → Parts q u → u.ep ≡ b → cond b (Some Pawn) (kind_of (at (before q u) u.mv.to)) ≡ u.captured
captured-here q u true whole p ep =
    let marked : cond u.ep (took_pawn u && has_left (answered u (mover q)) (before q u)) true ≡ true = (and_parts _ _ p.marked).1 in
    let taken : (took_pawn u && has_left (answered u (mover q)) (before q u)) ≡ true = subst (λ (e : Bool). cond e (took_pawn u && has_left (answered u (mover q)) (before q u)) true ≡ true) ep marked in
    sym (took u.captured (and_parts _ _ taken).0)
captured-here q u false whole p plain =
    let square : capture_square u ≡ u.mv.to = cond-false u.ep (en_passant_victim u.mv) u.mv.to plain in
    let small : u.mv.to < 64 = (legality_of q u p).on_board in
    let there : at (before q u) u.mv.to ≡ captured_by (at q.board u.mv.to) u.captured = ap (at (before q u)) (sym square) ∙ at-capture q.board u (omega (arith, square, whole, small)) in
    ap kind_of there ∙ kind-captured (at q.board u.mv.to) (mover q) u.captured p.target

-- after a game that reaches the predecessor of a listed unmove, that is what its move takes back
same-unmove : (g : List Move) (u : Unmove) (q : Asked) → Parts q u → Reaches g (predecessor q u) → unmove_after q.odds g u.mv ≡ u
same-unmove g u q p r =
    let c : Colour = mover q in
    let l = legality_of q u p in
    let marked : pawn_captures_en_passant (before q u) c (answered u c) u.mv ≡ u.ep = beq-is _ _ (and_parts _ _ p.marked).0 in
    let passes : pawn_captures_en_passant (before q u) c (answered u c) u.mv ≡ pawn_captures_en_passant (before q u) c (last_move g) u.mv =
    same_truth _ _ (passes-last (before q u) c (last_move g) (answered u c) u.mv r.only) (λ h. sym (goes-same (before q u) c every_right (answered u c) u.mv l) ∙ (captures (before q u) c (last_move g) u.mv h).goes) in
    let ep : is_en_passant_after q.odds g u.mv ≡ u.ep =
    ap (λ (b : Places). pawn_captures_en_passant b (turn_after g) (last_move g) u.mv) r.board ∙ ap (λ (d : Colour). pawn_captures_en_passant (before q u) d (last_move g) u.mv) r.turn ∙ sym passes ∙ marked in
    let whole : length q.board ≡ 64 = sym (length-back q.board u) ∙ ap length (sym r.board) ∙ length-after q.odds g r.game in
    let captured : cond (is_en_passant_after q.odds g u.mv) (Some Pawn) (kind_of (at (board_after q.odds g) u.mv.to)) ≡ u.captured =
    ap (λ (b : Places). cond (is_en_passant_after q.odds g u.mv) (Some Pawn) (kind_of (at b u.mv.to))) r.board ∙ captured-here q u (is_en_passant_after q.odds g u.mv) whole p (sym ep) in
    ap (λ (k : Option Kind). let v : Unmove = record { mv = u.mv; captured = k; ep = is_en_passant_after q.odds g u.mv } in v) captured
    ∙ ap (λ (b : Bool). let v : Unmove = record { mv = u.mv; captured = u.captured; ep = b } in v) ep

-- so with that move a game to what is before a listed unmove ends with it
pub onward_ends : ((g : List Move) (u : Unmove) (q : Asked) → Contains (unmoves q) u → Reaches g (predecessor q u) → Reaches (g ++ u.mv ∷ []) q) → (q before : Asked) (u : Unmove) → Contains (unmoves q) u → before ≡ predecessor q u → (g : List Move) → Reaches g before → Reaches (g ++ u.mv ∷ []) q × (unmove_after q.odds g u.mv ≡ u)
unfolding unmoves
onward_ends onward q before u listed is g reaches =
    let there : Reaches g (predecessor q u) = subst (Reaches g) is reaches in
    (onward g u q listed there, same-unmove g u q (parts q u (passes-filter (is_listed q) candidates u listed)) there)
