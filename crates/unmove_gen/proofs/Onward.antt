-- A listed move after a game that reaches the predecessor.
use Rattle.std.proofs.Common.{◌≡◌, ℕ, ◌<◌, Bool, true, false, not, List, [], ◌∷◌, ◌++◌, length, refl, ap, sym, ◌∙◌, subst, arith}
use Rattle.std.proofs.lemmas.Bool.{and_parts, both_ways, cond-false}
use Rattle.std.specs.Prelude.{Option, Some, None, IsTrue, IfSome, is_some}
use Rattle.std.specs.Bool.{beq}
use Rattle.std.specs.List.{Contains}
use Rattle.board_base.specs.Board.{Places, at, is_a, is_empty, is_of, opponent}
use Rattle.board_base.specs.Play.{play, castling, en_passant_victim, goes_en_passant}
use Rattle.board_base.specs.Parts.{played_as}
use Rattle.board_base.specs.Legal.{legal_on, may_castle, pawn_captures_en_passant}
use Rattle.board_base.specs.Game.{last_move, legal_after, turn_after, unmoved}
use Rattle.board_base.specs.Rights.{holds}
use Rattle.board_base.specs.declared.men.Colour.{Colour}
use Rattle.board_base.specs.declared.men.Man.{Man}
use Rattle.board_base.specs.declared.men.Kind.{Kind}
use Rattle.board_base.specs.declared.men.Kind.TheVariants.{Pawn}
use Rattle.board_base.specs.declared.moves.Move.{Move}
use Rattle.board_base.specs.declared.castles.Castle.{Castle}
use Rattle.board_base.specs.declared.unmoves.Unmove.{Unmove}
use Rattle.board_base.proofs.Rights.{holds_added}
use Rattle.board_base.proofs.KindsOfMen.{opponent-twice}
use Rattle.castle_history.specs.TakenBack.{castling_back}
use Rattle.query_base.specs.Asked.{Asked}
use Rattle.query_base.specs.Reach.{Reaches}
use Rattle.play_rules.proofs.Legality.{Legality}
use Rattle.play_rules.proofs.Games.{board_after-more, game_more, unmoved-more}
use Rattle.play_rules.proofs.Doubles.{turn_after-more}
use Rattle.play_rules.proofs.Kings.{length-after, two-castles}
use Rattle.unmove_gen.specs.Listed.{answered, before, candidates, every_right, is_listed, mover, obeys_clock, resets, unmoves}
use Rattle.unmove_gen.specs.Predecessor.{predecessor, with_castle}
use Rattle.play_rules.specs.Clocks.{clock_after}
use Rattle.play_rules.specs.Clocks as moves
use Rattle.play_rules.proofs.Left.{placed}
use Rattle.unmove_gen.specs.TakenBack.{capture_square, captured_by}
use Rattle.unmove_gen.proofs.Back.{came}
use Rattle.unmove_gen.proofs.Clocked.{Arrived, after-one, clock-onward, promotes-pawn, same-reset}
use Rattle.unmove_gen.proofs.Members.{at-capture, length-back}
use Rattle.unmove_gen.proofs.Castlings.{castled}
use Rattle.unmove_gen.proofs.Demands.{barred-met, held-keeps, only-met, untouched}
use Rattle.general_lemmas.proofs.Truth.{same_truth}
use Rattle.unmove_gen.proofs.Exchanged.{legal-exchanged}
use Rattle.unmove_gen.proofs.Marks.{captures, goes-pawn, goes-same, none-answers}
use Rattle.unmove_gen.proofs.Parts.{Parts, clocked, legality_of, parts}
use Rattle.general_lemmas.proofs.Filtered.{passes-filter}

castled-played : (board : Places) (c : Colour) (rights : Castle → Bool) (m : Move) (x : Castle) → m.to < length board → castling board m ≡ Some x → may_castle board c rights x ≡ true → castling_back (play board m) m ≡ Some x
unfolding play
castled-played board c rights m x inside e may =
    subst (λ (o : Option Castle). castling_back (played_as board m o) m ≡ Some x) (sym e) (castled board c rights m x inside e may)

-- a capture en passant of the demanded last move is one of the last move
pub passes-last : (board : Places) (c : Colour) (last o : Option Move) (m : Move) → IfSome o (λ d. (last ≡ Some d) × IsTrue (is_a Pawn (at board d.to))) → pawn_captures_en_passant board c o m ≡ true → pawn_captures_en_passant board c last m ≡ true
passes-last board c last None m only h = absurd (both_ways _ (none-answers board c m) h)
passes-last board c last (Some d) m only h = subst (λ (l : Option Move). pawn_captures_en_passant board c l m ≡ true) (sym only.0) h

beq-of : (a b : Bool) → beq a b ≡ true → b ≡ a
beq-of true true h = refl
beq-of true false h = absurd (both_ways _ refl h)
beq-of false true h = absurd (both_ways _ refl h)
beq-of false false h = refl

taken-place : (c : Colour) (place : Option Man) (k : Option Kind) → is_of c place ≡ true → is_some k ≡ not (is_empty (captured_by place k))
taken-place c None k own = absurd (both_ways false refl own)
taken-place c (Some m) None own = refl
taken-place c (Some m) (Some k) own = refl

-- the board before a listed unmove's move tells of it what the unmove says
arrived : (q : Asked) (u : Unmove) → length q.board ≡ 64 → Parts q u → Arrived q.board (before q u) u
arrived q u whole p =
    let board : Places = before q u in
    let c : Colour = mover q in
    let l = legality_of q u p in
    let ep : pawn_captures_en_passant board c (answered u c) u.mv ≡ u.ep = beq-of _ _ (and_parts _ _ p.marked).0 in
    let goes : goes_en_passant board u.mv ≡ u.ep = goes-same board c every_right (answered u c) u.mv l ∙ ep in
    let came' = came board c every_right (answered u c) u.mv u.ep goes (λ e. captures board c (answered u c) u.mv (ep ∙ e)) (placed board c every_right (answered u c) u.mv (length-back q.board u ∙ whole) l) l in
    record {
      there = ap (λ (b : Places). at b u.mv.to) (sym p.here) ∙ came'.there;
      promotes = promotes-pawn board c every_right (answered u c) u.mv l;
      passes = goes-pawn board u.mv u.ep goes;
      takes = λ plain.
          let square : capture_square u ≡ u.mv.to = cond-false u.ep (en_passant_victim u.mv) u.mv.to plain in
          let there : at board u.mv.to ≡ captured_by (at q.board u.mv.to) u.captured = ap (at board) (sym square) ∙ at-capture q.board u (let small : u.mv.to < 64 = l.on_board in omega (arith, square, whole, small)) in
          taken-place c (at q.board u.mv.to) u.captured p.target ∙ ap (λ (place : Option Man). not (is_empty place)) (sym there);
    }

onward-from : (g : List Move) (u : Unmove) (q : Asked) → Parts q u → obeys_clock q u ≡ true → Reaches g (predecessor q u) → Reaches (g ++ u.mv ∷ []) q
onward-from g u q p clock r =
    let board : Places = before q u in
    let c : Colour = mover q in
    let last : Option Move = last_move g in
    let rights : Castle → Bool = unmoved q.odds g in
    let l : Legality board c every_right (answered u c) u.mv = legality_of q u p in
    let inside : u.mv.to < length board = let small : u.mv.to < 64 = l.on_board in omega (arith, ap length r.board, length-after q.odds g r.game) in
    let has : (x : Castle) → castling board u.mv ≡ Some x → every_right x ≡ rights x =
    λ x e.
    let back : castling_back q.board u.mv ≡ Some x = ap (λ (b : Places). castling_back b u.mv) (sym p.here) ∙ castled-played board c every_right u.mv x inside e (two-castles board c every_right (answered u c) u.mv x e l.manner) in
    sym (r.held x (subst (λ (o : Option Castle). holds (with_castle q.held o) x ≡ true) (sym back) (holds_added q.held x))) in
    let passes : pawn_captures_en_passant board c (answered u c) u.mv ≡ pawn_captures_en_passant board c last u.mv =
    same_truth _ _ (passes-last board c last (answered u c) u.mv r.only) (λ h. sym (goes-same board c every_right (answered u c) u.mv l) ∙ (captures board c last u.mv h).goes) in
    let legal : legal_after q.odds g u.mv ≡ true =
    ap (λ (b : Places). legal_on b (turn_after g) rights last u.mv) r.board ∙ ap (λ (d : Colour). legal_on board d rights last u.mv) r.turn ∙ sym (legal-exchanged board c every_right rights (answered u c) last u.mv has passes) ∙ p.legal in
    record {
      odds = r.odds;
      game = game_more q.odds g u.mv r.game legal;
      board = board_after-more q.odds g u.mv ∙ ap (λ (b : Places). play b u.mv) r.board ∙ p.here;
      turn = turn_after-more g u.mv ∙ ap opponent r.turn ∙ opponent-twice q.turn;
      held = λ x h. unmoved-more q.odds g u.mv x (r.held x (held-keeps q.held (castling_back q.board u.mv) x h)) (untouched q u.mv p.held x h);
      only = only-met q.only q.board g u.mv p.only;
      barred = barred-met q.barred g u.mv p.barred;
      clock =
          let whole : length q.board ≡ 64 = sym (length-back q.board u) ∙ ap length (sym r.board) ∙ length-after q.odds g r.game in
          let reset = sym (same-reset q.board board u (arrived q u whole p)) in
          subst (λ (n : ℕ). IfSome q.clock (λ k. n ≡ k)) (sym (after-one q.odds g u.mv (resets q.board u) (ap (λ (b : Places). moves.resets b u.mv) r.board ∙ reset))) (clock-onward q.clock (clock_after q.odds g) (resets q.board u) clock r.clock);
    }

-- a game that reaches the predecessor of a listed unmove reaches the query with its move
pub onward : (g : List Move) (u : Unmove) (q : Asked) → Contains (unmoves q) u → Reaches g (predecessor q u) → Reaches (g ++ u.mv ∷ []) q
unfolding unmoves
onward g u q listed r = let passes = passes-filter (is_listed q) candidates u listed in onward-from g u q (parts q u passes) (clocked q u passes).1 r
