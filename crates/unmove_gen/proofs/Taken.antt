-- The last move of a game that reaches a query is listed, and the moves before it reach its predecessor.
use Rattle.std.proofs.Common.{◌≡◌, ℕ, ◌<◌, ◌==◌, Bool, true, false, cond, ◌&&◌, not, List, [], ◌∷◌, ◌++◌, length, inl, inr, refl, ap, sym, ◌∙◌, subst, arith}
use Rattle.std.proofs.lemmas.Bool.{and_from}
use Rattle.std.specs.Prelude.{Option, Some, None, IsTrue, IfSome, is_some}
use Rattle.std.specs.Bool.{beq}
use Rattle.std.specs.List.{Contains}
use Rattle.board_base.specs.Board.{Places, at, is_a, is_of, is_empty, opponent, rank}
use Rattle.board_base.specs.Play.{play, castling, goes_en_passant}
use Rattle.board_base.specs.Legal.{last_rank, legal_on, pawn_captures_en_passant, promotion_fits}
use Rattle.board_base.specs.Game.{IsGame, board_after, turn_after, last_move, unmoved}
use Rattle.board_base.specs.declared.men.Man.{Man}
use Rattle.board_base.specs.declared.men.Colour.{Colour}
use Rattle.board_base.specs.declared.men.Kind.TheVariants.{Pawn, King}
use Rattle.board_base.specs.declared.moves.Move.{Move}
use Rattle.board_base.specs.declared.castles.Castle.{Castle}
use Rattle.board_base.specs.declared.unmoves.Unmove.{Unmove}
use Rattle.board_base.proofs.KindsOfMen.{opponent-twice}
use Rattle.general_lemmas.proofs.Lists.{contains-filter}
use Rattle.castle_history.specs.TakenBack.{castling_back}
use Rattle.query_base.specs.Asked.{Asked}
use Rattle.query_base.specs.Reach.{Reaches, EndsWith}
use Rattle.play_rules.proofs.Legality.{Legality, legality}
use Rattle.play_rules.proofs.Games.{board_after-more, game_before, legal_last, unmoved-before}
use Rattle.play_rules.proofs.Doubles.{turn_after-more}
use Rattle.play_rules.proofs.Kings.{length-after, two-castles}
use Rattle.unmove_gen.specs.TakenBack.{kind_of, taken_back}
use Rattle.unmove_gen.specs.Sane.{is_sane}
use Rattle.unmove_gen.specs.Listed.{answered, before, candidates, every_right, has_left, is_legal_before, is_listed, is_marked, is_retraction, keeps_held, leads_here, mover, obeys, obeys_barred, obeys_only, resets, same_places, took_pawn, unmoves}
use Rattle.unmove_gen.specs.Predecessor.{is_en_passant_after, predecessor, unmove_after}
use Rattle.play_rules.proofs.Left.{Placed, placed, left-in-game, play-leaves}
use Rattle.play_rules.specs.Clocks.{clock_after}
use Rattle.unmove_gen.proofs.Clocked.{Arrived, after-one, clock-came, clock-obeyed, next, promotes-pawn, same-reset}
use Rattle.unmove_gen.proofs.Back.{back, came, marked}
use Rattle.unmove_gen.proofs.Castlings.{castles, was-castling}
use Rattle.unmove_gen.proofs.Demands.{barred-from, held-from, keeps-all, only-from}
use Rattle.unmove_gen.proofs.Equal.{places_self}
use Rattle.unmove_gen.proofs.Exchanged.{legal-exchanged}
use Rattle.unmove_gen.proofs.Marks.{Captures, answered-last, captures, goes-pawn, goes-same, home-left, none-answers, self-answers}
use Rattle.unmove_gen.proofs.Members.{Fits, candidate-of}
use Rattle.unmove_gen.proofs.SaneGames.{sane-in-game}

-- what is known of the last move of a game that reaches the query
record Last (board : Places) (c : Colour) (rights : Castle → Bool) (last : Option Move) (m : Move) (q : Asked) : Type 0 where
  legal : Legality board c rights last m
  legal_is : legal_on board c rights last m ≡ true
  places : Placed board m
  size : length board ≡ 64
  sane : is_sane q.odds board c ≡ true
  here : play board m ≡ q.board
  held : keeps_held q m ≡ true
  only : obeys_only q.only q.board m ≡ true
  barred : obeys_barred q.barred m ≡ true
  left : (l : Move) → last ≡ Some l → at board l.from ≡ None

last_of : (g : List Move) (m : Move) (q : Asked) → Reaches (g ++ m ∷ []) q → Last (board_after q.odds g) (turn_after g) (unmoved q.odds g) (last_move g) m q
last_of g m q r =
    let game : IsGame q.odds g = game_before q.odds g m r.game in
    let legal_is = legal_last q.odds g m r.game in
    let legal : Legality (board_after q.odds g) (turn_after g) (unmoved q.odds g) (last_move g) m = legality _ _ _ _ _ legal_is in
    let size = length-after q.odds g game in
    record {
      legal = legal;
      legal_is = legal_is;
      places = placed (board_after q.odds g) _ _ _ m size legal;
      size = size;
      sane = sane-in-game q.odds g r.odds game;
      here = sym (board_after-more q.odds g m) ∙ r.board;
      held = keeps-all q m (λ x has. (unmoved-before q.odds g m x (r.held x has)).1);
      only = only-from q.only q.board g m r.only;
      barred = barred-from q.barred g m r.barred;
      left = left-in-game q.odds g game;
    }

-- the mark of its unmove, and what it captures where it is marked
record Marked (board : Places) (c : Colour) (last : Option Move) (m : Move) (b : Bool) : Type 0 where
  goes : goes_en_passant board m ≡ b
  answers : pawn_captures_en_passant board c last m ≡ b
  captured : b ≡ true → Captures board c m

marks : (board : Places) (c : Colour) (rights : Castle → Bool) (last : Option Move) (m : Move) → Legality board c rights last m → Marked board c last m (pawn_captures_en_passant board c last m)
marks board c rights last m l = record { goes = goes-same board c rights last m l; answers = refl; captured = captures board c last m }

answered-as : (board : Places) (c : Colour) (last : Option Move) (m : Move) (b : Bool) → pawn_captures_en_passant board c last m ≡ b → pawn_captures_en_passant board c (answered (marked b board m) c) m ≡ b
answered-as board c last m true e = self-answers board c last m e
answered-as board c last m false e = none-answers board c m

beq-self : (b : Bool) → beq b b ≡ true
beq-self true = refl
beq-self false = refl

left-as : (board : Places) (c : Colour) (last : Option Move) (m : Move) (b : Bool) → pawn_captures_en_passant board c last m ≡ b → ((l : Move) → last ≡ Some l → at board l.from ≡ None) → cond b (took_pawn (marked b board m) && has_left (answered (marked b board m) c) board) true ≡ true
left-as board c last m true e left = and_from _ _ refl (home-left board c last m left e)
left-as board c last m false e left = refl

marked-as : (board : Places) (c : Colour) (last : Option Move) (m : Move) (b : Bool) → pawn_captures_en_passant board c last m ≡ b → ((l : Move) → last ≡ Some l → at board l.from ≡ None) → is_marked board c (marked b board m) ≡ true
marked-as board c last m b e left =
    and_from _ _ (ap (beq b) (answered-as board c last m b e) ∙ beq-self b) (left-as board c last m b e left)

-- the test of the list, on the board before the move
abbrev listed_on : Places → Colour → Asked → Unmove → Bool
listed_on board c q u =
    (is_empty (at q.board u.mv.from) && is_of c (at q.board u.mv.to)) && obeys q u.mv && is_marked board c u && is_legal_before board c u && leads_here board q u.mv && is_sane q.odds board c

fits-same : (q : Asked) (u : Unmove) (board : Places) (c : Colour) → before q u ≡ board → mover q ≡ c → listed_on board c q u ≡ true → is_retraction q u ≡ true
unfolding is_retraction
fits-same q u board c b t h = subst (λ (d : Colour). listed_on (before q u) d q u ≡ true) (sym t) (subst (λ (p : Places). listed_on p c q u ≡ true) (sym b) h)

listed-as : (board : Places) (c : Colour) (rights : Castle → Bool) (last : Option Move) (m : Move) (q : Asked) (b : Bool) → Marked board c last m b → Last board c rights last m q → listed_on board c q (marked b board m) ≡ true
listed-as board c rights last m q b k l =
    let gone : at q.board m.from ≡ None = ap (λ (p : Places). at p m.from) (sym l.here) ∙ play-leaves board m l.places in
    let own : is_of c (at q.board m.to) ≡ true = ap (λ (p : Places). is_of c (at p m.to)) (sym l.here) ∙ (came board c rights last m b k.goes k.captured l.places l.legal).own in
    let has : (x : Castle) → castling board m ≡ Some x → every_right x ≡ rights x = λ x e. sym (castles board c rights x (two-castles board c rights last m x e l.legal.manner)).right in
    let legal : is_legal_before board c (marked b board m) ≡ true = legal-exchanged board c every_right rights (answered (marked b board m) c) last m has (answered-as board c last m b k.answers ∙ sym k.answers) ∙ l.legal_is in
    let here : same_places (play board m) q.board ≡ true = subst (λ (p : Places). same_places (play board m) p ≡ true) l.here (places_self (play board m)) in
    and_from _ _ (and_from _ _ (and_from _ _ (and_from _ _ (and_from _ _ (and_from _ _ (ap is_empty gone) own) (and_from _ _ (and_from _ _ l.held l.only) l.barred)) (marked-as board c last m b k.answers l.left)) legal) here) l.sane

fits-place : (place : Option Man) → is_a King place ≡ false → Fits (kind_of place) false
unfolding Fits
fits-place None h = tt
fits-place (Some m) h = h

fits-marked : (board : Places) (m : Move) (b : Bool) → is_a King (at board m.to) ≡ false → Fits (cond b (Some Pawn) (kind_of (at board m.to))) b
unfolding Fits
fits-marked board m true h = refl
fits-marked board m false h = fits-place (at board m.to) h

candidate-as : (board : Places) (c : Colour) (rights : Castle → Bool) (last : Option Move) (m : Move) (q : Asked) (b : Bool) → Last board c rights last m q → Contains candidates (marked b board m)
unfolding promotion_fits
candidate-as board c rights last m q b l =
    let f : m.from < 64 = let p = l.places.origin in omega (arith, l.size) in
    candidate-of (marked b board m) (at board m.from) (rank m.to == last_rank c) f l.legal.on_board l.legal.promotion (fits-marked board m b l.legal.no_king)

turn-before : (g : List Move) (m : Move) (q : Asked) → Reaches (g ++ m ∷ []) q → mover q ≡ turn_after g
turn-before g m q r = ap opponent (sym r.turn ∙ turn_after-more g m) ∙ opponent-twice (turn_after g)

board-before : (g : List Move) (m : Move) (q : Asked) → Reaches (g ++ m ∷ []) q → before q (unmove_after q.odds g m) ≡ board_after q.odds g
board-before g m q r =
    let l = last_of g m q r in
    let k = marks (board_after q.odds g) (turn_after g) (unmoved q.odds g) (last_move g) m l.legal in
    ap (λ (b : Places). taken_back b (unmove_after q.odds g m)) (sym l.here) ∙ back (board_after q.odds g) (turn_after g) (unmoved q.odds g) (last_move g) m (is_en_passant_after q.odds g m) k.goes k.captured l.size l.legal

kind-there : (place : Option Man) → is_some (kind_of place) ≡ not (is_empty place)
kind-there None = refl
kind-there (Some m) = refl

takes-some : (place : Option Man) (b : Bool) → b ≡ false → is_some (cond b (Some Pawn) (kind_of place)) ≡ not (is_empty place)
takes-some place b e = ap (λ (d : Bool). is_some (cond d (Some Pawn) (kind_of place))) e ∙ kind-there place

-- the clock after the game is that of the query
arrived : (g : List Move) (m : Move) (q : Asked) → Reaches (g ++ m ∷ []) q → Arrived q.board (board_after q.odds g) (unmove_after q.odds g m)
arrived g m q r =
    let l = last_of g m q r in
    let k = marks (board_after q.odds g) (turn_after g) (unmoved q.odds g) (last_move g) m l.legal in
    let came' = came (board_after q.odds g) (turn_after g) (unmoved q.odds g) (last_move g) m (is_en_passant_after q.odds g m) k.goes k.captured l.places l.legal in
    record {
      there = ap (λ (p : Places). at p m.to) (sym l.here) ∙ came'.there;
      promotes = promotes-pawn (board_after q.odds g) (turn_after g) (unmoved q.odds g) (last_move g) m l.legal;
      passes = goes-pawn (board_after q.odds g) m (is_en_passant_after q.odds g m) k.goes;
      takes = takes-some (at (board_after q.odds g) m.to) (is_en_passant_after q.odds g m);
    }

clock-after : (g : List Move) (m : Move) (q : Asked) → Reaches (g ++ m ∷ []) q → IfSome q.clock (λ n. next (clock_after q.odds g) (resets q.board (unmove_after q.odds g m)) ≡ n)
clock-after g m q r =
    subst (λ (n : ℕ). IfSome q.clock (λ k. n ≡ k)) (after-one q.odds g m (resets q.board (unmove_after q.odds g m)) (sym (same-reset q.board (board_after q.odds g) (unmove_after q.odds g m) (arrived g m q r)))) r.clock

-- the last move of a game that reaches a query is in the query's list
pub listed_after : (g : List Move) (m : Move) (q : Asked) → Reaches (g ++ m ∷ []) q → Contains (unmoves q) (unmove_after q.odds g m)
unfolding unmoves is_listed
listed_after g m q r =
    let l = last_of g m q r in
    let k = marks (board_after q.odds g) (turn_after g) (unmoved q.odds g) (last_move g) m l.legal in
    contains-filter (is_listed q) candidates (unmove_after q.odds g m) (candidate-as (board_after q.odds g) (turn_after g) (unmoved q.odds g) (last_move g) m q (is_en_passant_after q.odds g m) l)
    (and_from _ _ (fits-same q (unmove_after q.odds g m) (board_after q.odds g) (turn_after g) (board-before g m q r) (turn-before g m q r)
    (listed-as (board_after q.odds g) (turn_after g) (unmoved q.odds g) (last_move g) m q (is_en_passant_after q.odds g m) k l))
    (clock-obeyed q.clock (clock_after q.odds g) (resets q.board (unmove_after q.odds g m)) (clock-after g m q r)))

-- the double step that it answered was the last move before it
only-as : (board : Places) (c : Colour) (last : Option Move) (m : Move) (b : Bool) → pawn_captures_en_passant board c last m ≡ b → IfSome (answered (marked b board m) c) (λ d. (last ≡ Some d) × IsTrue (is_a Pawn (at board d.to)))
only-as board c last m true e = answered-last board c last m e
only-as board c last m false e = tt

held-before : (board : Places) (c : Colour) (rights : Castle → Bool) (last : Option Move) (m : Move) (q : Asked) (b : Bool) (x : Castle) → Marked board c last m b → Last board c rights last m q → castling_back q.board m ≡ Some x → rights x ≡ true
held-before board c rights last m q b x k l e =
    let back' : castling_back (play board m) m ≡ Some x = ap (λ (p : Places). castling_back p m) l.here ∙ e in
    let was : castling board m ≡ Some x = was-castling board (play board m) m x (came board c rights last m b k.goes k.captured l.places l.legal).king back' in
    (castles board c rights x (two-castles board c rights last m x was l.legal.manner)).right

-- the moves before it reach its predecessor
pub reached_after : (g : List Move) (m : Move) (q : Asked) → Reaches (g ++ m ∷ []) q → Reaches g (predecessor q (unmove_after q.odds g m))
reached_after g m q r =
    let l = last_of g m q r in
    let k = marks (board_after q.odds g) (turn_after g) (unmoved q.odds g) (last_move g) m l.legal in
    let u : Unmove = unmove_after q.odds g m in
    record {
      odds = r.odds;
      game = game_before q.odds g m r.game;
      board = sym (board-before g m q r);
      turn = sym (turn-before g m q r);
      held = λ x h. elim (held-from q.held (castling_back q.board m) x h) [
        | inl has ↦ (unmoved-before q.odds g m x (r.held x has)).0
        | inr castled ↦ held-before (board_after q.odds g) (turn_after g) (unmoved q.odds g) (last_move g) m q (is_en_passant_after q.odds g m) x k l castled
      ];
      only = subst (λ (b : Places). IfSome (answered u (mover q)) (λ d. EndsWith g d × IsTrue (is_a Pawn (at b d.to)))) (sym (board-before g m q r))
          (subst (λ (c : Colour). IfSome (answered u c) (λ d. EndsWith g d × IsTrue (is_a Pawn (at (board_after q.odds g) d.to)))) (sym (turn-before g m q r))
          (only-as (board_after q.odds g) (turn_after g) (last_move g) m (is_en_passant_after q.odds g m) refl));
      barred = tt;
      clock = clock-came q.clock (clock_after q.odds g) (resets q.board u) (clock-after g m q r);
    }
