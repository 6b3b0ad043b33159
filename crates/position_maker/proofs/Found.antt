-- The move that leads to a position is among its unmoves.
use Rattle.std.proofs.Common.{◌≡◌, inl, Bool, true, false, cond, ◌&&◌, ◌==◌, List, [], ◌∷◌, ◌++◌, refl, ap, sym, ◌∙◌, subst, append_assoc}
use Rattle.std.proofs.lemmas.Bool.{and_parts, both_ways}
use Rattle.std.specs.Prelude.{IsTrue, IfSome, MatchResult, Option, Some, None, Result, Ok, ◌↔◌}
use Rattle.std.specs.List.{Contains}
use Rattle.board_base.proofs.Without.{are-no-odds}
use Rattle.board_base.specs.Board.{no_odds, at, is_a}
use Rattle.board_base.specs.Attacks.{ranks_apart}
use Rattle.board_base.specs.Game.{IsGame, board_after, last_move, unmoved}
use Rattle.board_base.specs.Rights.{holds}
use Rattle.board_base.specs.declared.castles.Castle.{Castle}
use Rattle.board_base.specs.declared.castles.Castle.TheVariants.{WhiteShort, WhiteLong, BlackShort, BlackLong}
use Rattle.board_base.specs.declared.men.Kind.TheVariants.{Pawn}
use Rattle.board_base.specs.declared.moves.Move.{Move}
use Rattle.board_base.specs.declared.unmoves.Unmove.{Unmove}
use Rattle.query_base.specs.Asked.{Asked}
use Rattle.query_base.specs.Reach.{EndsWith, Reaches}
use Rattle.unmove_gen.specs.Listed.{unmoves}
use Rattle.unmove_gen.specs.Predecessor.{unmove_after}
use Rattle.unmove_gen.proofs.Taken.{listed_after}
use Rattle.position_maker.specs.Positions.{if_double, query_after, rights_after}
use Rattle.position_maker.specs.Samples.{AreMissing, IsFound}

held : (g : List Move) (x : Castle) → IsTrue (holds (rights_after g) x) → IsTrue (unmoved no_odds g x)
held g WhiteShort h = h
held g WhiteLong h = h
held g BlackShort h = h
held g BlackLong h = h

only-one : (g : List Move) (m : Move) (b : Bool) → last_move g ≡ Some m → (b ≡ true → IsTrue (is_a Pawn (at (board_after no_odds g) m.to))) → IfSome (cond b (Some m) None) (λ n. EndsWith g n × IsTrue (is_a Pawn (at (board_after no_odds g) n.to)))
only-one g m true e h = (e, h refl)
only-one g m false e h = tt

only-last : (g : List Move) (l : Option Move) → last_move g ≡ l → IfSome (if_double (board_after no_odds g) l) (λ n. EndsWith g n × IsTrue (is_a Pawn (at (board_after no_odds g) n.to)))
only-last g None e = tt
only-last g (Some m) e = only-one g m (is_a Pawn (at (board_after no_odds g) m.to) && (ranks_apart m.from m.to == 2)) e (λ h. (and_parts _ _ h).0)

-- a game reaches the query of its position
pub reaches-own : (g : List Move) → IsGame no_odds g → Reaches g (query_after g)
unfolding query_after
reaches-own g game = record {
  odds = are-no-odds;
  game = game;
  board = refl;
  turn = refl;
  held = held g;
  only = only-last g (last_move g) refl;
  barred = tt;
  clock = tt;
}

pub found : (g : List Move) (m : Move) → IsGame no_odds (g ++ m ∷ []) → IsFound g m
unfolding query_after
found g m game = listed_after g m (query_after (g ++ m ∷ [])) (reaches-own (g ++ m ∷ []) game)

front-game : (g rest : List Move) → IsGame no_odds (g ++ rest) → IsGame no_odds g
front-game g rest game before after n e = game before (after ++ rest) n (ap (λ (x : List Move). x ++ rest) e ∙ append_assoc before (n ∷ after) rest)

pub none-missing : (ms g : List Move) → IsGame no_odds (g ++ ms) → AreMissing g ms 0
none-missing [] g game = refl
none-missing (m ∷ ms) g game =
    let longer : IsGame no_odds ((g ++ m ∷ []) ++ ms) = subst (IsGame no_odds) (sym (append_assoc g (m ∷ []) ms)) game in
    inl (found g m (front-game (g ++ m ∷ []) ms longer), none-missing ms (g ++ m ∷ []) longer)

pub stepped_to : {S E : Type 0} (r : Result S E) (s : S) (P : S → Type 0) (Q : E → Type 0) → r ≡ Ok s → MatchResult r P Q → P s
stepped_to {S} {E} r s P Q e h = subst (λ (t : Result S E). MatchResult t P Q) e h

-- the test for the move that leads to a position doesn't fail
pub seen : (g : List Move) (m : Move) (q : Asked) (u : Unmove) (b : Bool) → IsGame no_odds (g ++ m ∷ []) → q ≡ query_after (g ++ m ∷ []) → u ≡ unmove_after no_odds g m → IsTrue b ↔ Contains (unmoves q) u → b ≡ false → ⊥
seen g m q u b game eq eu test lost =
    let there : Contains (unmoves q) u = subst (λ (v : Unmove). Contains (unmoves q) v) (sym eu) (subst (λ (p : Asked). Contains (unmoves p) (unmove_after no_odds g m)) (sym eq) (found g m game)) in
    both_ways b lost (test.1 there)
