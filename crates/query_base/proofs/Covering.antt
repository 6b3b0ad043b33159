-- What reaches a query reaches each query that covers it.
use Rattle.std.proofs.Common.{◌≡◌, Bool, List, ap, sym, ◌∙◌, subst}
use Rattle.std.specs.Prelude.{Option, Some, None, IfSome, IsTrue}
use Rattle.board_base.specs.Board.{AreOdds, Places, at, is_a}
use Rattle.board_base.specs.Game.{IsGame, board_after, unmoved}
use Rattle.board_base.specs.declared.men.Kind.TheVariants.{Pawn}
use Rattle.board_base.specs.declared.moves.Move.{Move}
use Rattle.play_rules.specs.Clocks.{clock_after}
use Rattle.query_base.specs.Asked.{Asked}
use Rattle.query_base.specs.Reach.{Reaches, EndsWith}
use Rattle.query_base.specs.Targets.{Covers}

-- what holds of a demand of the second query holds of that of the first, which is the same if there is one
demand : {A : Type 0} (o p : Option A) (P : A → Type 0) → IfSome o (λ m. p ≡ Some m) → IfSome p P → IfSome o P
demand None p P same holds = tt
demand {A} (Some m) p P same holds = subst (λ (d : Option A). IfSome d P) same holds

pub reached : (a q : Asked) (g : List Move) → Covers a q → Reaches g q → Reaches g a
reached a q g covers r = record {
  odds = subst AreOdds (sym covers.odds) r.odds;
  game = subst (λ (o : List Bool). IsGame o g) (sym covers.odds) r.game;
  board = ap (λ (o : List Bool). board_after o g) covers.odds ∙ r.board ∙ sym covers.board;
  turn = r.turn ∙ sym covers.turn;
  held = λ x has. ap (λ (o : List Bool). unmoved o g x) covers.odds ∙ r.held x (covers.held x has);
  only =
      subst (λ (b : Places). IfSome a.only (λ m. EndsWith g m × IsTrue (is_a Pawn (at b m.to)))) (sym covers.board) (demand a.only q.only (λ m. EndsWith g m × IsTrue (is_a Pawn (at q.board m.to))) covers.only r.only);
  barred = demand a.barred q.barred (λ m. EndsWith g m → ⊥) covers.barred r.barred;
  clock = subst (λ (o : List Bool). IfSome a.clock (λ n. clock_after o g ≡ n)) (sym covers.odds) (demand a.clock q.clock (λ n. clock_after q.odds g ≡ n) covers.clock r.clock);
}
