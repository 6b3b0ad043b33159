-- A state that stands for a game answers as the game does.
use Rattle.std.proofs.Common.{◌≡◌, ℕ, ◌+◌, Bool, true, false, cond, ◌&&◌, ◌||◌, not, List, [], ◌∷◌, ◌++◌, refl, ap, sym, ◌∙◌}
use Rattle.std.specs.Prelude.{Option, Some, None}
use Rattle.board_base.specs.Board.{Places, opponent}
use Rattle.std.specs.List.{list_all}
use Rattle.std.proofs.lemmas.List.Folds.{list_all-append}
use Rattle.board_base.specs.Rights.{holds}
use Rattle.board_base.specs.Play.{play, castling}
use Rattle.board_base.specs.Legal.{legal_on, may_go, man_moves, pawn_steps, pawn_doubles, pawn_captures, pawn_captures_en_passant, king_castles}
use Rattle.board_base.specs.Parts.{castles_as}
use Rattle.board_base.specs.Game.{IsGame, board_after, turn_after, unmoved, last_move, legal_after, touches, lacks_home}
use Rattle.play_rules.specs.States.{Position, StandsFor, Follows, legal_at, step_over, crossed_by}
use Rattle.play_rules.specs.Clocks.{clock_after, counted, resets}
use Rattle.play_rules.proofs.Clocks.{clock-more, counted-more}
use Rattle.play_rules.proofs.Doubles.{en_passant-in-game, last_move-more, turn_after-more}
use Rattle.play_rules.proofs.Games.{board_after-more}
use Rattle.board_base.specs.declared.men.Colour.{Colour}
use Rattle.board_base.specs.declared.moves.Move.{Move}
use Rattle.board_base.specs.declared.castles.Castle.{Castle}

castles-same : (board : Places) (c : Colour) (r s : Castle → Bool) → ((x : Castle) → r x ≡ s x) → (o : Option Castle) → castles_as board c r o ≡ castles_as board c s o
castles-same board c r s same None = refl
castles-same board c r s same (Some x) = rw (same x)

-- the rights and the last move matter in two cases alone
pub go-same : (board : Places) (c : Colour) (r s : Castle → Bool) (last other : Option Move) (m : Move) → ((x : Castle) → r x ≡ s x) → pawn_captures_en_passant board c last m ≡ pawn_captures_en_passant board c other m → may_go board c r last m ≡ may_go board c s other m
unfolding may_go king_castles
go-same board c r s last other m rights passes =
    ap (λ (b : Bool). man_moves board m || pawn_steps board c m || pawn_doubles board c m || pawn_captures board c m || b || castles_as board c r (castling board m)) passes
    ∙ ap (λ (b : Bool). man_moves board m || pawn_steps board c m || pawn_doubles board c m || pawn_captures board c m || pawn_captures_en_passant board c other m || b) (castles-same board c r s rights (castling board m))

pub legal-same : (board : Places) (c : Colour) (r s : Castle → Bool) (last other : Option Move) (m : Move) → ((x : Castle) → r x ≡ s x) → pawn_captures_en_passant board c last m ≡ pawn_captures_en_passant board c other m → legal_on board c r last m ≡ legal_on board c s other m
unfolding legal_on
legal-same board c r s last other m rights passes = rw (go-same board c r s last other m rights passes)

pub legal-stands : (p : Position) (o : List Bool) (g : List Move) → IsGame o g → StandsFor p o g → (m : Move) → legal_at p m ≡ legal_after o g m
legal-stands p o g game stands m =
    ap (λ (b : Places). legal_on b p.turn (holds p.rights) (step_over p.ep p.turn) m) stands.board_is
    ∙ ap (λ (c : Colour). legal_on (board_after o g) c (holds p.rights) (step_over p.ep c) m) stands.turn_is
    ∙ ap (λ (e : Option ℕ). legal_on (board_after o g) (turn_after g) (holds p.rights) (step_over e (turn_after g)) m) stands.ep_is
    ∙ legal-same (board_after o g) (turn_after g) (holds p.rights) (unmoved o g) _ (last_move g) m stands.rights_are (en_passant-in-game o g game m)

one_more : (a l t : Bool) → ((a && l) && t) ≡ (a && (l && (t && true)))
one_more true true true = refl
one_more true true false = refl
one_more true false t = refl
one_more false l t = refl

-- the state after a legal move stands for the game with that move
pub follows-stands : (p q : Position) (o : List Bool) (g : List Move) (m : Move) → StandsFor p o g → Follows p m q → StandsFor q o (g ++ m ∷ [])
follows-stands p q o g m stands follows =
    let board : play p.board m ≡ board_after o (g ++ m ∷ []) = ap (λ (b : Places). play b m) stands.board_is ∙ sym (board_after-more o g m) in
    let turn : opponent p.turn ≡ turn_after (g ++ m ∷ []) = ap opponent stands.turn_is ∙ sym (turn_after-more g m) in
    record {
      board_is = follows.board_is ∙ board;
      turn_is = follows.turn_is ∙ turn;
      rights_are = λ x.
          follows.rights_are x ∙ ap (λ (b : Bool). b && not (touches m x)) (stands.rights_are x)
          ∙ one_more (not (lacks_home o x)) (list_all (λ n. not (touches n x)) g) (not (touches m x))
          ∙ ap (λ (b : Bool). not (lacks_home o x) && b) (sym (list_all-append (λ n. not (touches n x)) g (m ∷ [])));
      ep_is =
          follows.ep_is ∙ ap (λ (b : Places). crossed_by b (opponent p.turn) (Some m)) board ∙ ap (λ (c : Colour). crossed_by (board_after o (g ++ m ∷ [])) c (Some m)) turn
          ∙ ap (crossed_by (board_after o (g ++ m ∷ [])) (turn_after (g ++ m ∷ []))) (sym (last_move-more g m));
      clock_is =
          follows.clock_is ∙ ap (λ (b : Places). cond (resets b m) 0 (counted (p.clock + 1))) stands.board_is
          ∙ ap (λ (n : ℕ). cond (resets (board_after o g) m) 0 (counted (n + 1))) stands.clock_is
          ∙ counted-more (resets (board_after o g) m) (clock_after o g) ∙ ap counted (sym (clock-more o g m));
    }
