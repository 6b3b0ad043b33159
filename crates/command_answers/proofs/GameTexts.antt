-- The moves of a game have texts.
use Rattle.std.proofs.Common.{◌≡◌, Bool, true, List, [], ◌∷◌, ◌++◌, sym, subst, refl}
use Rattle.std.specs.Prelude.{IsTrue, Option, None, Some, not, ◌&&◌}
use Rattle.std.specs.List.{All}
use Rattle.std.proofs.lemmas.Bool.{and_parts}
use Rattle.std.proofs.lemmas.List.{append_assoc}
use Rattle.std.proofs.lemmas.List.Elements.{All-cons, All-nil}
use Rattle.board_base.specs.Board.{Places, at, is_a}
use Rattle.board_base.specs.Game.{IsGame, board_after, last_move, turn_after, unmoved}
use Rattle.board_base.specs.Legal.{is_officer, last_rank, promotion_fits}
use Rattle.board_base.specs.Texts.{can_promote}
use Rattle.board_base.specs.declared.men.Colour.{Colour}
use Rattle.board_base.specs.declared.men.Kind.{Kind}
use Rattle.board_base.specs.declared.men.Kind.TheVariants.{Pawn, Knight, Bishop, Rook, Queen, King}
use Rattle.board_base.specs.declared.moves.Move.{Move}
use Rattle.play_rules.proofs.Legality.{legality}
use Rattle.query_base.specs.Asked.{Asked}
use Rattle.query_base.specs.Reach.{Contradicts}
use Rattle.query_base.specs.Targets.{target}
use Rattle.query_base.specs.declared.claims.Claim.{Claim}
use Rattle.cert_checker.proofs.Contradicted.{contradiction-reaches}
use Rattle.position_report.specs.Answers.{IfCountered}
use Rattle.position_report.specs.Found.{Found}
use Rattle.command_answers.proofs.Finding.{if_countered}

officer-promotes : (k : Kind) → is_officer k ≡ true → can_promote (Some k) ≡ true
officer-promotes Pawn h = cc
officer-promotes King h = cc
officer-promotes Knight h = refl
officer-promotes Bishop h = refl
officer-promotes Rook h = refl
officer-promotes Queen h = refl

promotes : (promo : Option Kind) (reaches : Bool) → elim promo as (λ _. Bool) [ None ↦ not reaches | Some k ↦ reaches && is_officer k ] ≡ true → can_promote promo ≡ true
promotes None reaches h = refl
promotes (Some k) reaches h = officer-promotes k (and_parts reaches (is_officer k) h).1

fits-promotes : (board : Places) (c : Colour) (m : Move) → promotion_fits board c m ≡ true → can_promote m.promo ≡ true
unfolding promotion_fits
fits-promotes board c m h = promotes m.promo _ h

abbrev Promotes : Move → Type 0
Promotes m = IsTrue (can_promote m.promo)

-- each move of a game promotes to an officer, if at all
game-promotes : (o : List Bool) (before g : List Move) → IsGame o (before ++ g) → All Promotes g
game-promotes o before [] game = All-nil Promotes
game-promotes o before (m ∷ g) game =
    All-cons Promotes m g (fits-promotes _ _ m (legality _ _ _ _ m (game before g m refl)).promotion) (game-promotes o (before ++ m ∷ []) g (subst (IsGame o) (sym (append_assoc before (m ∷ []) g)) game))

-- so what contradicts a claim can be written
against-spelled : (game : List Move) (claim : Claim) (q : Asked) → Contradicts game claim q → All Promotes game
against-spelled game claim q against = game-promotes (target q claim).odds [] game (contradiction-reaches game claim q against).game

pub countered-spelled : (f : Found) (claim : Claim) (q : Asked) → IfCountered f (λ g. Contradicts g claim q) → IfCountered f (λ g. All (λ m. IsTrue (can_promote m.promo)) g)
countered-spelled f claim q h = if_countered f (λ g. Contradicts g claim q) (λ g. All (λ m. IsTrue (can_promote m.promo)) g) (λ g said. against-spelled g claim q said) h
