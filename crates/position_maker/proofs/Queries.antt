-- The query of a position, and the unmove that takes its last move back.
use Rattle.std.proofs.Common.{◌≡◌, Bool, true, cond, List, [], ◌∷◌, ◌++◌, ap, sym, ◌∙◌}
use Rattle.std.specs.Prelude.{Option, Some, None}
use Rattle.board_base.specs.Board.{Places, no_odds, at}
use Rattle.board_base.specs.Game.{board_after, last_move, legal_after, turn_after, unmoved}
use Rattle.board_base.specs.Play.{goes_en_passant}
use Rattle.board_base.specs.Rights.{Rights, holds}
use Rattle.board_base.specs.declared.castles.Castle.{Castle}
use Rattle.board_base.specs.declared.castles.Castle.TheVariants.{WhiteShort, WhiteLong, BlackShort, BlackLong}
use Rattle.board_base.specs.declared.men.Kind.{Kind}
use Rattle.board_base.specs.declared.men.Kind.TheVariants.{Pawn}
use Rattle.board_base.specs.declared.moves.Move.{Move}
use Rattle.play_rules.specs.States.{Position, StandsFor}
use Rattle.play_rules.proofs.Doubles.{last_move-more}
use Rattle.play_rules.proofs.Legality.{legality}
use Rattle.unmove_gen.specs.Predecessor.{is_en_passant_after, unmove_after}
use Rattle.unmove_gen.specs.TakenBack.{kind_of}
use Rattle.unmove_gen.proofs.Marks.{goes-same}
use Rattle.position_maker.specs.Positions.{if_double, query_after, rights_after}

rights-are : (r : Rights) (g : List Move) → ((x : Castle) → holds r x ≡ unmoved no_odds g x) → r ≡ rights_after g
rights-are r g same = λ i. record { white_short = same WhiteShort i; white_long = same WhiteLong i; black_short = same BlackShort i; black_long = same BlackLong i }

pub query-is : (p : Position) (g : List Move) (m : Move) (only : Option Move) → StandsFor p no_odds (g ++ m ∷ []) → only ≡ if_double p.board (Some m) → record { board = p.board; turn = p.turn; odds = no_odds; held = p.rights; only = only; barred = None; clock = None } ≡ query_after (g ++ m ∷ [])
unfolding query_after
query-is p g m only s e =
    let last : only ≡ if_double (board_after no_odds (g ++ m ∷ [])) (last_move (g ++ m ∷ [])) = e ∙ ap (λ (b : Places). if_double b (Some m)) s.board_is ∙ ap (if_double (board_after no_odds (g ++ m ∷ []))) (sym (last_move-more g m)) in
    let held = rights-are p.rights (g ++ m ∷ []) s.rights_are in
    λ i. record { board = s.board_is i; turn = s.turn_is i; odds = no_odds; held = held i; only = last i; barred = None; clock = None }

-- a legal move is a capture en passant where a pawn goes so
pub en_passant-is : (p : Position) (g : List Move) (m : Move) → StandsFor p no_odds g → legal_after no_odds g m ≡ true → goes_en_passant p.board m ≡ is_en_passant_after no_odds g m
en_passant-is p g m s legal =
    ap (λ (b : Places). goes_en_passant b m) s.board_is ∙ goes-same (board_after no_odds g) (turn_after g) (unmoved no_odds g) (last_move g) m (legality _ _ _ _ _ legal)

pub unmove-is : (p : Position) (g : List Move) (m : Move) (captured : Option Kind) (ep : Bool) → StandsFor p no_odds g → legal_after no_odds g m ≡ true → ep ≡ goes_en_passant p.board m → captured ≡ cond ep (Some Pawn) (kind_of (at p.board m.to)) → record { mv = m; captured = captured; ep = ep } ≡ unmove_after no_odds g m
unmove-is p g m captured ep s legal e c =
    let same : ep ≡ is_en_passant_after no_odds g m = e ∙ en_passant-is p g m s legal in
    let taken : captured ≡ cond (is_en_passant_after no_odds g m) (Some Pawn) (kind_of (at (board_after no_odds g) m.to)) = c ∙ ap (λ (b : Bool). cond b (Some Pawn) (kind_of (at p.board m.to))) same ∙ ap (λ (b : Places). cond (is_en_passant_after no_odds g m) (Some Pawn) (kind_of (at b m.to))) s.board_is in
    λ i. record { mv = m; captured = taken i; ep = same i }
