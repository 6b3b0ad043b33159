-- Legality with other rights and another last move.
use Rattle.std.proofs.Common.{◌≡◌, Bool, ◌||◌, refl, ap, ◌∙◌}
use Rattle.std.specs.Prelude.{Option, Some, None}
use Rattle.board_base.specs.Board.{Places}
use Rattle.board_base.specs.Play.{castling}
use Rattle.board_base.specs.Legal.{legal_on, may_go, man_moves, pawn_steps, pawn_doubles, pawn_captures, pawn_captures_en_passant, king_castles}
use Rattle.board_base.specs.Parts.{castles_as}
use Rattle.board_base.specs.declared.men.Colour.{Colour}
use Rattle.board_base.specs.declared.moves.Move.{Move}
use Rattle.board_base.specs.declared.castles.Castle.{Castle}

castles-exchanged : (board : Places) (c : Colour) (rights others : Castle → Bool) (o : Option Castle) → ((x : Castle) → o ≡ Some x → rights x ≡ others x) → castles_as board c rights o ≡ castles_as board c others o
castles-exchanged board c rights others None same = refl
castles-exchanged board c rights others (Some x) same = rw (same x refl)

go-exchanged : (board : Places) (c : Colour) (rights others : Castle → Bool) (last other : Option Move) (m : Move) → ((x : Castle) → castling board m ≡ Some x → rights x ≡ others x) → pawn_captures_en_passant board c last m ≡ pawn_captures_en_passant board c other m → may_go board c rights last m ≡ may_go board c others other m
unfolding may_go king_castles
go-exchanged board c rights others last other m same passes =
    ap (λ (b : Bool). man_moves board m || pawn_steps board c m || pawn_doubles board c m || pawn_captures board c m || b || castles_as board c rights (castling board m)) passes
    ∙ ap (λ (b : Bool). man_moves board m || pawn_steps board c m || pawn_doubles board c m || pawn_captures board c m || pawn_captures_en_passant board c other m || b) (castles-exchanged board c rights others (castling board m) same)

-- only the right of the castling that it is matters, and whether it is a capture en passant
pub legal-exchanged : (board : Places) (c : Colour) (rights others : Castle → Bool) (last other : Option Move) (m : Move) → ((x : Castle) → castling board m ≡ Some x → rights x ≡ others x) → pawn_captures_en_passant board c last m ≡ pawn_captures_en_passant board c other m → legal_on board c rights last m ≡ legal_on board c others other m
unfolding legal_on
legal-exchanged board c rights others last other m same passes = rw (go-exchanged board c rights others last other m same passes)
