-- What the two conventions say of a right.
use Rattle.std.specs.Prelude.{ℕ, Bool, cond, List, [], ◌∷◌, ◌++◌, codes, IsSome}
use Rattle.std.specs.Fmt.{decimal}
use Rattle.board_base.specs.Texts.{move_text}
use Rattle.codex_verdict.specs.declared.kinds.Right.{Right}
use Rattle.codex_verdict.specs.declared.kinds.Right.TheVariants.{Castling, EnPassant}
use Rattle.fen_text.specs.Fen.{castle_letter}

-- the name of a right: a letter for a castling, the move for a capture en passant
abbrev pub right_text : Right → List ℕ
right_text (Castling x) = castle_letter x ∷ []
right_text (EnPassant m) = move_text m

-- Castling is deemed permitted unless the right is proved to be lost, and a capture en passant only if it is proved to be legal.
abbrev pub proved_words : Right → List ℕ
proved_words (Castling x) = codes " not permitted"
proved_words (EnPassant m) = codes " permitted"

-- what is said where nothing was proved, before the depth to which a proof was sought
abbrev pub open_words : Right → List ℕ
open_words (Castling x) = codes " undisproved to "
open_words (EnPassant m) = codes " unproved to "

-- what is said of a right: that its claim is proved, or to which depth it is open
abbrev pub verdict : Right → Bool → ℕ → List ℕ
verdict right refuted depth = cond refuted (proved_words right) (open_words right ++ decimal depth)

-- the line of a right, with its end
abbrev pub verdict_text : Right → Bool → ℕ → List ℕ
verdict_text right refuted depth = right_text right ++ verdict right refuted depth ++ 10 ∷ []

-- the right is a capture that promotes its pawn, which no capture en passant does
abbrev pub Promotes : Right → Type 0
Promotes (Castling x) = ⊥
Promotes (EnPassant m) = IsSome m.promo
