-- Phrases that several sentences have.
use Rattle.std.specs.Prelude.{ℕ, List, ◌++◌, codes}
use Rattle.board_base.specs.Play.{king_home, rook_home}
use Rattle.board_base.specs.Texts.{square_text}
use Rattle.board_base.specs.declared.castles.Castle.{Castle}

-- that the king and the rook of these squares are what they were
unfoldable pub stayed_words : ℕ → ℕ → List ℕ
stayed_words king rook =
    codes "the king of " ++ square_text king ++ codes " and the rook of " ++ square_text rook ++ codes " never moved, and the rook was never taken"

-- that the king and the rook of a castling are what they were
abbrev pub unmoved_words : Castle → List ℕ
unmoved_words x = stayed_words (king_home x) (rook_home x)
