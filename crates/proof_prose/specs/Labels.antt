-- A retraction in words.
use Rattle.std.specs.Prelude.{ℕ, cond, List, [], ◌∷◌, ◌++◌, codes, Option, Some, None}
use Rattle.board_base.specs.Texts.{square_text}
use Rattle.board_base.specs.declared.men.Kind.{Kind}
use Rattle.board_base.specs.declared.castles.Castle.{Castle}
use Rattle.board_base.specs.declared.moves.Move.{Move}
use Rattle.board_base.specs.declared.unmoves.Unmove.{Unmove}
use Rattle.castle_history.specs.TakenBack.{castling_back}
use Rattle.query_base.specs.Asked.{Asked}
use Rattle.proof_prose.specs.Heads.{move_words}
use Rattle.prose_words.specs.Words.{kind_word}

-- the sign between the squares of a move: a cross where it captured
abbrev pub sign_of : Option Kind → ℕ
sign_of None = 45
sign_of (Some k) = 120

-- that a man of this kind was captured
abbrev pub capturing : Kind → List ℕ
capturing k = codes ", capturing a " ++ kind_word k

-- what was captured
abbrev pub captured_words : Option Kind → List ℕ
captured_words None = []
captured_words (Some k) = capturing k

-- two squares with a sign between
abbrev pub between : Move → ℕ → List ℕ
between m sign = square_text m.from ++ sign ∷ square_text m.to

-- that a king castles
abbrev pub castles_words : Move → List ℕ
castles_words m = between m 45 ++ codes " castles"

-- a capture en passant
abbrev pub passing_words : Move → List ℕ
passing_words m = between m 120 ++ codes " en passant"

-- a move that was no capture en passant: castling, or another
abbrev pub plain_words : Option Castle → Asked → Unmove → List ℕ
plain_words None q u = move_words q.board u.mv (sign_of u.captured) ++ captured_words u.captured
plain_words (Some x) q u = castles_words u.mv

-- the retraction of this query in long notation, with what it captured
abbrev pub label_words : Asked → Unmove → List ℕ
label_words q u = cond u.ep (passing_words u.mv) (plain_words (castling_back q.board u.mv) q u)
