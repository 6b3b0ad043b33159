-- A game as a text: words parted by blanks.
use Rattle.std.specs.Prelude.{ℕ, ◌≡◌, ◌+◌, Bool, not, ◌||◌, ◌==◌, List, ◌∷◌, ◌++◌, length, map, filter, Some, None}
use Rattle.std.specs.List.{slice_split}
use Rattle.board_base.specs.Texts.{move_of}
use Rattle.board_base.specs.declared.moves.Move.{Move}
use Rattle.game_text.specs.declared.reading.GameFault.{GameFault}
use Rattle.game_text.specs.declared.reading.GameFault.TheVariants.{BadText, Memory}

-- a space, a line feed or a carriage return
abbrev pub is_blank : ℕ → Bool
is_blank b = (b == 32) || (b == 10) || (b == 13)

-- what stands between the blanks, where that isn't empty
abbrev pub words : List ℕ → List (List ℕ)
words text = filter (λ piece. not (length piece == 0)) (slice_split is_blank text)

-- the texts are those of the moves, in order
abbrev pub AreTextsOf : List (List ℕ) → List Move → Type 0
AreTextsOf texts moves = map move_of texts ≡ map (λ m. Some m) moves

-- the text with this number, counted from 1, is no move's, and those before it are moves'
pub record FirstBad (texts : List (List ℕ)) (n : ℕ) : Type 0 where
  pub before : List (List ℕ)
  pub text : List ℕ
  pub after : List (List ℕ)
  pub split : texts ≡ before ++ text ∷ after
  pub number : length before + 1 ≡ n
  pub moves : (g : List Move) × AreTextsOf before g
  pub bad : move_of text ≡ None

-- what a fault says of the text
abbrev pub IsFaultOf : GameFault → List ℕ → Type 0
IsFaultOf (BadText n) text = FirstBad (words text) n
IsFaultOf Memory text = Unit {0}
