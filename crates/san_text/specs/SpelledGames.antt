-- Games as one text each: the spellings of their moves, with White's numbered.
use Rattle.std.specs.Prelude.{ℕ, ◌≡◌, ◌+◌, ◌/◌, Bool, false, IsTrue, List, [], ◌∷◌, ◌++◌, length}
use Rattle.std.specs.List.{fold, join_with_byte}
use Rattle.std.specs.Fmt.{decimal}
use Rattle.board_base.specs.declared.men.Colour.{Colour}
use Rattle.board_base.specs.declared.men.Colour.TheVariants.{White, Black}
use Rattle.board_base.specs.declared.moves.Move.{Move}
use Rattle.play_rules.specs.States.{Position, legal_at}
use Rattle.game_text.specs.Replay.{FirstIllegal}
use Rattle.san_text.specs.Spelling.{next, spelling}
use Rattle.san_text.specs.declared.spelling.SpellFault.{SpellFault}
use Rattle.san_text.specs.declared.spelling.SpellFault.TheVariants.{Illegal, Memory}

-- the state after these moves
abbrev pub state_after : Position → List Move → Position
state_after p moves = fold next p moves

-- Article 3.10: each move is legal in the state after those before it
abbrev pub AreLegal : Position → List Move → Type 0
AreLegal p [] = Unit {0}
AreLegal p (m ∷ moves) = IsTrue (legal_at p m) × AreLegal (next p m) moves

-- the move with this number, counted from 1, isn't legal, and those before it are
pub record FirstNotLegal (p : Position) (moves : List Move) (n : ℕ) : Type 0 where
  pub before : List Move
  pub move : Move
  pub after : List Move
  pub split : moves ≡ before ++ move ∷ after
  pub number : length before + 1 ≡ n
  pub legal : AreLegal p before
  pub illegal : legal_at (state_after p before) move ≡ false

-- a move's word, before which White's has its number and a dot as a word of its own
abbrev pub numbered : Colour → ℕ → List ℕ → List (List ℕ)
numbered White k word = (decimal k ++ 46 ∷ []) ∷ word ∷ []
numbered Black k word = word ∷ []

-- the words of these moves, of which n went before; so the next move of White is his n / 2 + 1-th
abbrev pub spelled_words : Position → ℕ → List Move → List (List ℕ)
spelled_words p n [] = []
spelled_words p n (m ∷ moves) = numbered p.turn (n / 2 + 1) (spelling p m) ++ spelled_words (next p m) (n + 1) moves

-- the one text of these moves: their words, parted by single spaces
abbrev pub game_spelling : Position → List Move → List ℕ
game_spelling p moves = join_with_byte 32 (spelled_words p 0 moves)

-- what a fault says of the moves in this state
abbrev pub IsSpellFault : SpellFault → Position → List Move → Type 0
IsSpellFault (Illegal n) p moves = FirstNotLegal p moves n
IsSpellFault Memory p moves = Unit {0}

-- what a fault says of the moves as a game from the array without the men on the squares of o
abbrev pub IsGameSpellFault : SpellFault → List Bool → List Move → Type 0
IsGameSpellFault (Illegal n) o moves = FirstIllegal o moves n
IsGameSpellFault Memory o moves = Unit {0}
