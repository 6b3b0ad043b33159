-- The words of a game in algebraic notation, and what they say of moves.
use Rattle.std.specs.Prelude.{ℕ, ◌≡◌, ◌+◌, Bool, false, cond, ◌&&◌, ◌||◌, ◌==◌, List, [], ◌∷◌, ◌++◌, length, map, Option, Some, None}
use Rattle.std.specs.List.{flat_map}
use Rattle.std.specs.Option.{option_map}
use Rattle.board_base.specs.Texts.{◌>>=◌, is_digit}
use Rattle.san_text.specs.Grammar.{san_of}
use Rattle.san_text.specs.declared.grammar.San.{San}
use Rattle.san_text.specs.declared.words.Word.{Word}
use Rattle.san_text.specs.declared.words.Word.TheVariants.{Number, Move}

-- the game's result, 1-0, 0-1, 1/2-1/2 or *
abbrev pub is_result : List ℕ → Bool
is_result (a ∷ []) = a == 42
is_result (a ∷ b ∷ c ∷ []) = ((a == 49) && (b == 45) && (c == 48)) || ((a == 48) && (b == 45) && (c == 49))
is_result (a ∷ b ∷ c ∷ d ∷ e ∷ f ∷ g ∷ []) = (a == 49) && (b == 47) && (c == 50) && (d == 45) && (e == 49) && (f == 47) && (g == 50)
is_result _ = false

-- what follows the digits with which a text begins
abbrev pub after_digits : List ℕ → List ℕ
after_digits [] = []
after_digits (b ∷ rest) = cond (is_digit b) (after_digits rest) (b ∷ rest)

-- what follows one dot, if a text begins so
abbrev pub after_dot : List ℕ → Option (List ℕ)
after_dot [] = None
after_dot (a ∷ rest) = cond (a == 46) (Some rest) None

-- what follows three dots or one, if a text begins so
abbrev pub after_dots : List ℕ → Option (List ℕ)
after_dots (a ∷ b ∷ c ∷ rest) = cond ((a == 46) && (b == 46) && (c == 46)) (Some rest) (after_dot (a ∷ b ∷ c ∷ rest))
after_dots text = after_dot text

-- what follows a move's number, if a text begins with a digit, and else the text
abbrev pub rest_of : List ℕ → Option (List ℕ)
rest_of [] = None
rest_of (b ∷ rest) = cond (is_digit b) (after_dots (after_digits rest)) (Some (b ∷ rest))

-- what follows the number tells a move, or nothing
abbrev pub said_of : List ℕ → Option Word
said_of [] = Some Number
said_of (b ∷ rest) = option_map (λ said. Move said) (san_of (b ∷ rest))

-- what a word tells
abbrev pub word_of : List ℕ → Option Word
word_of word = rest_of word >>= said_of

-- the words without the game's result, where the last is one
abbrev pub without_result : List (List ℕ) → List (List ℕ)
without_result [] = []
without_result (word ∷ []) = cond (is_result word) [] (word ∷ [])
without_result (word ∷ next ∷ rest) = word ∷ without_result (next ∷ rest)

-- what a word says of a move, if anything
abbrev pub moves_said : Word → List San
moves_said Number = []
moves_said (Move said) = said ∷ []

-- each word is of the grammar, and this is what they say of moves, in order
pub record Say (words : List (List ℕ)) (said : List San) : Type 0 where
  pub told : List Word
  pub words_are : map word_of words ≡ map (λ word. Some word) told
  pub said_are : flat_map moves_said told ≡ said

-- the word with this number, counted from 1, isn't of the grammar, and those before it are
pub record FirstBad (words : List (List ℕ)) (n : ℕ) : Type 0 where
  pub before : List (List ℕ)
  pub word : List ℕ
  pub after : List (List ℕ)
  pub split : words ≡ before ++ word ∷ after
  pub number : length before + 1 ≡ n
  pub said : List San
  pub says : Say before said
  pub bad : word_of word ≡ None
