-- Games in algebraic notation, and the moves that they name.
use Rattle.std.specs.Prelude.{ℕ, ◌≡◌, ◌+◌, List, [], ◌∷◌, ◌++◌, length}
use Rattle.board_base.specs.declared.moves.Move.{Move}
use Rattle.play_rules.specs.States.{Position}
use Rattle.game_text.specs.Words.{words}
use Rattle.san_text.specs.Fits.{IsOnly, IsFoundFault, fits}
use Rattle.san_text.specs.Spelling.{next}
use Rattle.san_text.specs.Words.{Say, FirstBad, without_result}
use Rattle.san_text.specs.declared.grammar.San.{San}
use Rattle.san_text.specs.declared.reading.SanFault.{SanFault}
use Rattle.san_text.specs.declared.reading.SanFault.TheVariants as fault
use Rattle.san_text.specs.declared.games.SanGameFault.{SanGameFault}
use Rattle.san_text.specs.declared.games.SanGameFault.TheVariants.{BadText, NoMove, Many, Memory}

-- what is said of each ply fits that move alone, in the state after those before it, and they lead from the first state to the last
abbrev pub LeadTo : Position → List San → List Move → Position → Type 0
LeadTo p [] [] q = p ≡ q
LeadTo p [] (m ∷ moves) q = ⊥
LeadTo p (one ∷ said) [] q = ⊥
LeadTo p (one ∷ said) (m ∷ moves) q = IsOnly (fits one p) m × LeadTo (next p m) said moves q

-- these are the moves that are named, one after another, from this state on
pub record ArePlayed (p : Position) (said : List San) (moves : List Move) : Type 0 where
  pub end : Position
  pub leads : LeadTo p said moves end

-- what is said of the ply with this number, counted from 1, names no move for this cause, and those before it name one each
pub record FirstFault (cause : SanFault) (p : Position) (said : List San) (n : ℕ) : Type 0 where
  pub before : List San
  pub one : San
  pub after : List San
  pub split : said ≡ before ++ one ∷ after
  pub number : length before + 1 ≡ n
  pub moves : List Move
  pub state : Position
  pub leads : LeadTo p before moves state
  pub fault : IsFoundFault cause (fits one state)

-- the words of a game's text that tell its moves
abbrev pub game_words : List ℕ → List (List ℕ)
game_words text = without_result (words text)

-- the text tells these moves, played from this state on
pub record IsGameText (p : Position) (text : List ℕ) (moves : List Move) : Type 0 where
  pub said : List San
  pub says : Say (game_words text) said
  pub played : ArePlayed p said moves

-- all words of the text are of the grammar, and this is the first ply at which what they say names no move for this cause
pub record HasFault (cause : SanFault) (p : Position) (text : List ℕ) (n : ℕ) : Type 0 where
  pub said : List San
  pub says : Say (game_words text) said
  pub first : FirstFault cause p said n

-- what a fault says of the text
abbrev pub IsGameFault : SanGameFault → Position → List ℕ → Type 0
IsGameFault (BadText n) p text = FirstBad (game_words text) n
IsGameFault (NoMove n) p text = HasFault fault.NoMove p text n
IsGameFault (Many n) p text = HasFault fault.Many p text n
IsGameFault Memory p text = Unit {0}
