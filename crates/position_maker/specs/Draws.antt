-- Games that are made from a number, by draws among the legal moves.
use Rattle.std.specs.Prelude.{ℕ, zero, suc, ◌+◌, ◌*◌, ◌/◌, ◌%◌, ◌^◌, List, [], ◌∷◌, ◌++◌, length, slice_get, Option, Some, None}
use Rattle.std.specs.Fn.{iterate}
use Rattle.std.specs.List.{filter}
use Rattle.board_base.specs.Board.{no_odds}
use Rattle.board_base.specs.Game.{legal_after}
use Rattle.board_base.specs.declared.moves.Move.{Move}
use Rattle.play_rules.specs.Listed.{all_moves}

-- the number that follows: a linear congruential generator of 64 bits
unfoldable pub next : ℕ → ℕ
next x = (6364136223846793005 * x + 1442695040888963407) % 2 ^ 64

-- the place that a number draws among n: its upper 31 bits tell
unfoldable pub place : ℕ → ℕ → ℕ
place x n = (x / 2 ^ 33) % n

-- the move that a number draws from a list; None from no moves
abbrev pub drawn : ℕ → List Move → Option Move
drawn x moves = slice_get moves (place x (length moves))

-- the legal moves after a game, in their order
unfoldable pub legal_moves : List Move → List Move
legal_moves g = filter (legal_after no_odds g) all_moves

-- the move that is drawn, where there is one, and those that follow it
abbrev pub followed : Option Move → (Move → List Move) → List Move
followed None rest = []
followed (Some m) rest = m ∷ rest m

-- how a game goes on from g by at most n moves, each drawn by the next number, until there is no legal one
abbrev pub goes_on : ℕ → ℕ → List Move → List Move
goes_on zero x g = []
goes_on (suc n) x g = followed (drawn (next x) (legal_moves g)) (λ m. goes_on n (next x) (g ++ m ∷ []))

-- n games of at most so many moves; each draws on from the number to which the one before it came
abbrev pub games_of : ℕ → ℕ → ℕ → List (List Move)
games_of plies zero x = []
games_of plies (suc n) x = goes_on plies x [] ∷ games_of plies n (iterate next (length (goes_on plies x [])) x)
