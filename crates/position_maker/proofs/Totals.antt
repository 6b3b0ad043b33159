-- What holds of all games that are made.
use Rattle.std.proofs.Common.{ℕ, zero, suc, List, [], ◌∷◌, length, refl, arith}
use Rattle.std.specs.Fn.{iterate}
use Rattle.std.specs.List.{All}
use Rattle.board_base.specs.Board.{no_odds}
use Rattle.board_base.specs.Game.{IsGame}
use Rattle.position_maker.specs.Draws.{games_of, goes_on, next}
use Rattle.position_maker.specs.Samples.{AreMissingInAll}
use Rattle.position_maker.proofs.DrawnGames.{one-game}
use Rattle.position_maker.proofs.Found.{none-missing}

all-none : {A : Type 0} (P : A → Type 0) → All P []
all-none {A} P k d inside = absurd (omega arith)

all-first : {A : Type 0} (P : A → Type 0) (x : A) (xs : List A) → P x → All P xs → All P (x ∷ xs)
all-first {A} P x xs here rest zero d inside = here
all-first {A} P x xs here rest (suc k) d inside = rest k d (omega arith)

pub all-games : (plies n x : ℕ) → All (IsGame no_odds) (games_of plies n x)
all-games plies zero x = all-none (IsGame no_odds)
all-games plies (suc n) x = all-first (IsGame no_odds) (goes_on plies x []) (games_of plies n (iterate next (length (goes_on plies x [])) x)) (one-game plies x) (all-games plies n (iterate next (length (goes_on plies x [])) x))

pub none-in-all : (plies n x : ℕ) → AreMissingInAll (games_of plies n x) 0
none-in-all plies zero x = refl
none-in-all plies (suc n) x = (0, 0, none-missing (goes_on plies x []) [] (one-game plies x), none-in-all plies n (iterate next (length (goes_on plies x [])) x), refl)
