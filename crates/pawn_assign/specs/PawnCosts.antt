-- How many captures a pawn needs to come from a file.
use Rattle.std.specs.Prelude.{ℕ, ◌≡◌, ◌+◌, ◌*◌, ◌<◌, Bool, true, false, cond, ◌||◌, not, nat_le, List, [], ◌∷◌, length, map, slice_index}
use Rattle.std.specs.List.{filter, range_with_len}
use Rattle.board_base.specs.Attacks.{distance}
use Rattle.board_base.specs.Board.{Places, at, is_in, is_the, file, rank}
use Rattle.board_base.specs.Legal.{pawn_rank}
use Rattle.board_base.specs.declared.men.Colour.{Colour}
use Rattle.board_base.specs.declared.men.Colour.TheVariants.{White, Black}
use Rattle.board_base.specs.declared.men.Kind.TheVariants.{Pawn}

-- Article 2.3: the square on which the pawn of this colour begins that stands on this file, from 0 for a to 7 for h
abbrev pub pawn_home : Colour → ℕ → ℕ
pawn_home c f = 8 * pawn_rank c + f

-- Article 3.7.3: each capture takes a pawn one file aside and one rank ahead. So a pawn that began on this file and stands on this
-- square, with the rank from 0 for White's first, has gone no more files aside than ranks ahead.
abbrev pub can_come : Colour → ℕ → ℕ → Bool
can_come White s f = nat_le (distance (file s) f + pawn_rank White) (rank s)
can_come Black s f = nat_le (distance (file s) f + rank s) (pawn_rank Black)

-- How many captures at least a pawn of this colour on this square has made if it began on this file: 64, which is more than there
-- can be, where it can't have begun there, also because there was no such pawn, with its home among the odds o.
unfoldable pub pawn_cost : List Bool → Colour → ℕ → ℕ → ℕ
pawn_cost o c s f = cond (is_in o (pawn_home c f) || not (can_come c s f)) 64 (distance (file s) f)

-- the squares of this colour's pawns, ascending
unfoldable pub pawn_squares : Colour → Places → List ℕ
pawn_squares c board = filter (λ s. is_the c Pawn (at board s)) (range_with_len 0 64)

-- what a pawn on this square costs from each file, from a to h
abbrev pub pawn_row : List Bool → Colour → ℕ → List ℕ
pawn_row o c s = map (pawn_cost o c s) (range_with_len 0 8)

-- the costs of this colour's pawns, a row for each in ascending order of their squares
abbrev pub pawn_costs : List Bool → Colour → Places → List (List ℕ)
pawn_costs o c board = map (pawn_row o c) (pawn_squares c board)

-- how many files in all pawns on these squares have gone aside, each from the file on which it began
abbrev pub files_aside : List ℕ → List ℕ → ℕ
files_aside [] files = 0
files_aside (s ∷ squares) [] = 0
files_aside (s ∷ squares) (f ∷ files) = distance (file s) f + files_aside squares files

-- each pawn of this colour can have come from the file that is given for it, and began there, with its home not among the odds o
abbrev pub HaveCome : List Bool → Colour → List ℕ → List ℕ → Type 0
HaveCome o c squares files =
    (i : ℕ) → i < length squares → (can_come c (slice_index squares i) (slice_index files i) ≡ true) × (is_in o (pawn_home c (slice_index files i)) ≡ false)
