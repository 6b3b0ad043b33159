-- Inner: no public clause cites this file.
-- What steps of whole sets of squares compute.
use Rattle.std.specs.Prelude.{ℕ, ◌+◌, ◌-◌, ◌*◌, Bool, ◌&&◌, ◌||◌, not, ◌==◌, nat_lt, nat_le, List}
use Rattle.std.specs.List.{list_all, range_with_len}
use Rattle.board_base.specs.Board.{file, is_in, rank}
use Rattle.board_base.specs.Attacks.{files_apart, ranks_apart, one_ahead}
use Rattle.board_base.specs.declared.men.Colour.{Colour}
use Rattle.board_base.specs.declared.men.Kind.{Kind}
use Rattle.cage_rules.specs.Sets.{squares_that}
use Rattle.cage_rules.specs.Steps.{is_near, is_step}

-- the squares that are in both sets, and those that are not in the set
unfoldable pub both : List Bool → List Bool → List Bool
both a b = squares_that (λ s. is_in a s && is_in b s)

unfoldable pub outside : List Bool → List Bool
outside a = squares_that (λ s. not (is_in a s))

-- no square is in both sets
unfoldable pub are_apart : List Bool → List Bool → Bool
are_apart a b = list_all (λ s. not (is_in a s && is_in b s)) (range_with_len 0 64)

-- the squares n files to the right, n files to the left, n ranks above and n ranks below those of the set
unfoldable pub right : List Bool → ℕ → List Bool
right set n = squares_that (λ s. nat_le n (file s) && is_in set (s - n))

unfoldable pub left : List Bool → ℕ → List Bool
left set n = squares_that (λ s. nat_lt (file s + n) 8 && is_in set (s + n))

unfoldable pub up : List Bool → ℕ → List Bool
up set n = squares_that (λ s. nat_le (8 * n) s && is_in set (s - 8 * n))

unfoldable pub down : List Bool → ℕ → List Bool
down set n = squares_that (λ s. nat_lt (s + 8 * n) 64 && is_in set (s + 8 * n))

-- the squares are on one rank, n files apart; on one file, n ranks apart
abbrev pub is_across : ℕ → ℕ → ℕ → Bool
is_across n s t = (rank s == rank t) && (files_apart s t == n)

abbrev pub is_along : ℕ → ℕ → ℕ → Bool
is_along n s t = (file s == file t) && (ranks_apart s t == n)

-- a pawn of this colour on t captures on s
abbrev pub is_strike : Colour → ℕ → ℕ → Bool
is_strike c s t = one_ahead c t s && (files_apart t s == 1)

-- these squares, and those outside the frozen set to which a piece of this kind goes from them by one step
abbrev pub is_spread : Kind → List Bool → List Bool → ℕ → Bool
is_spread k frozen within s = is_in within s || is_near (is_step k) within s && not (is_in frozen s)

unfoldable pub spread : Kind → List Bool → List Bool → List Bool
spread k frozen within = squares_that (is_spread k frozen within)
