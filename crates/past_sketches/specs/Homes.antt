-- Whether a sketch can be the array's: before the first move each figure stands on a home of his own.
use Rattle.std.specs.Prelude.{ℕ, Bool, ◌&&◌, ◌||◌, not, nat_lt, List}
use Rattle.std.specs.List.{count_by, list_all, list_any, range_with_len}
use Rattle.board_base.specs.Board.{array_of, at, is_in, is_the}
use Rattle.past_sketches.specs.Figures.{Figure, Sketch}

-- Article 2.3: the figure may stand on h, where a man of his colour and of one of his kinds begins, unless that man is left out
abbrev pub is_home : List Bool → Figure → ℕ → Bool
is_home o f h = is_in f.squares h && list_any (λ k. is_the f.colour k (at (array_of o) h)) f.kinds

-- all homes of the second figure are homes of the first
abbrev pub lives_within : List Bool → Figure → Figure → Bool
lives_within o f g = list_all (λ h. not (is_home o g h) || is_home o f h) (range_with_len 0 64)

-- the figure has at least as many homes as there are figures whose homes all lie within his, of whom he is one
abbrev pub has_homes : List Bool → Sketch → Figure → Bool
has_homes o T f = not (nat_lt (count_by (is_home o f) (range_with_len 0 64)) (count_by (lives_within o f) T))

-- each figure has; so each has a home, and there are as many homes as figures want
unfoldable pub may_be_array : List Bool → Sketch → Bool
may_be_array o T = list_all (has_homes o T) T
