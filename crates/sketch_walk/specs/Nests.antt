-- Inner: no public clause cites this file.
-- Lists in lists in lists, and what is left of them from a place on.
use Rattle.std.specs.Prelude.{ℕ, ◌+◌, ◌-◌, cond, nat_lt, List, [], ◌++◌}
use Rattle.std.specs.List.{flat_map, range_with_len}
use Rattle.sketch_list.specs.Listed.{Earlier}
use Rattle.sketch_walk.specs.declared.cursors.Cursor.{Cursor}

-- what is found of a figure, a square, an origin, a victim and a number of pawns above
abbrev pub Finds : Type 0
Finds = ℕ → ℕ → ℕ → ℕ → ℕ → List Earlier

-- of n lists, those from this one on
unfoldable pub rest : (ℕ → List Earlier) → ℕ → ℕ → List Earlier
rest g a n = flat_map g (range_with_len a (n - a))

-- all that is found of a victim, an origin, a square and a figure of k
unfoldable pub of_victim : Finds → ℕ → ℕ → ℕ → ℕ → ℕ → List Earlier
of_victim finds k i t w v = rest (finds i t w v) 0 (k + 1)

unfoldable pub of_way : Finds → ℕ → ℕ → ℕ → ℕ → List Earlier
of_way finds k i t w = rest (of_victim finds k i t w) 0 5

unfoldable pub of_square : Finds → ℕ → ℕ → ℕ → List Earlier
of_square finds k i t = rest (of_way finds k i t) 0 4

unfoldable pub of_figure : Finds → ℕ → ℕ → List Earlier
of_figure finds k i = rest (of_square finds k i) 0 64

-- what is left after the place's figure, its square, its origin, its victim and itself
unfoldable pub after_figure : Finds → ℕ → Cursor → List Earlier
after_figure finds k c = rest (of_figure finds k) (c.by + 1) k

unfoldable pub after_square : Finds → ℕ → Cursor → List Earlier
after_square finds k c = rest (of_square finds k c.by) (c.to + 1) 64 ++ after_figure finds k c

unfoldable pub after_way : Finds → ℕ → Cursor → List Earlier
after_way finds k c = rest (of_way finds k c.by c.to) (c.way + 1) 4 ++ after_square finds k c

unfoldable pub after_victim : Finds → ℕ → Cursor → List Earlier
after_victim finds k c = rest (of_victim finds k c.by c.to c.way) (c.victim + 1) 5 ++ after_way finds k c

unfoldable pub after_place : Finds → ℕ → Cursor → List Earlier
after_place finds k c = rest (finds c.by c.to c.way c.victim) (c.above + 1) (k + 1) ++ after_victim finds k c

-- what is left from the place on, if there is such a figure
unfoldable pub left : Finds → ℕ → Cursor → List Earlier
left finds k c = cond (nat_lt c.by k) (finds c.by c.to c.way c.victim c.above ++ after_place finds k c) []
