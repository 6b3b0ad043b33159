-- Inner: no public clause cites this file.
-- Names for tests of clashes, which computation would write out.
use Rattle.std.specs.Prelude.{ℕ, Bool}
use Rattle.std.specs.List.{list_any, range_with_len}
use Rattle.figures.specs.Clashes.{do_two, is_nowhere}
use Rattle.figures.specs.Figures.{Figure, Sketch, is_fixed_on}

unfoldable pub has_no_square : Figure → Bool
has_no_square f = is_nowhere f

-- two figures are fixed on s, and on some square
abbrev pub is_twice : Sketch → ℕ → Bool
is_twice S s = do_two (is_fixed_on s) S

unfoldable pub has_two : Sketch → Bool
has_two S = list_any (is_twice S) (range_with_len 0 64)
