-- The line that says what the half-move clock is.
use Rattle.std.specs.Prelude.{ℕ, cond, nat_eq, nat_le, List, ◌++◌, drop, codes, Option, Some, None}
use Rattle.std.specs.Fmt.{decimal}
use Rattle.std.specs.List.{starts_with}
use Rattle.std.specs.Option.{option_and_then}
use Rattle.fen_text.specs.Numbers.{number}

-- the clock that a number is, if it is no more than 9999
abbrev pub clock_of : ℕ → Option ℕ
clock_of n = cond (nat_le n 9999) (Some n) None

-- the clock of a line: `clock` and a number
unfoldable pub clock_line : List ℕ → Option ℕ
clock_line text = cond (starts_with nat_eq text (codes "clock ")) (option_and_then clock_of (number (drop 6 text))) None

-- the one line of a clock
abbrev pub clock_text : ℕ → List ℕ
clock_text n = codes "clock " ++ decimal n
