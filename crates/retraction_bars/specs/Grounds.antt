-- What bars all of several ways.
use Rattle.std.specs.Prelude.{ℕ, ◌-◌, Bool, cond, ◌||◌, not, List, Option, None}
use Rattle.std.specs.List.{find, list_all, list_any, range_with_len}
use Rattle.board_base.specs.declared.unmoves.Unmove.{Unmove}
use Rattle.query_base.specs.Asked.{Asked}
use Rattle.retraction_bars.specs.Bars.{bars}
use Rattle.retraction_bars.specs.Numbers.{bar_at}
use Rattle.retraction_bars.specs.Scopes.{high_of, is_within, low_of}
use Rattle.retraction_bars.specs.declared.bars.Bar.{Bar}
use Rattle.retraction_bars.specs.declared.scopes.Scope.{Scope}

-- the way is out of the scope, or barred
abbrev pub spares : Asked → Scope → Bar → Unmove → Bool
spares q s b u = not (is_within s u) || bars b q u

-- the bar with this number bars all ways of the scope
abbrev pub bars_all : Asked → List Unmove → Scope → ℕ → Bool
bars_all q ways s n = list_all (spares q s (bar_at n)) ways

-- the number of the first bar that bars all ways of the scope, if it has any
unfoldable pub first_bar : Asked → List Unmove → Scope → Option ℕ
first_bar q ways s =
    cond (list_any (is_within s) ways) (find (bars_all q ways s) (range_with_len (low_of s.manner) (high_of s.manner - low_of s.manner))) None
