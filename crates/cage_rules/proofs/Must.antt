-- The list of the squares that must be in the set, by their tests.
use Rattle.std.proofs.Common.{◌≡◌, ℕ, ◌<◌, true, arith}
use Rattle.std.specs.List.{Contains, range_with_len}
use Rattle.board_base.specs.Board.{Places, at}
use Rattle.general_lemmas.proofs.Lists.{contains-filter, filter-contains}
use Rattle.general_lemmas.proofs.Ranges.{contains-range, range-contains}
use Rattle.cage_rules.specs.Frozen.{may_enter, must_be_in}

pub must-told : (board : Places) (s t : ℕ) → Contains (must_be_in board s) t → (t < 64) × (may_enter (at board s) s t ≡ true)
unfolding must_be_in
must-told board s t h = let here = filter-contains (may_enter (at board s) s) (range_with_len 0 64) t h in ((range-contains 0 64 t here.0).1, here.1)

pub must-tells : (board : Places) (s t : ℕ) → t < 64 → may_enter (at board s) s t ≡ true → Contains (must_be_in board s) t
unfolding must_be_in
must-tells board s t inside pass = contains-filter (may_enter (at board s) s) (range_with_len 0 64) t (contains-range 0 64 t (omega arith) inside) pass
