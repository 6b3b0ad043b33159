-- What the clauses say.
use Rattle.std.specs.Prelude.{◌≡◌, ◌⊎◌, [], IsTrue, Some}
use Rattle.std.specs.List.{Contains}
use Rattle.board_base.specs.declared.unmoves.Unmove.{Unmove}
use Rattle.query_base.specs.Asked.{Asked}
use Rattle.unmove_gen.specs.Listed.{candidates, mover, unmoves}
use Rattle.retraction_bars.specs.Bars.{bars, gives_check}
use Rattle.retraction_bars.specs.Clauses.{clauses}
use Rattle.retraction_bars.specs.Exceptions.{bars_rest, main_of, told_clauses}
use Rattle.retraction_bars.specs.Lines.{has_rest}
use Rattle.retraction_bars.specs.Numbers.{bar_at}
use Rattle.retraction_bars.specs.Pairs.{bars_twice, pair_of}
use Rattle.retraction_bars.specs.Scopes.{is_within}
use Rattle.retraction_bars.specs.Ways.{is_way}
use Rattle.retraction_bars.specs.declared.gathering.Clause.{Clause}
use Rattle.retraction_bars.specs.declared.pairs.Pair.{Pair}

-- the retraction is among those of which the clause tells
abbrev pub Covers : Clause → Unmove → Type 0
Covers c u = (c.to ≡ u.mv.to) × IsTrue (is_within c.scope u)

-- what the clause tells is so: its bar bars each way of which it tells
abbrev pub Holds : Asked → Clause → Type 0
Holds q c = (u : Unmove) → Contains candidates u → IsTrue (is_way q u) → Covers c u → IsTrue (bars (bar_at c.bar) q u)

-- nothing is left untold: a clause that is told by itself tells of the way, or there is a sentence on the rest, and it is true of the way
abbrev pub IsTold : Asked → Unmove → Type 0
IsTold q u =
    ((c : Clause) × Contains (told_clauses q) c × Covers c u) ⊎ (IsTrue (has_rest (clauses q) (told_clauses q)) × IsTrue (bars_rest q (main_of q) u))

-- the two men give check, and one of four things bars each way: its origin is occupied, from there the man attacked the king, or one
-- of the two, another man, gave check already
abbrev pub AreUnexplained : Asked → Pair → Type 0
AreUnexplained q p =
    IsTrue (gives_check q.board (mover q) p.first) × IsTrue (gives_check q.board (mover q) p.second) × ((u : Unmove) → Contains candidates u → IsTrue (is_way q u) → IsTrue (bars_twice q p.first p.second u))

-- Nobody can have moved last. What is told of that is so: of the two men who give check at once, and of each clause; and no way of a man
-- is left untold.
pub record NobodyMoved (q : Asked) : Type 0 where
  pub none : unmoves q ≡ []
  pub pair : (p : Pair) → pair_of q ≡ Some p → AreUnexplained q p
  pub each : (c : Clause) → Contains (clauses q) c → Holds q c
  pub all : (u : Unmove) → Contains candidates u → IsTrue (is_way q u) → IsTold q u
