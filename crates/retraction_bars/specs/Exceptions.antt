-- Which clauses are told by themselves, and what is said of all other ways.
use Rattle.std.specs.Prelude.{ℕ, Bool, false, ◌||◌, not, List, Option, Some, None}
use Rattle.std.specs.List.{filter, list_all}
use Rattle.board_base.specs.declared.unmoves.Unmove.{Unmove}
use Rattle.query_base.specs.Asked.{Asked}
use Rattle.unmove_gen.specs.Listed.{unmoves_to}
use Rattle.retraction_bars.specs.Bars.{bars}
use Rattle.retraction_bars.specs.Clauses.{clauses}
use Rattle.retraction_bars.specs.Pairs.{checker_from}
use Rattle.retraction_bars.specs.Scopes.{is_within}
use Rattle.retraction_bars.specs.Ways.{is_way}
use Rattle.retraction_bars.specs.declared.bars.Bar.TheVariants.{Check, Occupied}
use Rattle.retraction_bars.specs.declared.gathering.Clause.{Clause}
use Rattle.retraction_bars.specs.declared.scopes.Scope.{Scope}

-- the main reason: the first man who gives check, if anybody does, gave it already
abbrev pub main_of : Asked → Option ℕ
main_of q = checker_from q 0

-- that man, if there is one, is another and gave check already
abbrev pub bars_main : Asked → Option ℕ → Unmove → Bool
bars_main q None u = false
bars_main q (Some s) u = bars (Check s) q u

-- what is said of the rest: the origin is occupied, or that man gave check already
abbrev pub bars_rest : Asked → Option ℕ → Unmove → Bool
bars_rest q main u = bars Occupied q u || bars_main q main u

-- the way is out of the scope, or barred so
abbrev pub is_rest : Asked → Option ℕ → Scope → Unmove → Bool
is_rest q main s u = not (is_within s u) || bars_rest q main u

-- the clause belongs to the rest: each way of which it tells is barred so
abbrev pub rests : Asked → Option ℕ → Clause → Bool
rests q main c = list_all (is_rest q main c.scope) (filter (is_way q) (unmoves_to c.to))

-- those of these clauses that are told by themselves
unfoldable pub exceptions : Asked → Option ℕ → List Clause → List Clause
exceptions q main cs = filter (λ c. not (rests q main c)) cs

-- the clauses that are told by themselves
abbrev pub told_clauses : Asked → List Clause
told_clauses q = exceptions q (main_of q) (clauses q)
