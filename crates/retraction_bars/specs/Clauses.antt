-- What is told of each man: what bars which of his ways.
use Rattle.std.specs.Prelude.{ℕ, Bool, true, false, List, [], ◌∷◌, ◌++◌, Option, Some, None}
use Rattle.std.specs.List.{filter, flat_map, range_with_len}
use Rattle.board_base.specs.declared.unmoves.Unmove.{Unmove}
use Rattle.query_base.specs.Asked.{Asked}
use Rattle.unmove_gen.specs.Listed.{unmoves_to}
use Rattle.retraction_bars.specs.Grounds.{first_bar}
use Rattle.retraction_bars.specs.Scopes.{anywhere, scope_of}
use Rattle.retraction_bars.specs.Ways.{is_way}
use Rattle.retraction_bars.specs.declared.gathering.Clause.{Clause}
use Rattle.retraction_bars.specs.declared.scopes.Manner.TheVariants.{Origin, Quiet, Taking, Passing}
use Rattle.retraction_bars.specs.declared.scopes.Scope.{Scope}

-- the bar of a scope of the man on this square, if there is one
abbrev pub clause_if : ℕ → Scope → Option ℕ → List Clause
clause_if to s None = []
clause_if to s (Some n) = record { to = to; scope = s; bar = n } ∷ []

-- the same, else others
abbrev pub clause_or : ℕ → Scope → Option ℕ → List Clause → List Clause
clause_or to s None others = others
clause_or to s (Some n) others = record { to = to; scope = s; bar = n } ∷ []

-- what bars the ways from a square, each manner by itself
abbrev pub parts_from : Asked → List Unmove → ℕ → ℕ → Bool → List Clause
parts_from q ways to from promoted =
    clause_if to (scope_of Quiet from promoted) (first_bar q ways (scope_of Quiet from promoted)) ++ clause_if to (scope_of Taking from promoted) (first_bar q ways (scope_of Taking from promoted)) ++ clause_if to (scope_of Passing from promoted) (first_bar q ways (scope_of Passing from promoted))

-- what bars the ways from a square, of a man whom the move promoted or not
abbrev pub origin_clauses : Asked → List Unmove → ℕ → ℕ → Bool → List Clause
origin_clauses q ways to from promoted =
    clause_or to (scope_of Origin from promoted) (first_bar q ways (scope_of Origin from promoted)) (parts_from q ways to from promoted)

-- what bars the ways from a square
abbrev pub clauses_from : Asked → List Unmove → ℕ → ℕ → List Clause
clauses_from q ways to from = origin_clauses q ways to from false ++ origin_clauses q ways to from true

-- what bars the man's ways
unfoldable pub man_clauses : Asked → ℕ → List Unmove → List Clause
man_clauses q to ways = clause_or to anywhere (first_bar q ways anywhere) (flat_map (clauses_from q ways to) (range_with_len 0 64))

-- what bars the ways to a square
unfoldable pub clauses_to : Asked → ℕ → List Clause
clauses_to q to = man_clauses q to (filter (is_way q) (unmoves_to to))

-- what bars all ways of the query
unfoldable pub clauses : Asked → List Clause
clauses q = flat_map (clauses_to q) (range_with_len 0 64)
