-- Inner: no public clause cites this file.
-- How many queries count as looked at.
use Rattle.std.specs.Prelude.{ℕ}
use Rattle.game_search.specs.declared.attempts.Outcome.{Outcome}
use Rattle.game_search.specs.declared.attempts.Outcome.TheVariants.{Expanded, Home, Passed}

-- one where the state was expanded or is the array's, and none if it was passed over
abbrev pub looked_at : Outcome → ℕ
looked_at Passed = 0
looked_at Expanded = 1
looked_at Home = 1
