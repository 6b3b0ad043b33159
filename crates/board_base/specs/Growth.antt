-- Inner: no public clause cites this file.
-- By how much ranks and files change at a step.
use Rattle.std.specs.Prelude.{ℕ}
use Rattle.board_base.specs.declared.lines.Change.{Change}
use Rattle.board_base.specs.declared.lines.Change.TheVariants.{Falls, Rises}

-- by how much a rank or a file rises at a step, and by how much it falls
abbrev pub rise : Change → ℕ
rise Rises = 1
rise _ = 0

abbrev pub fall : Change → ℕ
fall Falls = 1
fall _ = 0
