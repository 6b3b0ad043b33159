use Rattle.std.proofs.Common.{take}
use Rattle.std.specs.List.{All}
use Rattle.std.specs.Prelude.{◌≢◌}
use Rattle.retro_top.specs.declared.rows.Row.{Row}
use Rattle.retro_top.proofs.rows.find.Given as goal

abbrev pub invariant-loop-row : goal.invariant-loop-row
invariant-loop-row l = All (λ (row : Row). row.name.now ≢ l.name) (take l.row-index l.rows)
