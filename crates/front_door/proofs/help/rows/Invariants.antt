use Rattle.std.proofs.Common.{◌≡◌, ◌∷◌, [], ◌++◌, take}
use Rattle.std.specs.List.{flat_map}
use Rattle.std.specs.Prelude.{codes, string_bytes}
use Rattle.front_door.specs.Usage.{row_of}
use Rattle.front_door.proofs.help.rows.Given as goal

abbrev pub invariant-loop-command : goal.invariant-loop-command
invariant-loop-command l = string_bytes l.text ≡ (codes "usage:" ++ 10 ∷ []) ++ flat_map row_of (take l.command-index l.commands)
