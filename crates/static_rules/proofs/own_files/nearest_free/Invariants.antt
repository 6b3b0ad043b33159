use Rattle.std.proofs.Common.{◌≡◌, ◌<◌, false, slice_index_or}
use Rattle.std.specs.Prelude.{IfSome}
use Rattle.static_rules.proofs.own_files.nearest_free.Given as goal

abbrev pub invariant-loop-file : goal.invariant-loop-file
invariant-loop-file l = IfSome l.best (λ file. (file < 8) × (slice_index_or l.taken file false ≡ false))
