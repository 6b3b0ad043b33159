use Rattle.std.proofs.Common.{◌≡◌}
use Rattle.std.specs.List.{flat_map, range_with_len}
use Rattle.balance_prose.specs.Pricing.{file_if}
use Rattle.balance_prose.proofs.pricing.files_of.Given as goal

abbrev pub invariant-loop-file : goal.invariant-loop-file
invariant-loop-file l = l.list.items ≡ flat_map (file_if l.prices l.shade l.price) (range_with_len 0 l.file)
