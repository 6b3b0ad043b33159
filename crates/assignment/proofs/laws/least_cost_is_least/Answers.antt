use Rattle.std.specs.List.{range_with_len}
use Rattle.std.proofs.Common.{length}
use Rattle.assignment.proofs.Injections.{IsInjection-range, injections-complete, injections-sound, least_cost-is, least_cost-le}
use Rattle.assignment.proofs.laws.least_cost_is_least.Goals as goal

pub returns : goal.returns
returns c = record {
  listed = λ width rows columns. (injections-sound width rows columns, injections-complete width rows columns);
  attained = λ width table few. least_cost-is width table (range_with_len 0 (length table)) (IsInjection-range width (length table) few);
  below = least_cost-le;
}
