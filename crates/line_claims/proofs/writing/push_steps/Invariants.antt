use Rattle.std.proofs.Common.{◌≡◌, ◌+◌, ◌*◌, ◌≤◌, ◌++◌, length, take}
use Rattle.std.specs.List.{All}
use Rattle.line_claims.specs.Lines.{steps_text}
use Rattle.line_claims.specs.Readable.{IsReadable}
use Rattle.line_claims.proofs.writing.push_steps.Given as goal

abbrev pub invariant-loop-step : goal.invariant-loop-step
invariant-loop-step l = record {
  text : l.out.items ≡ l.fn.out.items ++ steps_text (take (l.step-index + 1) l.steps);
  short : length l.out.items ≤ length l.fn.out.items + 9 * (l.step-index + 1);
  read : All IsReadable (take (l.step-index + 1) l.steps);
}
