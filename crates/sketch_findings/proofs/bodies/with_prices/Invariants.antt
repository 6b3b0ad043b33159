use Rattle.std.proofs.Common.{◌≡◌, [], take}
use Rattle.sketch_findings.proofs.bodies.with_prices.Given as goal

abbrev pub invariant-loop-line : goal.invariant-loop-line
invariant-loop-line l = l.body ≡ record { files = l.head.files; prices = take l.line-index l.prices; lines = [] }
