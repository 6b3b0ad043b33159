use Rattle.std.proofs.Common.{◌≡◌, ◌++◌, take}
use Rattle.std.specs.List.{flat_map}
use Rattle.verdict_prose.specs.Sentences.{verdict_text}
use Rattle.position_report.proofs.reporting.push_verdicts.Given as goal

abbrev pub invariant-loop-verdict : goal.invariant-loop-verdict
invariant-loop-verdict l = l.out.items ≡ l.fn.out.items ++ flat_map (verdict_text l.query) (take l.verdict-index l.verdicts)
