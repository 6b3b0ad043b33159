use Rattle.std.proofs.Common.{◌≡◌, ◌++◌, take}
use Rattle.std.specs.List.{flat_map}
use Rattle.line_claims.specs.declared.claims.LineClaim.TheVariants.{NotBoth}
use Rattle.claim_findings.specs.Lines.{decided_steps}
use Rattle.diagram_study.proofs.pairs.tell_pairs.Given as goal

abbrev pub invariant-loop-f : goal.invariant-loop-f
invariant-loop-f l = l.text.items ≡ l.initial.text.items ++ flat_map (λ f. decided_steps f.finding f.stuck (NotBoth f.first f.second)) (take l.f-index l.found)
