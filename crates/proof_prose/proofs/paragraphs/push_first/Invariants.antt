use Rattle.std.proofs.Common.{◌≡◌, drop}
use Rattle.proof_prose.specs.Paragraphs.{first_saying}
use Rattle.proof_prose.proofs.paragraphs.push_first.Given as goal

abbrev pub invariant-loop-k : goal.invariant-loop-k
invariant-loop-k l = record { same : l.out.items ≡ l.fn.out.items; found : first_saying l.body (drop l.k l.said) ≡ first_saying l.body l.said }
