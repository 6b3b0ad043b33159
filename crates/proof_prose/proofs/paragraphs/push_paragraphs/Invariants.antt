use Rattle.std.proofs.Common.{◌≡◌, ◌≤◌, ◌-◌, ◌++◌, length, drop}
use Rattle.proof_prose.specs.Paragraphs.{paragraphs_of, told_after, told_text}
use Rattle.proof_prose.proofs.paragraphs.push_paragraphs.Given as goal

abbrev pub invariant-loop-told : goal.invariant-loop-told
invariant-loop-told l =
    record { within : l.told ≤ length l.nodes; text : l.out.items ++ told_after l.said.items (paragraphs_of (drop l.told l.nodes)) ≡ l.fn.out.items ++ told_text l.nodes }

abbrev pub decreases-loop-told : goal.decreases-loop-told
decreases-loop-told l = length l.nodes - l.told
