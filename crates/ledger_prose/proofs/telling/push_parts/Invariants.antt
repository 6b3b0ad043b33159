use Rattle.std.proofs.Common.{◌≡◌, ◌++◌, take}
use Rattle.std.specs.List.{flat_map}
use Rattle.ledger_prose.specs.declared.parts.Part.{Part}
use Rattle.ledger_prose.specs.Sentences.{part_sentences}
use Rattle.ledger_prose.specs.Words.{spaced_words}
use Rattle.ledger_prose.proofs.telling.push_parts.Given as goal

abbrev pub invariant-loop-part : goal.invariant-loop-part
invariant-loop-part l = l.out.items ≡ l.fn.out.items ++ flat_map (λ (x : Part). spaced_words l.query (part_sentences x l.query l.lines)) (take l.part-index l.parts)
