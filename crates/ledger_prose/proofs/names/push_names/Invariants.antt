use Rattle.std.proofs.Common.{◌≡◌, ◌++◌}
use Rattle.std.specs.List.{flat_map, list_any, range_with_len}
use Rattle.ledger_prose.specs.Sentences.{is_named}
use Rattle.ledger_prose.specs.Words.{name_at}
use Rattle.ledger_prose.proofs.names.push_names.Given as goal

abbrev pub invariant-loop-i : goal.invariant-loop-i
invariant-loop-i l = record {
  text : l.out.items ≡ l.fn.out.items ++ flat_map (name_at l.joint l.style l.query l.lines) (range_with_len 0 l.i);
  before : l.several ≡ list_any (is_named l.query l.lines) (range_with_len 0 l.i);
}
