use Rattle.std.proofs.Common.{inl, inr}
use Rattle.std.proofs.lemmas.Bool.{both_ways}
use Rattle.ledger_told.specs.Told.{TellsAll}
use Rattle.ledger_told.proofs.Joining.{alone}
use Rattle.ledger_told.proofs.telling.told_lines.Goals as goal

pub returns-then-is_contradictory : goal.returns-then-is_contradictory
returns-then-is_contradictory c = record {
  ledger = c.ledger_of-ledger.result;
  ledger_is = c.ledger_of-ledger.ensures;
  set = c.greatest_as_array-set.result;
  set_is = record { whole = c.is_whole.ensures; frozen = c.greatest_as_array-set.ensures.frozen; as_array = c.greatest_as_array-set.ensures.as_array; greatest = c.greatest_as_array-set.ensures.greatest };
  told = inl (c.is_contradictory.ensures.0 c.if-is_contradictory.true, c.new-lines.ensures.items);
}

pub returns : goal.returns
returns c = record {
  ledger = c.ledger_of-ledger.result;
  ledger_is = c.ledger_of-ledger.ensures;
  set = c.greatest_as_array-set.result;
  set_is = record { whole = c.is_whole.ensures; frozen = c.greatest_as_array-set.ensures.frozen; as_array = c.greatest_as_array-set.ensures.as_array; greatest = c.greatest_as_array-set.ensures.greatest };
  told = inr (λ void. both_ways _ c.if-is_contradictory.false (c.is_contradictory.ensures.1 void), alone (TellsAll c.args.query.now c.ledger_of-ledger.result c.greatest_as_array-set.result) _ _ c.new-lines.ensures.items c.in_ok-add_all.ensures);
}
