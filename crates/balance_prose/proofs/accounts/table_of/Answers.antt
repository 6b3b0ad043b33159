use Rattle.balance_prose.proofs.Known.{table-given}
use Rattle.balance_prose.proofs.accounts.table_of.Goals as goal

pub unwrap-requires : goal.unwrap-requires
unwrap-requires c = table-given _ _ _ c.some_table.ensures.items c.requires

pub returns : goal.returns
returns c = record {
  table = rw c.unwrap.ensures at c.some_table.ensures.table;
  items = (rw c.unwrap.ensures at c.some_table.ensures.items).1;
}
