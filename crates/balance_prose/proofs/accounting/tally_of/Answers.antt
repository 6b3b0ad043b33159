use Rattle.balance_prose.proofs.accounting.tally_of.Goals as goal

pub count_men-of_white-requires : goal.count_men-of_white-requires
count_men-of_white-requires c = record {
  rows = rw c.as_slice.ensures.value c.table_of.ensures.table.rows;
  size = rw (c.as_slice.ensures.value, c.table_of.ensures.items) c.requires.white_least.0.size;
  within = c.requires.white_least.0.within;
}

pub count_men-of_black-requires : goal.count_men-of_black-requires
count_men-of_black-requires c = record {
  rows = rw c.as_slice-2.ensures.value c.table_of-2.ensures.table.rows;
  size = rw (c.as_slice-2.ensures.value, c.table_of-2.ensures.items) c.requires.black_least.0.size;
  within = c.requires.black_least.0.within;
}
