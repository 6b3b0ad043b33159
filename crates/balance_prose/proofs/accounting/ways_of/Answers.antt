use Rattle.std.proofs.Common.{ap, arith}
use Rattle.balance_rule.specs.Balance.{men_on}
use Rattle.query_base.specs.Asked.{Asked}
use Rattle.balance_prose.proofs.Sums.{rows-of}
use Rattle.board_base.specs.declared.men.Colour.TheVariants.{White, Black}
use Rattle.balance_prose.proofs.accounting.ways_of.Goals as goal

pub push_men-requires : goal.push_men-requires
push_men-requires c = record {
  few = rw c.as_slice.ensures.value c.table_of-of_white.ensures.table.rows;
  enough = rw (c.as_slice.ensures.value, c.table_of-of_white.ensures.items) (omega (arith, ap (λ (q : Asked). men_on White q.board) c.query.view_is, rows-of c.args.query.now c.args.prices.now c.args.set White c.requires.white_men, c.requires.white_men));
  homes = rw (c.as_slice.ensures.value, c.table_of-of_white.ensures.items) c.requires.white_least.0;
}

pub push_men-requires-2 : goal.push_men-requires-2
push_men-requires-2 c = record {
  few = rw c.as_slice-2.ensures.value c.table_of-of_black.ensures.table.rows;
  enough = rw (c.as_slice-2.ensures.value, c.table_of-of_black.ensures.items) (omega (arith, ap (λ (q : Asked). men_on Black q.board) c.query.view_is, rows-of c.args.query.now c.args.prices.now c.args.set Black c.requires.black_men, c.requires.black_men));
  homes = rw (c.as_slice-2.ensures.value, c.table_of-of_black.ensures.items) c.requires.black_least.0;
}
