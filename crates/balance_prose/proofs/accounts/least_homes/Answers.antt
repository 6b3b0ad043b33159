use Rattle.std.proofs.Common.{◌∙◌, arith}
use Rattle.assignment.proofs.Tables.{IsTable-higher}
use Rattle.balance_prose.proofs.accounts.least_homes.Goals as goal

pub first_pairing-requires : goal.first_pairing-requires
first_pairing-requires c = rw c.as_slice.ensures.value (IsTable-higher c.table_of.result.items 16 5000 32767 (omega arith) c.table_of.ensures.table)

pub returns : goal.returns
returns c =
    let same = c.as_slice.ensures.value ∙ c.table_of.ensures.items in
    record {
      least = (rw same at c.first_pairing.ensures.injection, rw same at c.first_pairing.ensures.cost);
      first = rw same at c.first_pairing.ensures.first;
    }
