use Rattle.men_ledger.proofs.Balance.{paid-in-all, earned-in-all, balanced, earns-price, earns-nothing, earns-later, taken-once, taken-gone}
use Rattle.men_fates.specs.Deeds.{strikes}
use Rattle.men_ledger.proofs.strikes.strikes_balance.Goals as goal

pub returns-clause-differ : goal.returns-clause-differ
returns-clause-differ c = taken-once

pub returns-clause-gone : goal.returns-clause-gone
returns-clause-gone c = taken-gone

pub returns-clause-paid : goal.returns-clause-paid
returns-clause-paid c = paid-in-all

pub returns-clause-earned : goal.returns-clause-earned
returns-clause-earned c = earned-in-all

pub returns-clause-balance : goal.returns-clause-balance
returns-clause-balance c = balanced

pub returns-clause-price : goal.returns-clause-price
returns-clause-price c = earns-price

pub returns-clause-nothing : goal.returns-clause-nothing
returns-clause-nothing c o g colour price h none = earns-nothing price (strikes o g colour) h none

pub returns-clause-standing : goal.returns-clause-standing
returns-clause-standing c = earns-later
