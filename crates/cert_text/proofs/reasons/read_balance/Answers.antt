use Rattle.std.proofs.Common.{sym, subst}
use Rattle.cert_text.proofs.PartTexts.{Cut}
use Rattle.cert_text.proofs.ReasonTexts.{balance_is, balance_set, balance_short}
use Rattle.cert_text.proofs.reasons.read_balance.Goals as goal

pub returns-in_default : goal.returns-in_default
returns-in_default c = sym (balance_short c.args.text.now c.split_part.result.0.now c.split_part.ensures.part.free (subst (Cut c.args.text.now c.split_part.result.0.now) c.in_default.is c.split_part.ensures.rest))

pub returns-in_default-read_set : goal.returns-in_default-read_set
returns-in_default-read_set c = sym (balance_set c.args.text.now c.split_part.result.0.now c.in-Some.prices.now c.split_part.ensures.part.free (subst (Cut c.args.text.now c.split_part.result.0.now) c.in-Some.is c.split_part.ensures.rest) (sym c.in_default-read_set.ensures))

pub returns-in-Some-read_prices : goal.returns-in-Some-read_prices
returns-in-Some-read_prices c =
    sym (balance_is c.args.text.now c.split_part.result.0.now c.in-Some.prices.now c.in-Some-read_set.set _ c.split_part.ensures.part.free (subst (Cut c.args.text.now c.split_part.result.0.now) c.in-Some.is c.split_part.ensures.rest) (sym c.in-Some-read_set.ensures) (sym c.in-Some-read_prices.ensures))

pub returns-in-None : goal.returns-in-None
returns-in-None c = sym (balance_is c.args.text.now c.split_part.result.0.now c.in-Some.prices.now c.in-Some-read_set.set _ c.split_part.ensures.part.free (subst (Cut c.args.text.now c.split_part.result.0.now) c.in-Some.is c.split_part.ensures.rest) (sym c.in-Some-read_set.ensures) (sym c.in-None.ensures))
