use Rattle.std.proofs.Common.{sym, subst}
use Rattle.cert_text.proofs.PartTexts.{Cut}
use Rattle.cert_text.proofs.RuleTexts.{promo_is, promo_short, promo_side}
use Rattle.cert_text.proofs.node_lines.read_promo.Goals as goal

pub returns-in_default : goal.returns-in_default
returns-in_default c = sym (promo_short c.args.text.now c.split_part.result.0.now c.split_part.ensures.part.free (subst (Cut c.args.text.now c.split_part.result.0.now) c.in_default.is c.split_part.ensures.rest))

pub returns-in_default-read_side : goal.returns-in_default-read_side
returns-in_default-read_side c = sym (promo_side c.args.text.now c.split_part.result.0.now c.in-Some.set.now c.split_part.ensures.part.free (subst (Cut c.args.text.now c.split_part.result.0.now) c.in-Some.is c.split_part.ensures.rest) (sym c.in_default-read_side.ensures))

pub returns-in-Some-read_set : goal.returns-in-Some-read_set
returns-in-Some-read_set c = sym (promo_is c.args.text.now c.split_part.result.0.now c.in-Some.set.now c.in-Some-read_side.side _ c.split_part.ensures.part.free (subst (Cut c.args.text.now c.split_part.result.0.now) c.in-Some.is c.split_part.ensures.rest) (sym c.in-Some-read_side.ensures) (sym c.in-Some-read_set.ensures))

pub returns-in-None : goal.returns-in-None
returns-in-None c = sym (promo_is c.args.text.now c.split_part.result.0.now c.in-Some.set.now c.in-Some-read_side.side _ c.split_part.ensures.part.free (subst (Cut c.args.text.now c.split_part.result.0.now) c.in-Some.is c.split_part.ensures.rest) (sym c.in-Some-read_side.ensures) (sym c.in-None.ensures))
