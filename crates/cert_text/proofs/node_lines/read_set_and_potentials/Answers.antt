use Rattle.std.proofs.Common.{sym, subst}
use Rattle.cert_text.proofs.PartTexts.{Cut}
use Rattle.cert_text.proofs.RuleTexts.{arguments_are, arguments_set, arguments_short}
use Rattle.cert_text.proofs.node_lines.read_set_and_potentials.Goals as goal

pub returns-in_default : goal.returns-in_default
returns-in_default c = sym (arguments_short c.args.side c.args.text.now c.split_part.result.0.now c.split_part.ensures.part.free (subst (Cut c.args.text.now c.split_part.result.0.now) c.in_default.is c.split_part.ensures.rest))

pub returns-in_default-read_set : goal.returns-in_default-read_set
returns-in_default-read_set c = sym (arguments_set c.args.side c.args.text.now c.split_part.result.0.now c.in-Some.potentials.now c.split_part.ensures.part.free (subst (Cut c.args.text.now c.split_part.result.0.now) c.in-Some.is c.split_part.ensures.rest) (sym c.in_default-read_set.ensures))

pub returns-in-Some-read_potentials : goal.returns-in-Some-read_potentials
returns-in-Some-read_potentials c =
    sym (arguments_are c.args.side c.args.text.now c.split_part.result.0.now c.in-Some.potentials.now c.in-Some-read_set.set _ c.split_part.ensures.part.free (subst (Cut c.args.text.now c.split_part.result.0.now) c.in-Some.is c.split_part.ensures.rest) (sym c.in-Some-read_set.ensures) (sym c.in-Some-read_potentials.ensures))

pub returns-in-None : goal.returns-in-None
returns-in-None c = sym (arguments_are c.args.side c.args.text.now c.split_part.result.0.now c.in-Some.potentials.now c.in-Some-read_set.set _ c.split_part.ensures.part.free (subst (Cut c.args.text.now c.split_part.result.0.now) c.in-Some.is c.split_part.ensures.rest) (sym c.in-Some-read_set.ensures) (sym c.in-None.ensures))
