use Rattle.std.proofs.Common.{sym, subst, ◌∙◌}
use Rattle.cert_text.proofs.PartTexts.{Cut}
use Rattle.cert_text.proofs.RuleTexts.{caps_is, caps_short, caps_side}
use Rattle.cert_text.proofs.node_lines.read_caps.Goals as goal

pub returns-in_default : goal.returns-in_default
returns-in_default c = sym (caps_short c.args.text.now c.split_part.result.0.now c.split_part.ensures.part.free (subst (Cut c.args.text.now c.split_part.result.0.now) c.in_default.is c.split_part.ensures.rest))

pub returns-in-Some-read_side : goal.returns-in-Some-read_side
returns-in-Some-read_side c = c.read_set_and_potentials.ensures ∙ sym (caps_is c.args.text.now c.split_part.result.0.now c.in-Some.rest.now c.in-Some-read_side.side c.split_part.ensures.part.free (subst (Cut c.args.text.now c.split_part.result.0.now) c.in-Some.is c.split_part.ensures.rest) (sym c.in-Some-read_side.ensures))

pub returns-in-None : goal.returns-in-None
returns-in-None c = sym (caps_side c.args.text.now c.split_part.result.0.now c.in-Some.rest.now c.split_part.ensures.part.free (subst (Cut c.args.text.now c.split_part.result.0.now) c.in-Some.is c.split_part.ensures.rest) (sym c.in-None.ensures))
