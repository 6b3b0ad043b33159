use Rattle.std.proofs.Common.{sym, subst}
use Rattle.cert_text.proofs.KidLines.{no_space, no_unmove, kid_is}
use Rattle.cert_text.proofs.PartTexts.{Cut}
use Rattle.cert_text.proofs.node_lines.read_kid.Goals as goal

pub returns-in_default : goal.returns-in_default
returns-in_default c =
    sym (no_space c.args.depth c.args.text.now c.split_part.result.0.now c.split_part.ensures.part.free (subst (Cut c.args.text.now c.split_part.result.0.now) c.in_default.is c.split_part.ensures.rest))

pub returns-in_default-read_unmove : goal.returns-in_default-read_unmove
returns-in_default-read_unmove c =
    sym (no_unmove c.args.depth c.args.text.now c.split_part.result.0.now c.in-Some.body.now c.split_part.ensures.part.free (subst (Cut c.args.text.now c.split_part.result.0.now) c.in-Some.is c.split_part.ensures.rest) (sym c.in_default-read_unmove.ensures))

pub returns-in-Some-read_body : goal.returns-in-Some-read_body
returns-in-Some-read_body c =
    sym (kid_is c.args.depth c.args.text.now c.split_part.result.0.now c.in-Some.body.now c.in-Some-read_unmove.unmove _ c.split_part.ensures.part.free (subst (Cut c.args.text.now c.split_part.result.0.now) c.in-Some.is c.split_part.ensures.rest) (sym c.in-Some-read_unmove.ensures) (sym c.in-Some-read_body.ensures))

pub returns-in-None : goal.returns-in-None
returns-in-None c =
    sym (kid_is c.args.depth c.args.text.now c.split_part.result.0.now c.in-Some.body.now c.in-Some-read_unmove.unmove _ c.split_part.ensures.part.free (subst (Cut c.args.text.now c.split_part.result.0.now) c.in-Some.is c.split_part.ensures.rest) (sym c.in-Some-read_unmove.ensures) (sym c.in-None.ensures))
