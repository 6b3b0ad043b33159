use Rattle.std.proofs.Common.{◌∙◌, arith}
use Rattle.cert_text.proofs.Forests.{kid_smaller}
use Rattle.cert_text.proofs.UnitsLeft.{kid_left, kid_over, kids_end}
use Rattle.cert_text.proofs.formats.+units.Goals as goal

pub kids_left-units_left-requires : goal.kids_left-units_left-requires
kids_left-units_left-requires t c =
    let kid = rw c.unwrap-kid.ensures at c.get.ensures.kid in
    let smaller = kid_smaller c.args.kids.now c.loop-i.i _ _ kid in
    omega (arith, smaller, c.decreases)

pub kids_left-loop-i-preserved : goal.kids_left-loop-i-preserved
kids_left-loop-i-preserved t c =
    let kid = rw c.unwrap-kid.ensures at c.get.ensures.kid in
    kid_left c.args.kids.now c.loop-i.i _ _ c.loop-i.rest c.in-Some.more kid c.in-Some.ensures ∙ c.loop-i.invariant

pub kids_left-returns-in_default : goal.kids_left-returns-in_default
kids_left-returns-in_default t c =
    let kid = rw c.unwrap-kid.ensures at c.get.ensures.kid in
    kid_over c.args.kids.now c.loop-i.i _ _ c.loop-i.rest kid c.in_default.ensures ∙ c.loop-i.invariant

pub kids_left-returns : goal.kids_left-returns
kids_left-returns t c =
    kids_end c.args.kids.now c.loop-i.i c.loop-i.rest (omega (arith, c.loop-i-test.false, c.len-i-end.ensures)) ∙ c.loop-i.invariant
