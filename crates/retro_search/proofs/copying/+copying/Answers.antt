use Rattle.std.proofs.Common.{◌∙◌, ap, sym, arith}
use Rattle.cert_text.specs.Seen.{tree_of}
use Rattle.cert_text.specs.Tree.{Forest, with_last}
use Rattle.cert_text.proofs.Forests.{kid_smaller}
use Rattle.price_sharing.proofs.FirstKids.{first_kids, first_kids-all, first_kids-more}
use Rattle.retro_search.proofs.copying.+copying.Goals as goal

pub copied_all-copied-requires : goal.copied_all-copied-requires
copied_all-copied-requires t c =
    let smaller = kid_smaller c.args.kids.now c.loop-i.i _ _ (rw c.unwrap-kid.ensures at c.get.ensures.kid) in
    (omega (arith, smaller, c.decreases), tt)

pub copied_all-loop-i-preserved : goal.copied_all-loop-i-preserved
copied_all-loop-i-preserved t c =
    let kid = rw c.unwrap-kid.ensures at c.get.ensures.kid in
    c.in_ok-push.ensures.ok ∙ ap (λ (f : Forest). with_last f c.unwrap-kid.result.now.label (tree_of c.in_ok-copied.field-0)) c.loop-i.invariant
    ∙ ap (with_last (first_kids c.args.kids.now c.loop-i.i) c.unwrap-kid.result.now.label) c.in_ok-copied.ensures
    ∙ sym (first_kids-more c.args.kids.now c.loop-i.i _ _ kid)

pub copied_all-returns : goal.copied_all-returns
copied_all-returns t c =
    c.loop-i.invariant ∙ first_kids-all c.args.kids.now c.loop-i.i (omega (arith, c.loop-i-test.false, c.len-i-end.ensures))
