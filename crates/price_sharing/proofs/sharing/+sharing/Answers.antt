use Rattle.std.proofs.Common.{sym, subst, arith}
use Rattle.query_base.specs.Asked.{Asked}
use Rattle.cert_text.specs.Seen.{tree_of}
use Rattle.cert_text.proofs.Forests.{kid_smaller}
use Rattle.price_sharing.specs.Proved.{IsProvedBelow}
use Rattle.price_sharing.proofs.Children.{kid_listed, kid_proved}
use Rattle.price_sharing.proofs.Repriced.{repriced_all, repriced_next}
use Rattle.price_sharing.proofs.sharing.+sharing.Goals as goal

pub shared_all-pred-child-requires : goal.shared_all-pred-child-requires
shared_all-pred-child-requires t c =
    kid_listed c.args.kids.now c.loop-i.i _ _ c.args.query.now c.requires (rw c.unwrap-kid.ensures at c.get.ensures.kid)

pub shared_all-shared_kid-requires : goal.shared_all-shared_kid-requires
shared_all-shared_kid-requires t c =
    let kid = rw c.unwrap-kid.ensures at c.get.ensures.kid in
    let smaller = kid_smaller c.args.kids.now c.loop-i.i _ _ kid in
    let proved = kid_proved c.args.kids.now c.loop-i.i _ _ c.args.query.now c.requires kid in
    (omega (arith, smaller, c.decreases), subst (λ (q : Asked). IsProvedBelow (tree_of c.unwrap-kid.result.now.node) q) (sym c.pred-child.ensures) proved)

pub shared_all-loop-i-preserved : goal.shared_all-loop-i-preserved
shared_all-loop-i-preserved t c =
    repriced_next c.args.kids.now c.loop-i.copies _ c.loop-i.i _ _ _ c.args.query.now _ (rw c.unwrap-kid.ensures at c.get.ensures.kid) c.pred-child.ensures c.in_ok-push.ensures.ok c.loop-i.invariant c.in_ok-shared_kid.ensures

pub shared_all-returns : goal.shared_all-returns
shared_all-returns t c =
    repriced_all c.args.kids.now c.loop-i.copies c.loop-i.i c.args.query.now (omega (arith, c.loop-i-test.false, c.len-i-end.ensures)) c.loop-i.invariant
