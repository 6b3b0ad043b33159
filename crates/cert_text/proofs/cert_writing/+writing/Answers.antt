use Rattle.std.proofs.Common.{◌++◌, ◌∙◌, sym, ap, arith}
use Rattle.std.specs.List.{concat}
use Rattle.std.proofs.lemmas.List.{append-nil}
use Rattle.cert_text.specs.Tree.{Forest}
use Rattle.cert_text.specs.Seen.{tree_of}
use Rattle.cert_text.specs.Written.{lines_of}
use Rattle.cert_text.proofs.Forests.{kid_smaller, rest-end}
use Rattle.cert_text.proofs.WrittenTrees.{admitted, after_kid}
use Rattle.cert_text.proofs.cert_writing.+writing.Goals as goal

pub push_kids-push_own-requires-clause-label : goal.push_kids-push_own-requires-clause-label
push_kids-push_own-requires-clause-label t c =
    (admitted c.args.kids.now c.loop-i.i c.requires.0 _ _ c.requires.1 (rw c.unwrap-kid.ensures at c.get.ensures.kid)).label_fits

pub push_kids-push_own-requires-clause-fits : goal.push_kids-push_own-requires-clause-fits
push_kids-push_own-requires-clause-fits t c =
    (c.requires.0, (admitted c.args.kids.now c.loop-i.i c.requires.0 _ _ c.requires.1 (rw c.unwrap-kid.ensures at c.get.ensures.kid)).tree_fits)

pub push_kids-push_below-requires : goal.push_kids-push_below-requires
push_kids-push_below-requires t c =
    let kid = rw c.unwrap-kid.ensures at c.get.ensures.kid in
    let smaller = kid_smaller c.args.kids.now c.loop-i.i _ _ kid in
    (omega (arith, smaller, c.decreases), (c.requires.0, (admitted c.args.kids.now c.loop-i.i c.requires.0 _ _ c.requires.1 kid).tree_fits))

pub push_kids-loop-i-preserved : goal.push_kids-loop-i-preserved
push_kids-loop-i-preserved t c =
    let kid = rw c.unwrap-kid.ensures at c.get.ensures.kid in
    after_kid c.args.kids.now c.loop-i.i c.unwrap-kid.result.now.label (tree_of c.unwrap-kid.result.now.node) c.loop-i.out.items c.push_own.new.out.items c.push_below.new.out.items kid c.in_ok-push_own.ensures c.in_ok-push_below.ensures ∙ c.loop-i.invariant

pub push_kids-returns : goal.push_kids-returns
push_kids-returns t c =
    let end = rest-end c.args.kids.now c.loop-i.i (omega (arith, c.loop-i-test.false, c.len-i-end.ensures)) in
    sym (append-nil c.loop-i.out.items) ∙ ap (λ (f : Forest). c.loop-i.out.items ++ concat (lines_of f)) (sym end) ∙ c.loop-i.invariant
