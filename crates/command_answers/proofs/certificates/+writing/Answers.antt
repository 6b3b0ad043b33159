use Rattle.std.proofs.Common.{◌≡◌, ◌≤◌, suc, ap, arith, rules, subst}
use Rattle.cert_text.specs.Seen.{body_tree, tree_of}
use Rattle.cert_text.specs.Sizes.{size, size_all}
use Rattle.cert_text.specs.Tree.{sketch}
use Rattle.cert_text.proofs.Forests.{kid_smaller}
use Rattle.retro_ports.proofs.Pieces.{piece_cut, piece_written}
use Rattle.command_answers.specs.Told.{HasLinesBelow}
use Rattle.command_answers.proofs.CertificateLines.{at-child, child-at, child-below, child-line, kids-end, sketch-known}
use Rattle.command_answers.proofs.certificates.+writing.Goals as goal

pub write_kids-own_line-requires : goal.write_kids-own_line-requires
write_kids-own_line-requires g t c =
    let kid = rw c.unwrap-kid.ensures at c.get.ensures.kid in
    child-line c.requires.0 _ _ (child-at _ _ _ _ _ _ c.requires.2 kid)

pub write_kids-write_below-requires : goal.write_kids-write_below-requires
write_kids-write_below-requires g t c =
    let kid = rw c.unwrap-kid.ensures at c.get.ensures.kid in
    let child = child-at _ _ _ _ _ _ c.requires.2 kid in
    let smaller : suc (size (tree_of c.unwrap-kid.result.now.node)) ≤ size_all c.args.kids.now = kid_smaller c.args.kids.now c.loop-i.i _ _ kid in
    let below : HasLinesBelow (tree_of c.unwrap-kid.result.now.node) = child-below c.requires.0 _ _ child in
    search rules

pub write_kids-returns-in_err-write_all-clause-failed : goal.write_kids-returns-in_err-write_all-clause-failed
write_kids-returns-in_err-write_all-clause-failed g t c =
    let kid = rw c.unwrap-kid.ensures at c.get.ensures.kid in
    let cut = rw (c.as_slice.ensures.value, c.own_line.ensures) at c.in_err-write_all.ensures.failed in
    piece_cut _ _ _ _ _ _ _ _ _ (at-child _ _ _ _ _ c.args.kids.now c.loop-i.i _ _ kid c.loop-i.invariant) cut

pub write_kids-returns-in_err-write_below-clause-failed : goal.write_kids-returns-in_err-write_below-clause-failed
write_kids-returns-in_err-write_below-clause-failed g t c =
    let kid = rw c.unwrap-kid.ensures at c.get.ensures.kid in
    let taken = rw (c.as_slice.ensures.value, c.own_line.ensures) at c.in_ok-write_all.ensures.ok in
    let below = piece_written _ _ _ _ _ _ _ _ _ (at-child _ _ _ _ _ c.args.kids.now c.loop-i.i _ _ kid c.loop-i.invariant) taken c.in_ok-write_all.ensures.cause.kept in
    piece_cut _ _ _ _ _ _ _ _ _ below c.in_err-write_below.ensures.failed

pub write_kids-loop-i-preserved : goal.write_kids-loop-i-preserved
write_kids-loop-i-preserved g t c =
    let kid = rw c.unwrap-kid.ensures at c.get.ensures.kid in
    let taken = rw (c.as_slice.ensures.value, c.own_line.ensures) at c.in_ok-write_all.ensures.ok in
    let below = piece_written _ _ _ _ _ _ _ _ _ (at-child _ _ _ _ _ c.args.kids.now c.loop-i.i _ _ kid c.loop-i.invariant) taken c.in_ok-write_all.ensures.cause.kept in
    piece_written _ _ _ _ _ _ _ _ _ below c.in_ok-write_below.ensures.ok c.in_ok-write_below.ensures.cause.kept

pub write_kids-returns-clause-ok : goal.write_kids-returns-clause-ok
write_kids-returns-clause-ok g t c = kids-end _ _ _ _ _ c.args.kids.now c.loop-i.i (omega (arith, c.loop-i-test.false, c.len-i-end.ensures)) c.loop-i.invariant

pub write_below-write_sketch-requires : goal.write_below-write_sketch-requires
write_below-write_sketch-requires g t c =
    let same : tree_of c.args.node.now ≡ sketch c.in-Sketch.sketch = ap body_tree c.in-Sketch.is in
    sketch-known c.in-Sketch.sketch (subst HasLinesBelow same c.requires)
