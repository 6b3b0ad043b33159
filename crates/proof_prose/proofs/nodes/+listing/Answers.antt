use Rattle.std.proofs.Common.{◌++◌, ◌∙◌, ◌+◌, reverse, sym, ap, arith}
use Rattle.std.proofs.lemmas.List.{append-nil}
use Rattle.cert_text.specs.Tree.{Forest}
use Rattle.cert_text.specs.Seen.{tree_of}
use Rattle.cert_text.proofs.Forests.{kid_smaller, rest-end}
use Rattle.general_lemmas.proofs.Lasts.{pushed}
use Rattle.proof_prose.specs.Nodes.{kid_nodes}
use Rattle.proof_prose.proofs.Trees.{after_node, kid_is_unmove, kid_proves}
use Rattle.proof_prose.proofs.nodes.+listing.Goals as goal

pub push_kids-pred-next-requires : goal.push_kids-pred-next-requires
push_kids-pred-next-requires t c =
    kid_is_unmove c.args.kids.now c.loop-i.i _ _ _ _ _ c.requires.1 (rw c.unwrap-kid.ensures at c.get.ensures.kid)

pub push_kids-push_below-requires : goal.push_kids-push_below-requires
push_kids-push_below-requires t c =
    let kid = rw c.unwrap-kid.ensures at c.get.ensures.kid in
    let smaller = kid_smaller c.args.kids.now c.loop-i.i _ _ kid in
    (omega (arith, smaller, c.decreases), rw c.pred-next.ensures (kid_proves c.args.kids.now c.loop-i.i _ _ _ _ _ c.requires.1 kid))

pub push_kids-loop-i-preserved : goal.push_kids-loop-i-preserved
push_kids-loop-i-preserved t c =
    let kid = rw c.unwrap-kid.ensures at c.get.ensures.kid in
    let ancestors = pushed c.args.ancestors.now.items _ c.args.query.now c.loop-i.invariant.kept in
    let nodes = after_node c.args.prefix.now c.args.path.now c.args.query.now (reverse c.args.ancestors.now.items) c.args.kids.now c.loop-i.i (c.loop-i.i + 1) c.unwrap-kid.result.now.label (tree_of c.unwrap-kid.result.now.node) c.loop-i.out.items c.push_own.new.out.items c.push_below.new.out.items kid
    (rw (c.pred-next.ensures, c.as_slice.ensures.value, ancestors) at c.in_ok-push_own.ensures)
    (rw (c.pred-next.ensures, c.as_slice-in-loop-i.ensures.value, c.in_ok-own.ensures, c.in_ok-further.ensures, ancestors) at c.in_ok-push_below.ensures.nodes)
    ∙ c.loop-i.invariant.nodes in
    record { nodes = nodes; kept = c.in_ok-push_below.ensures.kept ∙ c.loop-i.invariant.kept }

pub push_kids-returns-clause-nodes : goal.push_kids-returns-clause-nodes
push_kids-returns-clause-nodes t c =
    let end = rest-end c.args.kids.now c.loop-i.i (omega (arith, c.loop-i-test.false, c.len-i-end.ensures)) in
    sym (append-nil c.loop-i.out.items) ∙ ap (λ (f : Forest). c.loop-i.out.items ++ kid_nodes c.args.prefix.now c.args.path.now c.args.query.now (reverse c.args.ancestors.now.items) (c.loop-i.i + 1) f) (sym end) ∙ c.loop-i.invariant.nodes
