use Rattle.std.proofs.Common.{◌∙◌, List, reverse, refl, sym, ap, subst, arith}
use Rattle.std.specs.List.{Contains}
use Rattle.std.specs.declared.cmp.Ordering.TheVariants.{Equal}
use Rattle.board_base.specs.declared.unmoves.Unmove.{Unmove}
use Rattle.cert_text.specs.Tree.{none}
use Rattle.cert_text.specs.Seen.{body_tree, tree_of}
use Rattle.cert_text.specs.declared.nodes.Body.{Body}
use Rattle.cert_text.proofs.Forests.{kid_smaller, rest-end}
use Rattle.cert_checker.specs.Walk.{fault_at, next_line, Walks}
use Rattle.cert_checker.specs.Walking.{HaveSketches, IsLabelFault, IsWalked, lines_in_all}
use Rattle.general_lemmas.proofs.Lasts.{pushed}
use Rattle.general_lemmas.proofs.Lists.{contains-first, contains-later}
use Rattle.cert_checker.proofs.Children.{rest-next}
use Rattle.cert_checker.proofs.Walks.{by_label, label_fault, at_end, fault_of, kid_walk}
use Rattle.cert_checker.proofs.walking.+walking.Goals as goal

pub check_kids-returns-in-Err-check_label-clause-walk : goal.check_kids-returns-in-Err-check_label-clause-walk
check_kids-returns-in-Err-check_label-clause-walk t c =
    let here = rest-next c.args.kids.now c.loop-i.i _ _ (rw c.unwrap-kid.ensures at c.get.ensures.kid) in
    fault_of c.in-Err-check_label.fault (IsLabelFault c.next.result c.unwrap-kid.result.now.label c.loop-i.next) _ (λ n fault is.
    c.loop-i.invariant.whole _ (label_fault c.next.result _ _ c.args.query.now c.loop-i.unmoves _ _ c.args.top c.loop-i.next _ _ _ here c.next.ensures is)) c.in-Err-check_label.ensures.fault

pub check_kids-pred-requires : goal.check_kids-pred-requires
check_kids-pred-requires t c =
    let first = rw c.in-Ok-check_label.ensures.ok.0 at c.next.ensures in
    c.loop-i.invariant.listed c.in-Ok-check_label.unmove (
    subst (λ (us : List Unmove). Contains us c.in-Ok-check_label.unmove) (sym first) (contains-first c.in-Ok-check_label.unmove c.next.new.self))

pub check_kids-check_node-requires : goal.check_kids-check_node-requires
check_kids-check_node-requires t c =
    let kid = rw c.unwrap-kid.ensures at c.get.ensures.kid in
    let smaller = kid_smaller c.args.kids.now c.loop-i.i _ _ kid in
    let next = rest-next c.args.kids.now c.loop-i.i _ _ kid in
    let here = ap lines_in_all next in
    let both = subst HaveSketches next c.loop-i.invariant.sketches in
    (omega (arith, smaller, c.decreases), (omega (arith, here, c.loop-i.invariant.place, c.requires.room), both.0))

pub check_kids-returns-in-Err-check_node-clause-walk : goal.check_kids-returns-in-Err-check_node-clause-walk
check_kids-returns-in-Err-check_node-clause-walk t c =
    let here = rest-next c.args.kids.now c.loop-i.i _ _ (rw c.unwrap-kid.ensures at c.get.ensures.kid) in
    let first = rw c.in-Ok-check_label.ensures.ok.0 at c.next.ensures in
    let ancestors = pushed c.args.ancestors.now.items _ c.args.query.now c.loop-i.invariant.kept in
    fault_of c.in-Err-check_node.fault (Walks (tree_of c.unwrap-kid.result.now.node) c.pred.result (reverse c.loop-i.ancestors.items) c.loop-i.next) _ (λ n fault walks.
    c.loop-i.invariant.whole _ (by_label _ _ c.args.query.now c.loop-i.unmoves _ (reverse c.args.ancestors.now.items) c.args.top c.loop-i.next _ _ _ _ Equal here first (sym c.in-Ok-check_label.ensures.ok.1) (
      fault_at n fault,
      kid_walk (tree_of c.unwrap-kid.result.now.node) _ c.args.query.now c.in-Ok-check_label.unmove (reverse c.args.ancestors.now.items) _ c.loop-i.next (fault_at n fault) c.pred.ensures ancestors walks,
      refl,
    ))) c.in-Err-check_node.ensures.walk

pub check_kids-loop-i-preserved : goal.check_kids-loop-i-preserved
check_kids-loop-i-preserved t c =
    let here = rest-next c.args.kids.now c.loop-i.i _ _ (rw c.unwrap-kid.ensures at c.get.ensures.kid) in
    let first = rw c.in-Ok-check_label.ensures.ok.0 at c.next.ensures in
    let counts = ap lines_in_all here in
    let ancestors = pushed c.args.ancestors.now.items _ c.args.query.now c.loop-i.invariant.kept in
    let kid = kid_walk (tree_of c.unwrap-kid.result.now.node) _ c.args.query.now c.in-Ok-check_label.unmove (reverse c.args.ancestors.now.items) _ c.loop-i.next (next_line c.in-Ok-check_node.after) c.pred.ensures ancestors c.in-Ok-check_node.ensures.walk in
    record {
      whole = λ walked rest. c.loop-i.invariant.whole walked (
          by_label _ _ c.args.query.now c.loop-i.unmoves _ (reverse c.args.ancestors.now.items) c.args.top c.loop-i.next _ _ _ _ Equal here first (sym c.in-Ok-check_label.ensures.ok.1) (next_line c.in-Ok-check_node.after, kid, rest));
      listed = λ u there.
          c.loop-i.invariant.listed u (subst (λ (us : List Unmove). Contains us u) (sym first) (contains-later c.in-Ok-check_label.unmove c.next.new.self u there));
      kept = c.in-Ok-check_node.ensures.kept ∙ c.loop-i.invariant.kept;
      place = omega (arith, counts, c.in-Ok-check_node.ensures.next, c.loop-i.invariant.place);
      sketches = (subst HaveSketches here c.loop-i.invariant.sketches).1;
    }

pub check_kids-returns-in-Some-clause-walk : goal.check_kids-returns-in-Some-clause-walk
check_kids-returns-in-Some-clause-walk t c =
    let end = rest-end c.args.kids.now c.loop-i.i (omega (arith, c.len-i-end.ensures)) in
    c.loop-i.invariant.whole _ (at_end _ none c.args.query.now c.loop-i.unmoves _ _ c.args.top c.loop-i.next _ end c.in-Some.ensures refl)

pub check_kids-returns-in-None-clause-walk : goal.check_kids-returns-in-None-clause-walk
check_kids-returns-in-None-clause-walk t c =
    let end = rest-end c.args.kids.now c.loop-i.i (omega (arith, c.len-i-end.ensures)) in
    c.loop-i.invariant.whole _ (at_end _ none c.args.query.now c.loop-i.unmoves _ _ c.args.top c.loop-i.next _ end c.in-None.ensures.0 refl)

pub check_kids-returns-in-None-clause-next : goal.check_kids-returns-in-None-clause-next
check_kids-returns-in-None-clause-next t c =
    let end = ap lines_in_all (rest-end c.args.kids.now c.loop-i.i (omega (arith, c.len-i-end.ensures))) in
    omega (arith, end, c.loop-i.invariant.place)

pub check_node-returns-in-Sketch-clause-walk : goal.check_node-returns-in-Sketch-clause-walk
check_node-returns-in-Sketch-clause-walk t c =
    subst (λ (b : Body). IsWalked c.check_sketch.result (Walks (body_tree b) c.args.query.now (reverse c.args.ancestors.now.items) c.args.line)) (sym c.in-Sketch.is) (c.check_sketch.ensures.walk (reverse c.args.ancestors.now.items))
