use Rattle.std.proofs.Common.{◌≡◌, ℕ, suc, ◌+◌, ◌-◌, ◌<◌, ◌≤◌, true, List, ◌++◌, length, reverse, ap, sym, ◌∙◌, subst, arith, append_assoc}
use Rattle.std.proofs.lemmas.List.{length-reverse}
use Rattle.general_lemmas.proofs.Lasts.{pushed}
use Rattle.query_base.specs.Asked.{Asked}
use Rattle.tree_browser.specs.Trees.{IsNote, IsTree, line}
use Rattle.tree_browser.specs.Pages.{expands, Writes}
use Rattle.tree_browser.proofs.Written.{deeper, inner, inner-spent, leaf, listed-in, so_more, so_spent}
use Rattle.tree_browser.proofs.trees.+writing.Goals as goal

pub write_children-write_unmove-requires-clause-promotion : goal.write_children-write_unmove-requires-clause-promotion
write_children-write_unmove-requires-clause-promotion t c = c.unmoves_have_texts.ensures.promotion c.args.query.now c.in-Some.unmove (listed-in _ _ _ _ _ _ _ _ c.loop-unmove.invariant.so c.in-Some.ensures)

pub write_children-write_unmove-requires-clause-capture : goal.write_children-write_unmove-requires-clause-capture
write_children-write_unmove-requires-clause-capture t c = c.unmoves_have_texts.ensures.capture c.args.query.now c.in-Some.unmove (listed-in _ _ _ _ _ _ _ _ c.loop-unmove.invariant.so c.in-Some.ensures)

pub write_children-pred-before-requires : goal.write_children-pred-before-requires
write_children-pred-before-requires t c = listed-in _ _ _ _ _ _ _ _ c.loop-unmove.invariant.so c.in-Some.ensures

pub write_children-loop-unmove-preserved : goal.write_children-loop-unmove-preserved
write_children-loop-unmove-preserved t c =
    let up = pushed c.args.ancestors.now.items c.loop-unmove.ancestors.items c.args.query.now c.loop-unmove.invariant.kept in
    record {
      so = so_more c.args.query.now c.pred-before.result c.args.left _ _ _ c.in-Some.unmove c.as_slice.result.now _ _ _ c.loop-unmove.invariant.so c.in-Some.ensures c.pred-before.ensures (c.as_slice.ensures.value ∙ c.write_unmove.ensures.text) (subst (λ (above : List Asked). Writes c.pred-before.result c.args.left above c.as_slice.result.now c.loop-unmove.page c.write_tree.new.page) up c.in-Ok-write_tree.ensures.written);
      kept = c.in-Ok-write_tree.ensures.kept ∙ c.loop-unmove.invariant.kept;
    }

pub write_children-returns-in-Err-write_tree-clause-spent : goal.write_children-returns-in-Err-write_tree-clause-spent
write_children-returns-in-Err-write_tree-clause-spent t c e n text trees =
    let up = pushed c.args.ancestors.now.items c.loop-unmove.ancestors.items c.args.query.now c.loop-unmove.invariant.kept in
    so_spent c.args.query.now c.pred-before.result c.args.left _ _ _ c.in-Some.unmove c.as_slice.result.now _ _ c.loop-unmove.invariant.so c.in-Some.ensures c.pred-before.ensures (c.as_slice.ensures.value ∙ c.write_unmove.ensures.text)
    (subst (λ (above : List Asked). (k : ℕ) (s : List ℕ) → IsTree c.args.left c.pred-before.result above c.as_slice.result.now k s → c.loop-unmove.page.left < k) up (c.in-Err-write_tree.ensures.spent e)) n text trees

pub write_tree-returns-in-Ok-write_children-clause-written : goal.write_tree-returns-in-Ok-write_children-clause-written
write_tree-returns-in-Ok-write_children-clause-written t c =
    let above : List Asked = reverse c.args.ancestors.now.items in
    let note = c.note_of-note.result in
    let fits : IsNote note c.args.query.now above c.args.left = subst (λ (l : List Asked). IsNote note c.args.query.now (reverse l) c.args.left) c.deref.ensures.value c.note_of-note.ensures in
    let level : c.len.result ≡ length above = c.len.ensures ∙ c.args.ancestors.now.ok.0 ∙ sym (length-reverse c.args.ancestors.now.items) in
    let head = c.in-Ok.ensures ∙ ap (λ (k : ℕ). c.args.page.now.text.items ++ line k c.args.label.now note) level in
    let high : expands note ≡ true = sym c.expands.ensures ∙ c.if-expands.true in
    let deep : 1 ≤ c.args.left = deeper note c.args.query.now above c.args.left high fits in
    let step : c.args.left ≡ suc (c.args.left - 1) = omega (arith, deep) in
    let w = c.in-Ok-write_children.ensures.written in
    let paid : c.args.page.now.left - 1 ≡ c.write_children.new.page.left + w.0 = w.3.left in (
      suc w.0,
      line (length above) c.args.label.now note ++ w.1,
      inner c.args.left (c.args.left - 1) c.args.query.now above c.args.label.now note w.0 w.1 step high fits w.2,
      record {
        text = w.3.text ∙ ap (λ (l : List ℕ). l ++ w.1) head ∙ append_assoc c.args.page.now.text.items (line (length above) c.args.label.now note) w.1;
        left = omega (arith, paid, c.if-page-eq0.false);
      },
    )

pub write_tree-returns-in-Err-write_children-clause-spent : goal.write_tree-returns-in-Err-write_children-clause-spent
write_tree-returns-in-Err-write_children-clause-spent t c e n text tree =
    let above : List Asked = reverse c.args.ancestors.now.items in
    let note = c.note_of-note.result in
    let fits : IsNote note c.args.query.now above c.args.left = subst (λ (l : List Asked). IsNote note c.args.query.now (reverse l) c.args.left) c.deref.ensures.value c.note_of-note.ensures in
    let high : expands note ≡ true = sym c.expands.ensures ∙ c.if-expands.true in
    let deep : 1 ≤ c.args.left = deeper note c.args.query.now above c.args.left high fits in
    let step : c.args.left ≡ suc (c.args.left - 1) = omega (arith, deep) in
    let low : c.args.page.now.left - 1 + 1 < n = inner-spent c.args.left (c.args.left - 1) c.args.query.now above c.args.label.now note (c.args.page.now.left - 1) step high fits (c.in-Err-write_children.ensures.spent e) n text tree in
    omega (arith, low)

pub write_tree-returns-clause-written : goal.write_tree-returns-clause-written
write_tree-returns-clause-written t c =
    let above : List Asked = reverse c.args.ancestors.now.items in
    let note = c.note_of-note.result in
    let fits : IsNote note c.args.query.now above c.args.left = subst (λ (l : List Asked). IsNote note c.args.query.now (reverse l) c.args.left) c.deref.ensures.value c.note_of-note.ensures in
    let level : c.len.result ≡ length above = c.len.ensures ∙ c.args.ancestors.now.ok.0 ∙ sym (length-reverse c.args.ancestors.now.items) in
    let head = c.in-Ok.ensures ∙ ap (λ (k : ℕ). c.args.page.now.text.items ++ line k c.args.label.now note) level in
    (1, line (length above) c.args.label.now note, leaf c.args.left c.args.query.now above c.args.label.now note (sym c.expands.ensures ∙ c.if-expands.false) fits, record { text = head; left = omega (arith, c.if-page-eq0.false) })
