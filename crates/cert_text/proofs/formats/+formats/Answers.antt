use Rattle.std.proofs.Common.{ℕ, suc, sym, ◌∙◌, ap, refl, arith, add-one}
use Rattle.cert_text.specs.Tree.{Tree}
use Rattle.cert_text.specs.Seen.{tree_of}
use Rattle.cert_text.specs.Writable.{fits}
use Rattle.cert_text.proofs.Admitted.{fit_next, unfit_label, unfit_kid, fit_end}
use Rattle.cert_text.proofs.formats.+formats.Goals as goal
use Rattle.cert_text.proofs.formats.+formats.Goals.{all_fit-in-Some+else-not-has_text+else-not-fits_node, all_fit-in_default}

pub all_fit-returns-then-not-has_text : goal.all_fit-returns-then-not-has_text
all_fit-returns-then-not-has_text t c =
    sym (sym c.loop-i.invariant ∙ unfit_label c.args.kids.now c.loop-i.i (suc c.args.depth) c.in-Some.kid.now.label _ c.in-Some.ensures.kid (sym c.has_text.ensures ∙ c.if-not-has_text.true))

pub all_fit-returns-then-not-fits_node : goal.all_fit-returns-then-not-fits_node
all_fit-returns-then-not-fits_node t c =
    let tree : Tree = tree_of c.in-Some.kid.now.node in
    let below = ap (λ (d : ℕ). fits d tree) (sym (add-one c.args.depth)) ∙ sym c.fits_node.ensures ∙ c.if-not-fits_node.true in
    sym (sym c.loop-i.invariant ∙ unfit_kid c.args.kids.now c.loop-i.i (suc c.args.depth) c.in-Some.kid.now.label tree c.in-Some.ensures.kid below)

pub all_fit-loop-i-preserved : goal.all_fit-loop-i-preserved
all_fit-loop-i-preserved t c = elim c.match-get.branch [
  | all_fit-in-Some+else-not-has_text+else-not-fits_node w ↦
      let tree : Tree = tree_of w.in-Some.kid.now.node in
      let below = ap (λ (d : ℕ). fits d tree) (sym (add-one c.args.depth)) ∙ sym w.fits_node.ensures ∙ w.if-not-fits_node.false in
      fit_next c.args.kids.now c.loop-i.i (suc c.args.depth) w.in-Some.kid.now.label tree w.in-Some.ensures.kid (sym w.has_text.ensures ∙ w.if-not-has_text.false) below ∙ c.loop-i.invariant
  | all_fit-in_default w ↦ absurd (omega (arith, w.in_default.ensures.none.0 refl, c.loop-i-test.true, c.len-i-end.ensures))
]

pub all_fit-returns : goal.all_fit-returns
all_fit-returns t c =
    sym (fit_end c.args.kids.now c.loop-i.i (suc c.args.depth) (omega (arith, c.loop-i-test.false, c.len-i-end.ensures))) ∙ c.loop-i.invariant
