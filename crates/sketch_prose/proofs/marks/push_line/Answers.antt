use Rattle.std.proofs.Common.{◌≡◌, ◌∙◌, ap, subst, sym}
use Rattle.sketch_body.specs.Seen.{line_of}
use Rattle.sketch_proof.specs.Nodes.{marked_with}
use Rattle.sketch_proof.specs.Proofs.{AreForced, Setting}
use Rattle.sketch_prose.proofs.marks.push_line.Goals as goal
use Rattle.sketch_prose.specs.Bases.{setting_with}
use Rattle.sketch_prose.specs.Telling.{Adds, mark_told}
use Rattle.sketch_text.specs.Marks.{Marks}
use Rattle.sketch_text.specs.Trees.{of_marks}

same-marks : (a b : Marks) → of_marks a ≡ of_marks b → a ≡ b
same-marks a b e = cc

pub returns-in_ok-more-in-Marks : goal.returns-in_ok-more-in-Marks
returns-in_ok-more-in-Marks c = λ m e forced.
    let g : Setting = setting_with c.args.base.now c.args.prices.now in
    let same : c.in-Marks.marks ≡ m = same-marks _ _ (sym (ap line_of c.in-Marks.is) ∙ e) in
    subst (λ (n : Marks). AreForced g c.args.sketch n → (c.in_ok-more-in-Marks.more ≡ marked_with n.figures c.args.sketch) × Adds g c.args.base.now.diagram (mark_told g n c.args.sketch) c.args.out.now.items c.push_marks.new.out.items) same c.in_ok-more-in-Marks.ensures forced
