use Rattle.std.proofs.Common.{◌≡◌, ◌∷◌, ◌++◌, ◌∙◌, ℕ, List, [], ap, drop, map, subst, sym}
use Rattle.std.proofs.lemmas.List.{drop_at, length-map}
use Rattle.sketch_body.specs.Seen.{line_of}
use Rattle.sketch_body.specs.declared.lines.SketchLine.{SketchLine}
use Rattle.sketch_prose.proofs.Leaving.{drop-lines}
use Rattle.sketch_text.specs.Trees.{Line, lines_below, of_marks}
use Rattle.figures.specs.Figures.{Sketch}
use Rattle.sketch_proof.specs.Proofs.{Setting}
use Rattle.sketch_prose.proofs.Adding.{adds-append}
use Rattle.sketch_prose.proofs.Rests.{ends-there}
use Rattle.sketch_prose.proofs.opening.push_open.Goals as goal
use Rattle.sketch_prose.specs.Bases.{setting_with}
use Rattle.sketch_prose.specs.Sentences.{unmoved}
use Rattle.sketch_prose.specs.Telling.{Adds, marks_told}
use Rattle.sketch_words.specs.Phrases.{Spot}

pub returns : goal.returns
returns c = λ ms r more e size end forced holds fit.
    let g : Setting = setting_with c.args.base.now c.args.prices.now in
    let D : Sketch = c.args.base.now.diagram in
    let S : Sketch = c.args.sketch in
    let below : map line_of (c.behind_marks.result.now) ≡ lines_below r ++ more = ap (λ (l : List SketchLine). map line_of l) (c.behind_marks.ensures ∙ ap (λ (k : ℕ). drop k c.args.lines.now) c.from-2.ensures) ∙ sym (drop-lines c.args.lines.now c.args.node.now.marks) ∙ ap (λ (l : List Line). drop c.args.node.now.marks l) e ∙ drop_at (map (λ m. of_marks m) ms) (lines_below r ++ more) c.args.node.now.marks (length-map ms (λ m. of_marks m) ∙ size) in
    let marks = c.in_ok-last.ensures ms (lines_below r ++ more) e (size ∙ sym c.from.ensures) forced in
    record {
      middle = c.push_lines.new.out.items;
      head = adds-append g D (unmoved c.args.spot.now.known S ∷ []) (marks_told g ms S) c.args.out.now.items c.push_unmoved.new.out.items c.push_lines.new.out.items (subst (λ (x : Spot). Adds g D (unmoved x.known S ∷ []) c.args.out.now.items c.push_unmoved.new.out.items) c.spot.view_is (c.in_ok-push_unmoved.ensures.told c.args.prices.now)) marks.1;
      ends = ends-there g D ms r S c.in_ok-last.last c.args.node.now.label c.args.spot.now c.args.number c.greatest_frozen-known.result c.in_ok-below.below c.in_ok-level.level c.push_lines.new.out.items c.push_end.new.out.items marks.0 c.greatest_frozen-known.ensures.value c.in_ok-below.ensures fit holds (λ h k. c.in_ok-level.ensures c.args.prices.now r more end below h k);
    }
