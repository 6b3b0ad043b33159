use Rattle.std.proofs.Common.{◌≡◌, ◌&&◌, ◌≤◌, ap, ◌∙◌, sym, subst, arith, nat_le}
use Rattle.std.proofs.lemmas.Bool.{and_parts}
use Rattle.std.proofs.lemmas.Grind.{common_steps}
use Rattle.std.specs.List.{All}
use Rattle.sketch_text.specs.Marks.{Marks, are_figures, is_some_figure, mark_line, mark_text}
use Rattle.sketch_text.proofs.MarkTexts.{figures_low, mark_stands}
use Rattle.sketch_text.proofs.writing.write_marks.Goals as goal

pub push_figures-requires-clause-low : goal.push_figures-requires-clause-low
push_figures-requires-clause-low c =
    let m : Marks = c.args.line.now in
    subst (All (λ i. i ≤ 32)) (sym c.figures.ensures.value) (figures_low 1 m.figures (and_parts (nat_le 1 m.by && nat_le m.by c.args.prices && is_some_figure m.figures) (are_figures 1 m.figures) c.requires.known).1)

pub returns-clause-read : goal.returns-clause-read
unfolding mark_text
returns-clause-read c =
    let text : c.push_figures.new.out.items ≡ mark_text c.args.line.now = grind (arith, common_steps) in
    ap (mark_line c.args.prices) text ∙ mark_stands c.args.prices c.args.line.now c.requires.prices c.requires.known
