use Rattle.std.proofs.Common.{◌≡◌, ◌<◌, ap, ◌∙◌, sym, subst, arith, nat_le}
use Rattle.std.proofs.lemmas.Grind.{common_steps}
use Rattle.std.proofs.lemmas.Bool.{and_parts}
use Rattle.std.specs.List.{All}
use Rattle.sketch_text.specs.Heads.{Head, are_files, head_line, head_text}
use Rattle.sketch_text.proofs.HeadTexts.{files_low, head_stands}
use Rattle.sketch_text.proofs.writing.write_sketch_head.Goals as goal

pub push_files-requires-clause-low : goal.push_files-requires-clause-low
push_files-requires-clause-low c =
    let h : Head = c.args.head.now in
    subst (All (λ f. f < 8)) (sym c.files.ensures.value) (files_low 0 h.files (and_parts (nat_le h.prices 64) (are_files 0 h.files) c.requires.known).1)

pub returns-clause-read : goal.returns-clause-read
unfolding head_text
returns-clause-read c =
    let text : c.push_files.new.out.items ≡ head_text c.args.head.now = grind (arith, common_steps) in
    ap head_line text ∙ head_stands c.args.head.now c.requires.known
