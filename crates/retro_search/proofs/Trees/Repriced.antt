-- Trees that differ in lines of prices alone are as high, fill as many lines, and have the same sketches.
use Rattle.std.proofs.Common.{◌≡◌, suc, inl, inr, refl, ap, ◌∙◌, sym, subst, arith}
use Rattle.query_base.specs.Asked.{Asked}
use Rattle.unmove_gen.specs.Predecessor.{predecessor}
use Rattle.cert_text.specs.Tree.{Tree, Forest, rule, back, expand, sketch, none, more}
use Rattle.cert_text.specs.declared.reasons.Reason.{Reason}
use Rattle.cert_text.specs.declared.reasons.Reason.TheVariants.{Line, Balance}
use Rattle.price_sharing.specs.Repriced.{AreRepriced, IsBalance, IsNewLine, IsRepriced}
use Rattle.price_sharing.proofs.Repriced.{line_priced}
use Rattle.retro_search.specs.Heights.{height, height_of_all}
use Rattle.retro_search.specs.LineCounts.{lines_in, lines_in_all, lines_of_reason}
use Rattle.retro_search.specs.SketchTexts.{HasSketchTexts, HaveSketchTexts}

-- a child that is served by a line of a sibling

new_height : (t copy : Tree) (q : Asked) (siblings : Forest) → IsNewLine t copy q siblings → height copy ≡ height t
new_height t (rule line) q siblings new = sym (ap height new.priced.0)
new_height t (back k) q siblings new = absurd new
new_height t (expand kids) q siblings new = absurd new
new_height t (sketch b) q siblings new = absurd new

two_lines : (line : Reason) → IsBalance line → lines_of_reason line ≡ 2
two_lines (Line r) priced = absurd priced
two_lines (Balance set p) priced = refl

new_lines : (t copy : Tree) (q : Asked) (siblings : Forest) → IsNewLine t copy q siblings → lines_in copy ≡ lines_in t
new_lines t (rule line) q siblings new =
    two_lines line (line_priced siblings line new.line_of) ∙ sym (ap lines_in new.priced.0 ∙ two_lines new.own new.priced.1)
new_lines t (back k) q siblings new = absurd new
new_lines t (expand kids) q siblings new = absurd new
new_lines t (sketch b) q siblings new = absurd new

new_texts : (t copy : Tree) (q : Asked) (siblings : Forest) → IsNewLine t copy q siblings → HasSketchTexts copy
new_texts t (rule line) q siblings new = tt
new_texts t (back k) q siblings new = absurd new
new_texts t (expand kids) q siblings new = absurd new
new_texts t (sketch b) q siblings new = absurd new

mutual
  pub height_kept : (t copy : Tree) (q : Asked) → IsRepriced t copy q → height copy ≡ height t
  height_kept (rule r) copy q same = ap height same
  height_kept (back k) copy q same = ap height same
  height_kept (sketch b) copy q same = ap height same
  height_kept (expand kids) (rule r) q same = absurd same
  height_kept (expand kids) (back k) q same = absurd same
  height_kept (expand kids) (sketch b) q same = absurd same
  height_kept (expand kids) (expand copies) q same = ap suc (heights_kept kids copies q kids same)

  heights_kept : (f g : Forest) (q : Asked) (siblings : Forest) → AreRepriced f g q siblings → height_of_all g ≡ height_of_all f
  heights_kept none none q siblings same = refl
  heights_kept none (more l t rest) q siblings same = absurd same
  heights_kept (more l t rest) none q siblings same = absurd same
  heights_kept (more l t rest) (more m copy copies) q siblings (label, own, all) =
      let first : height copy ≡ height t = elim own [
        | inl same ↦ height_kept t copy (predecessor q l) same
        | inr new ↦ new_height t copy (predecessor q l) siblings new
      ] in
      omega (arith, first, heights_kept rest copies q siblings all)

mutual
  pub lines_kept : (t copy : Tree) (q : Asked) → IsRepriced t copy q → lines_in copy ≡ lines_in t
  lines_kept (rule r) copy q same = ap lines_in same
  lines_kept (back k) copy q same = ap lines_in same
  lines_kept (sketch b) copy q same = ap lines_in same
  lines_kept (expand kids) (rule r) q same = absurd same
  lines_kept (expand kids) (back k) q same = absurd same
  lines_kept (expand kids) (sketch b) q same = absurd same
  lines_kept (expand kids) (expand copies) q same = ap suc (lines_kept-each kids copies q kids same)

  lines_kept-each : (f g : Forest) (q : Asked) (siblings : Forest) → AreRepriced f g q siblings → lines_in_all g ≡ lines_in_all f
  lines_kept-each none none q siblings same = refl
  lines_kept-each none (more l t rest) q siblings same = absurd same
  lines_kept-each (more l t rest) none q siblings same = absurd same
  lines_kept-each (more l t rest) (more m copy copies) q siblings (label, own, all) =
      let first : lines_in copy ≡ lines_in t = elim own [
        | inl same ↦ lines_kept t copy (predecessor q l) same
        | inr new ↦ new_lines t copy (predecessor q l) siblings new
      ] in
      omega (arith, first, lines_kept-each rest copies q siblings all)

mutual
  pub texts_kept : (t copy : Tree) (q : Asked) → IsRepriced t copy q → HasSketchTexts t → HasSketchTexts copy
  texts_kept (rule r) copy q same texts = subst HasSketchTexts (sym same) texts
  texts_kept (back k) copy q same texts = subst HasSketchTexts (sym same) texts
  texts_kept (sketch b) copy q same texts = subst HasSketchTexts (sym same) texts
  texts_kept (expand kids) (rule r) q same texts = absurd same
  texts_kept (expand kids) (back k) q same texts = absurd same
  texts_kept (expand kids) (sketch b) q same texts = absurd same
  texts_kept (expand kids) (expand copies) q same texts = texts_kept-each kids copies q kids same texts

  texts_kept-each : (f g : Forest) (q : Asked) (siblings : Forest) → AreRepriced f g q siblings → HaveSketchTexts f → HaveSketchTexts g
  texts_kept-each none none q siblings same texts = tt
  texts_kept-each none (more l t rest) q siblings same texts = absurd same
  texts_kept-each (more l t rest) none q siblings same texts = absurd same
  texts_kept-each (more l t rest) (more m copy copies) q siblings (label, own, all) texts = (
    elim own [
      | inl same ↦ texts_kept t copy (predecessor q l) same texts.0
      | inr new ↦ new_texts t copy (predecessor q l) siblings new
    ],
    texts_kept-each rest copies q siblings all texts.1,
  )
