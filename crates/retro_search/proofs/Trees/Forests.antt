-- Children, and one more after them.
use Rattle.std.proofs.Common.{◌≡◌, ◌+◌, max, List, [], ◌∷◌, ◌++◌, refl, ap, arith}
use Rattle.board_base.specs.declared.unmoves.Unmove.{Unmove}
use Rattle.query_base.specs.Asked.{Asked}
use Rattle.unmove_gen.specs.Predecessor.{predecessor}
use Rattle.cert_text.specs.Tree.{Tree, Forest, none, more, with_last}
use Rattle.sketch_findings.specs.Proving.{Proves, ProvesEach}
use Rattle.retro_search.specs.Heights.{height, height_of_all}
use Rattle.retro_search.specs.SketchTexts.{HasSketchTexts, HaveSketchTexts}
use Rattle.retro_search.specs.RuleLines.{AreByRuleLines, IsByRuleLines}
use Rattle.retro_search.specs.LineCounts.{lines_in, lines_in_all}

pub proves_more : (f : Forest) (q : Asked) (done : List Unmove) (u : Unmove) (t : Tree) (ancestors : List Asked) → ProvesEach f q done ancestors → Proves t (predecessor q u) (q ∷ ancestors) → ProvesEach (with_last f u t) q (done ++ u ∷ []) ancestors
proves_more none q done u t ancestors each h = ([], ap (λ (l : List Unmove). l ++ u ∷ []) each, h, refl)
proves_more (more label s rest) q done u t ancestors (others, e, p, each) h =
    (others ++ u ∷ [], ap (λ (l : List Unmove). l ++ u ∷ []) e, p, proves_more rest q others u t ancestors each h)

pub lines_more : (f : Forest) (u : Unmove) (t : Tree) → lines_in_all (with_last f u t) ≡ lines_in_all f + lines_in t
lines_more none u t = omega arith
lines_more (more label s rest) u t = omega (arith, lines_more rest u t)

pub height_last : (f : Forest) (u : Unmove) (t : Tree) → height_of_all (with_last f u t) ≡ max (height_of_all f) (height t)
height_last none u t = omega arith
height_last (more label s rest) u t = omega (arith, height_last rest u t)

pub texts_more : (f : Forest) (u : Unmove) (t : Tree) → HaveSketchTexts f → HasSketchTexts t → HaveSketchTexts (with_last f u t)
texts_more none u t all one = (one, tt)
texts_more (more label s rest) u t all one = (all.0, texts_more rest u t all.1 one)

pub lined_more : (f : Forest) (u : Unmove) (t : Tree) → AreByRuleLines f → IsByRuleLines t → AreByRuleLines (with_last f u t)
lined_more none u t all one = (one, tt)
lined_more (more label s rest) u t all one = (all.0, lined_more rest u t all.1 one)
