use Rattle.std.proofs.Common.{◌≡◌, ◌+◌, ◌≤◌, ◌∷◌, ℕ, false, List, ap, drop, length, map, subst, sym, ◌∙◌, arith}
use Rattle.std.proofs.lemmas.List.{drop_all, length-map}
use Rattle.sketch_body.specs.Seen.{line_of}
use Rattle.sketch_body.specs.declared.lines.SketchLine.{SketchLine}
use Rattle.sketch_prose.proofs.Beneath.{NodesLeft, left-few, left-first, left-on, left-past, left-some}
use Rattle.sketch_prose.proofs.Leaving.{drop-few, drop-lines, lines-from}
use Rattle.sketch_prose.proofs.children.behind_node.Goals as goal
use Rattle.sketch_prose.specs.Behind.{due_behind, is_past}
use Rattle.general_lemmas.proofs.Lists.{same_first}
use Rattle.sketch_text.specs.Trees.{Line}

pub loop-i-init : goal.loop-i-init
loop-i-init c = (omega arith, λ x y rest e. left-first x y rest (map line_of (drop c.args.first c.args.lines.now)) e)

pub loop-i-preserved : goal.loop-i-preserved
loop-i-preserved c =
    let lines : List SketchLine = c.args.lines.now in
    let first : SketchLine = c.index-lines-i.result in
    let x : SketchLine = c.index-lines-i-in-loop-i.result in
    let i : ℕ = c.loop-i.i in
    let tail : List Line = map line_of (drop (i + 1) lines) in
    let before : map line_of (drop i lines) ≡ line_of first ∷ tail = sym (drop-lines lines i) ∙ lines-from lines i first (omega arith) c.index-lines-i.is in
    let from : map line_of (drop i lines) ≡ line_of x ∷ tail = sym (drop-lines lines i) ∙ lines-from lines i x (omega arith) c.index-lines-i-in-loop-i.is in
    let same : line_of x ≡ line_of first = same_first (sym from ∙ before) in
    let past : is_past c.loop-i.due (line_of x) ≡ false = ap (λ (l : Line). is_past c.loop-i.due l) same ∙ sym c.is_past.ensures ∙ c.if-is_past.false in (
      c.due_behind-due.ensures.few,
      λ a b rest e.
          let here : NodesLeft b rest (line_of x ∷ tail) c.loop-i.due = subst (λ (l : List Line). NodesLeft b rest l c.loop-i.due) from (c.loop-i.invariant.1 a b rest e) in
          let next : NodesLeft b rest tail (due_behind c.loop-i.due (line_of x)) = left-on b rest (line_of x) tail c.loop-i.due here past in
          let few : due_behind c.loop-i.due (line_of x) ≤ length tail = left-few b rest tail (due_behind c.loop-i.due (line_of x)) next in
          let mapped : length tail ≡ length (drop (i + 1) lines) = length-map (drop (i + 1) lines) line_of in
          let dropped : length (drop (i + 1) lines) ≤ length lines = drop-few (i + 1) lines in
          let within : due_behind c.loop-i.due (line_of x) ≤ length lines + 1 = omega (arith, few, mapped, dropped) in
          subst (λ (n : ℕ). NodesLeft b rest tail n) (sym (c.due_behind-due.ensures.value within)) next,
    )

pub returns-then-is_past : goal.returns-then-is_past
returns-then-is_past c = λ a b rest e.
    let lines : List SketchLine = c.args.lines.now in
    let x : SketchLine = c.index-lines-i.result in
    let i : ℕ = c.loop-i.i in
    let from : map line_of (drop i lines) ≡ line_of x ∷ map line_of (drop (i + 1) lines) = sym (drop-lines lines i) ∙ lines-from lines i x (omega arith) c.index-lines-i.is in
    from ∙ left-past b rest (line_of x) (map line_of (drop (i + 1) lines)) c.loop-i.due (subst (λ (l : List Line). NodesLeft b rest l c.loop-i.due) from (c.loop-i.invariant.1 a b rest e)) (sym c.is_past.ensures ∙ c.if-is_past.true)

pub returns : goal.returns
returns c = λ a b rest e.
    let lines : List SketchLine = c.args.lines.now in
    absurd (left-some b rest c.loop-i.due (subst (λ (l : List SketchLine). NodesLeft b rest (map line_of l) c.loop-i.due) (drop_all c.loop-i.i lines (omega arith)) (c.loop-i.invariant.1 a b rest e)))
