use Rattle.std.proofs.Common.{◌≡◌, ◌+◌, ◌∷◌, List, drop, length, map, subst, sym, arith}
use Rattle.std.proofs.lemmas.List.{drop_all, length-map, take_rest}
use Rattle.sketch_body.specs.Seen.{line_of}
use Rattle.sketch_body.specs.declared.lines.SketchLine.{SketchLine}
use Rattle.sketch_proof.specs.Proofs.{Setting}
use Rattle.sketch_prose.proofs.Leaving.{drop-lines, drop-none, goes-here, goes-on, lines-from, told-whole}
use Rattle.sketch_prose.proofs.telling.push_all.Goals as goal
use Rattle.sketch_prose.specs.Bases.{setting_with}
use Rattle.sketch_prose.specs.Levels.{AreLeft, GoesOn}
use Rattle.sketch_text.specs.Trees.{Line}

pub loop-i-init : goal.loop-i-init
loop-i-init c = λ known fs it. goes-here (setting_with c.args.base.now c.args.prices.now) c.args.base.now.diagram c.args.levels.now fs (map line_of c.args.lines.now) c.args.out.now.items it

pub loop-i-preserved : goal.loop-i-preserved
loop-i-preserved c = λ known fs it.
    let g : Setting = setting_with c.args.base.now c.args.prices.now in
    let lines : List SketchLine = c.args.lines.now in
    let x : SketchLine = c.index-lines-i.result in
    let so = c.loop-i.invariant known fs it in
    let from : drop c.loop-i.i (map line_of lines) ≡ line_of x ∷ map line_of (drop (c.loop-i.i + 1) lines) = lines-from lines c.loop-i.i x (omega arith) c.index-lines-i.is in
    let left : AreLeft g c.loop-i.levels so.forests (drop c.loop-i.skipped (line_of x ∷ map line_of (drop (c.loop-i.i + 1) lines))) = subst (λ (l : List Line). AreLeft g c.loop-i.levels so.forests (drop c.loop-i.skipped l)) from so.left in
    let step = subst (λ (l : List SketchLine). AreLeft g c.loop-i.levels so.forests (drop c.loop-i.skipped (line_of x ∷ map line_of l)) → GoesOn g c.args.base.now.diagram c.loop-i.levels so.forests c.push_line.new.levels (drop c.in_ok-skipped.skipped (map line_of l)) c.loop-i.out.items c.push_line.new.out.items) (take_rest lines (c.loop-i.i + 1)) (c.in_ok-skipped.ensures known so.forests) in
    let later = subst (λ (l : List Line). GoesOn g c.args.base.now.diagram c.loop-i.levels so.forests c.push_line.new.levels (drop c.in_ok-skipped.skipped l) c.loop-i.out.items c.push_line.new.out.items) (sym (drop-lines lines (c.loop-i.i + 1))) (step left) in
    goes-on g c.args.base.now.diagram c.args.levels.now c.loop-i.levels c.push_line.new.levels fs _ _ c.args.out.now.items c.loop-i.out.items c.push_line.new.out.items so later

pub returns : goal.returns
returns c = λ known fs it.
    let lines : List SketchLine = c.args.lines.now in
    let many : length (map line_of lines) ≡ length lines = length-map lines line_of in
    let none = drop_all c.loop-i.i (map line_of lines) (omega (arith, many, c.loop-i-test.false)) in
    told-whole (setting_with c.args.base.now c.args.prices.now) c.args.base.now.diagram c.args.levels.now c.loop-i.levels fs _ c.args.out.now.items c.loop-i.out.items (drop-none c.loop-i.skipped (drop c.loop-i.i (map line_of lines)) none) (c.loop-i.invariant known fs it)
