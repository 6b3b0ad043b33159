use Rattle.std.proofs.Common.{◌≡◌, ap, sym, ◌∙◌, drop, arith}
use Rattle.std.proofs.lemmas.List.{drop_all}
use Rattle.proof_story.specs.Rows.{word_length}
use Rattle.proof_story.proofs.Wraps.{word-here, word-on}
use Rattle.proof_story.proofs.wrapping.word_length.Goals as goal

pub returns-then-is_gap-clause-number : goal.returns-then-is_gap-clause-number
returns-then-is_gap-clause-number c =
    let here : word_length (drop c.loop-i.i c.args.line.now) ≡ 0 = word-here c.args.line.now c.loop-i.i c.loop-i-test.true (sym c.is_gap.ensures ∙ c.if-is_gap.true) in
    omega (arith, here, c.loop-i.invariant)

pub loop-i-preserved : goal.loop-i-preserved
loop-i-preserved c =
    let on = word-on c.args.line.now c.loop-i.i c.loop-i-test.true (sym c.is_gap.ensures ∙ c.if-is_gap.false) in
    omega (arith, on, c.loop-i.invariant)

pub returns-clause-number : goal.returns-clause-number
returns-clause-number c =
    let none : word_length (drop c.loop-i.i c.args.line.now) ≡ 0 = ap word_length (drop_all c.loop-i.i c.args.line.now c.loop-i-test.false) in
    omega (arith, none, c.loop-i.invariant, c.loop-i-test.false)
