use Rattle.std.proofs.Common.{◌≡◌, ◌+◌, set, rules, sym, ap, subst, ◌∙◌, arith, to_z, of_z, w8}
use Rattle.std.specs.Prelude.{ℤ}
use Rattle.std.proofs.lemmas.Int.{to_z-of_z}
use Rattle.price_text.proofs.WordLemmas.{cut_word, left}
use Rattle.cert_text.proofs.WordTexts.{ColumnsSoFar, columns_bad, columns_next, columns_over}
use Rattle.cert_text.proofs.arguments.read_columns.Goals as goal

pub returns-in_default-read_signed : goal.returns-in_default-read_signed
returns-in_default-read_signed g c =
    sym (columns_bad g.row.W c.args.text.now c.loop-i.i c.loop-i.rest c.loop-i.v c.split_part.result.0.now (left c.split_part.result.1) (ap left c.in-Some.is ∙ cut_word c.in-Some.left.now c.split_part.result.0.now c.split_part.result.1 c.split_part.ensures.part.free c.split_part.ensures.rest) (sym c.in_default-read_signed.ensures) c.loop-i.invariant)

pub loop-i-preserved : goal.loop-i-preserved
loop-i-preserved g c =
    let same : to_z w8 (of_z w8 c.in-Some-read_signed.x) ≡ c.in-Some-read_signed.x = to_z-of_z w8 c.in-Some-read_signed.x (search rules) in
    subst (λ (x : ℤ). ColumnsSoFar g.row.W c.args.text.now (c.loop-i.i + 1) c.split_part.result.1 (set c.loop-i.v c.loop-i.i x)) (sym same)
    (columns_next g.row.W c.args.text.now c.loop-i.i c.loop-i.rest c.split_part.result.1 c.loop-i.v c.split_part.result.0.now c.in-Some-read_signed.x c.loop-i-test.true (ap left c.in-Some.is ∙ cut_word c.in-Some.left.now c.split_part.result.0.now c.split_part.result.1 c.split_part.ensures.part.free c.split_part.ensures.rest) (sym c.in-Some-read_signed.ensures) c.loop-i.invariant)

pub returns-then-is_some : goal.returns-then-is_some
returns-then-is_some g c = sym (columns_over g.row.W c.args.text.now c.loop-i.i c.loop-i.rest c.loop-i.v (sym c.if-is_some.ensures) (omega (arith, c.loop-i-test.false)) c.loop-i.invariant)
