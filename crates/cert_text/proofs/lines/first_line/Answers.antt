use Rattle.std.proofs.Common.{◌≤◌, length, ap, sym, ◌∙◌, arith, add-one}
use Rattle.std.proofs.lemmas.Bool.{eqb-false}
use Rattle.cert_text.proofs.Cuts.{cut-at, cut-whole}
use Rattle.cert_text.proofs.lines.first_line.Goals as goal

pub returns-then-byte-eq10 : goal.returns-then-byte-eq10
returns-then-byte-eq10 c = rw (c.split_at.ensures.front, c.split_at.ensures.back, add-one) (cut-at c.args.bytes.now c.loop-i.i (omega arith) c.loop-i.invariant c.if-byte-eq10.true)

pub returns : goal.returns
returns c =
    let past : length c.args.bytes.now ≤ c.loop-i.i = c.loop-i-test.false in
    cut-whole c.args.bytes.now (λ none. eqb-false _ 0 (sym c.is_empty.ensures ∙ c.if-is_empty.false) (ap length none)) (λ k below. c.loop-i.invariant k (omega arith))
