use Rattle.std.proofs.Common.{◌∙◌, subst, sym, suc, length, arith, ◌≡◌, ◌+◌}
use Rattle.std.proofs.lemmas.Bool.{both_ways}
use Rattle.cert_text.specs.Tree.{Forest}
use Rattle.cert_text.specs.Lines.{cut}
use Rattle.cert_text.specs.Reading.{IsRefused, ReadsKids}
use Rattle.cert_text.specs.Texts.{IfBadText}
use Rattle.cert_text.specs.declared.node_lines.BodyLine.{BodyLine}
use Rattle.cert_text.proofs.Children.{among_kids, bad_below, bad_kids, bad_start, one_more}
use Rattle.cert_text.proofs.reading.+reader.Goals as goal

pub read_kids-returns-in-None-clause-bad : goal.read_kids-returns-in-None-clause-bad
read_kids-returns-in-None-clause-bad t c = λ due deep.
    let k = among_kids c.args.count c.loop-i._i c.args.depth due _ _ _ _ _ _ _ c.loop-i-test.true deep c.loop-i.invariant in
    let deeper : suc (length due) ≡ c.args.depth + 1 = omega arith in
    k.1 ∙ c.in-None.ensures.none k.0 c.loop-i.next c.loop-i.all due deeper

pub read_kids-returns-in-Err-clause-bad : goal.read_kids-returns-in-Err-clause-bad
read_kids-returns-in-Err-clause-bad t c =
    bad_below c.in-Err.fault c.args.count c.loop-i._i c.args.depth _ _ _ _ _ _ _ _ _ _ c.loop-i-test.true c.loop-i.invariant c.in-Some.ensures.says (c.can_start.ensures.0 c.if-not-can_start.false) c.in-Err.ensures.bad

pub read_kids-loop-i-preserved : goal.read_kids-loop-i-preserved
read_kids-loop-i-preserved t c =
    subst (λ (f : Forest). ReadsKids (c.loop-i._i + 1) c.args.depth (cut c.args.bytes.now) c.args.line c.args.units f (cut c.in-Ok.below.rest.now) c.in-Ok.below.line c.in-Ok.below.units) (sym c.in-Ok-push.ensures.ok)
    (one_more c.loop-i._i c.args.depth _ _ _ _ _ _ _ _ _ _ _ _ _ _ c.loop-i.invariant c.in-Some.ensures.says c.in-Ok.ensures.ok)

pub read_kids-returns-then-not-can_start-clause-bad : goal.read_kids-returns-then-not-can_start-clause-bad
read_kids-returns-then-not-can_start-clause-bad t c =
    bad_start c.args.count c.loop-i._i c.args.depth _ _ _ _ _ _ _ _ _ _ c.loop-i-test.true c.loop-i.invariant c.in-Some.ensures.says (λ starts. both_ways _ c.if-not-can_start.true (c.can_start.ensures.1 starts))

pub read_below-returns-in-Err-clause-bad : goal.read_below-returns-in-Err-clause-bad
read_below-returns-in-Err-clause-bad t c =
    subst (λ (b : BodyLine). IfBadText c.in-Err.fault (IsRefused c.args.units b c.args.depth (cut c.args.bytes.now) c.args.line)) (sym c.in-Expand.is)
    (bad_kids c.in-Err.fault c.args.units c.in-Expand.count c.args.depth (cut c.args.bytes.now) c.args.line c.in-Err.ensures.bad)
