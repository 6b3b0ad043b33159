use Rattle.std.proofs.Common.{◌≡◌, ◌+◌, ◌∙◌, ℕ, Bool, refl, ap, arith}
use Rattle.ledger_lines.specs.Known.{has_taken, least_taken}
use Rattle.ledger_lines.proofs.Counted.{count-more, count_first, few-counted}
use Rattle.ledger_lines.proofs.captors.least_taken.Goals as goal

pub one_more-n-requires : goal.one_more-n-requires
one_more-n-requires c =
    let p : ℕ → Bool = λ n. has_taken c.args.query.now c.args.ledger.now c.args.s (n + 1) in
    omega (arith, few-counted p c.loop-i.i c.loop-i.n c.loop-i.invariant)

pub loop-i-preserved : goal.loop-i-preserved
loop-i-preserved c =
    let p : ℕ → Bool = λ n. has_taken c.args.query.now c.args.ledger.now c.args.s (n + 1) in
    count-more p c.loop-i.i c.loop-i.i c.loop-i.n c.one_more-n.result c.has_taken.result c.loop-i.invariant refl c.has_taken.ensures c.one_more-n.ensures

pub returns : goal.returns
unfolding least_taken
returns c =
    let p : ℕ → Bool = λ n. has_taken c.args.query.now c.args.ledger.now c.args.s (n + 1) in
    let whole : c.loop-i.i ≡ 7 = omega arith in
    record { number = c.loop-i.invariant ∙ ap (count_first p) whole; few = omega (arith, few-counted p c.loop-i.i c.loop-i.n c.loop-i.invariant) }
