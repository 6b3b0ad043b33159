use Rattle.std.proofs.Common.{◌<◌, sym, arith}
use Rattle.std.proofs.lemmas.Bool.{false_from_ne_true}
use Rattle.sketch_grounds.proofs.Pairs.{pair-last, pair-none, pair-one}
use Rattle.sketch_grounds.proofs.zones.is_pair.Goals as goal

pub returns-then-first-eq64 : goal.returns-then-first-eq64
returns-then-first-eq64 c = sym (false_from_ne_true _ (pair-none c.args.zone c.next_from-first.result c.if-first-eq64.true (λ s low. c.next_from-first.ensures.none s (omega arith) low)))

pub returns-then-second-eq64 : goal.returns-then-second-eq64
returns-then-second-eq64 c = sym (false_from_ne_true _ (pair-one c.args.zone c.next_from-first.result c.next_from-second.result c.if-second-eq64.true (λ s low. c.next_from-first.ensures.none s (omega arith) low) c.next_from-second.ensures.none))

pub returns : goal.returns
returns c =
    let a : c.next_from-first.result < 64 = omega (arith, c.next_from-first.ensures.low) in
    let b : c.next_from-second.result < 64 = omega (arith, c.next_from-second.ensures.low) in
    pair-last c.args.zone c.next_from-first.result c.next_from-second.result c.next_from.result a b (c.next_from-first.ensures.found a) (c.next_from-second.ensures.found b) (λ s low. c.next_from-first.ensures.none s (omega arith) low) c.next_from-second.ensures.none c.next_from-second.ensures.high c.next_from.ensures.none c.next_from.ensures.high c.next_from.ensures.low c.next_from.ensures.found
