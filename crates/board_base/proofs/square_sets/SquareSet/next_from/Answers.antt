use Rattle.std.proofs.Common.{ℕ, ◌/◌, ◌^◌, ◌==◌, ◌<◌, sym, ap, ◌∙◌, arith}
use Rattle.board_base.proofs.BitSets.{in-bits, lowest-left, none-left}
use Rattle.board_base.proofs.square_sets.SquareSet.next_from.Goals as goal

pub returns-then-rest-eq0-clause-none : goal.returns-then-rest-eq0-clause-none
returns-then-rest-eq0-clause-none c = λ s low small.
    sym (in-bits c.args.self c.self.inside.bits s small c.self.view_is) ∙ ap (λ (n : ℕ). n == 1) (none-left c.self.inside.bits c.args.start s c.if-rest-eq0.true low)

pub returns-else-rest-eq0-clause-low : goal.returns-else-rest-eq0-clause-low
returns-else-rest-eq0-clause-low c =
    let some : 0 < c.self.inside.bits / 2 ^ c.args.start = omega arith in
    let low = (lowest-left c.self.inside.bits c.args.start c.self.invariant some).inside in
    omega arith

pub returns-else-rest-eq0-clause-none : goal.returns-else-rest-eq0-clause-none
returns-else-rest-eq0-clause-none c = λ s from to.
    let some : 0 < c.self.inside.bits / 2 ^ c.args.start = omega arith in
    let low = lowest-left c.self.inside.bits c.args.start c.self.invariant some in
    let inside = low.inside in
    sym (in-bits c.args.self c.self.inside.bits s (omega arith) c.self.view_is) ∙ ap (λ (n : ℕ). n == 1) (low.none s from to)

pub returns-else-rest-eq0-clause-found : goal.returns-else-rest-eq0-clause-found
returns-else-rest-eq0-clause-found c = λ inside.
    let some : 0 < c.self.inside.bits / 2 ^ c.args.start = omega arith in
    let low = lowest-left c.self.inside.bits c.args.start c.self.invariant some in
    sym (in-bits c.args.self c.self.inside.bits _ low.inside c.self.view_is) ∙ ap (λ (n : ℕ). n == 1) low.found
