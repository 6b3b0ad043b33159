use Rattle.std.proofs.Common.{◌≡◌, ◌∙◌, Bool, false, true, ap, refl}
use Rattle.std.specs.Prelude.{Option}
use Rattle.board_base.specs.Board.{at}
use Rattle.board_base.specs.declared.men.Man.{Man}
use Rattle.sketch_grounds.specs.Begun.{begins_on}
use Rattle.sketch_grounds.proofs.Beginning.{begun-none, begun-some, left-part, right-part}
use Rattle.sketch_grounds.proofs.begun.is_begun.Goals as goal

pub returns-then-not-has-clause-begun : goal.returns-then-not-has-clause-begun
returns-then-not-has-clause-begun c =
    let out : c.has.result ≡ false = cc in
    let there : Bool = begins_on (at c.args.first.now c.in-Some.s) c.args.figure.now in
    left-part c.has.result there out ∙ begun-some c.args.first.now c.args.set c.args.figure.now c.in-Some.s c.has.result there c.fixed_square.ensures.size c.in-Some.ensures.square c.has.ensures.member refl

pub returns-else-not-has-clause-begun : goal.returns-else-not-has-clause-begun
returns-else-not-has-clause-begun c =
    let in_ : c.has.result ≡ true = cc in
    right-part c.has.result c.begins_on.result in_ ∙ begun-some c.args.first.now c.args.set c.args.figure.now c.in-Some.s c.has.result c.begins_on.result c.fixed_square.ensures.size c.in-Some.ensures.square c.has.ensures.member
    (c.begins_on.ensures ∙ ap (λ (p : Option Man). begins_on p c.args.figure.now) c.at.ensures.man)

pub returns-in-None-clause-begun : goal.returns-in-None-clause-begun
returns-in-None-clause-begun c = begun-none c.args.first.now c.args.set c.args.figure.now c.in-None.ensures.square
