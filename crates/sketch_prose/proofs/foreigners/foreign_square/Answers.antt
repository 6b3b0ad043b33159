use Rattle.std.proofs.Common.{◌∙◌, ap}
use Rattle.std.proofs.lemmas.Bool.{both_ways}
use Rattle.std.specs.Prelude.{Option}
use Rattle.board_base.specs.declared.men.Man.{Man}
use Rattle.sketch_grounds.specs.Begun.{begins_on}
use Rattle.sketch_prose.proofs.Strangers.{begun-on}
use Rattle.sketch_prose.proofs.foreigners.foreign_square.Goals as goal

pub returns-else-foreign-clause-none : goal.returns-else-foreign-clause-none
returns-else-foreign-clause-none c = λ e.
    begun-on c.args.first.now c.args.set c.args.figure.now c.in-Some.s c.has-there.result c.begins_on-begins.result c.in-Some.ensures.size c.in-Some.ensures.square c.has-there.ensures.member (c.begins_on-begins.ensures ∙ ap (λ (p : Option Man). begins_on p c.args.figure.now) c.at.ensures.man) c.if-foreign.false

pub returns-in-None-clause-none : goal.returns-in-None-clause-none
returns-in-None-clause-none c = λ e s member fixed. absurd (both_ways _ (c.in-None.ensures.square s) fixed)
