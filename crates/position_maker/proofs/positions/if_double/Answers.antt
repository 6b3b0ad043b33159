use Rattle.std.proofs.Common.{◌∙◌, ap, sym}
use Rattle.std.specs.Prelude.{is_some}
use Rattle.position_maker.proofs.Doubled.{double-theirs}
use Rattle.position_maker.proofs.positions.if_double.Goals as goal

pub returns-then-is_some-clause-theirs : goal.returns-then-is_some-clause-theirs
returns-then-is_some-clause-theirs c = double-theirs c.args.before.now c.args.after.now c.args.m.now c.requires.legal c.requires.follows c.requires.double (sym (ap is_some c.ep.ensures) ∙ sym c.is_some.ensures ∙ c.if-is_some.true)
