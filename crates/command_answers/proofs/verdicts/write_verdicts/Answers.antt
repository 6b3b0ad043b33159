use Rattle.std.proofs.Common.{length, sym, ◌∙◌, arith}
use Rattle.std.proofs.lemmas.Bool.{eqb-false}
use Rattle.command_answers.proofs.Settled.{lines-all, lines_more}
use Rattle.command_answers.proofs.verdicts.write_verdicts.Goals as goal

pub loop-i-preserved : goal.loop-i-preserved
loop-i-preserved c = lines_more c.args.depth c.args.rights.now c.args.settled.now c.loop-i.i _ _ _ _ c.loop-i.invariant (omega arith) (omega (arith, c.requires.as_many)) c.index-rights-i.is c.in_ok-push_right.ensures

pub returns : goal.returns
returns c =
    lines-all c.args.depth c.args.rights.now c.args.settled.now c.loop-i.i c.loop-i.text.items c.loop-i.invariant (omega (arith, c.loop-i-test.false)) (eqb-false (length c.args.rights.now) 0 (sym c.is_empty.ensures ∙ c.if-is_empty.false))
