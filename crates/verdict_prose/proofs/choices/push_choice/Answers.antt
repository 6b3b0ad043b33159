use Rattle.std.proofs.Common.{◌++◌, sym, ◌∙◌, arith}
use Rattle.std.specs.Prelude.{None}
use Rattle.verdict_prose.specs.Choices.{choice_from}
use Rattle.verdict_prose.proofs.OneAfterAnother.{choice-step, choice-whole}
use Rattle.verdict_prose.proofs.choices.push_choice.Goals as goal

pub loop-i-preserved : goal.loop-i-preserved
loop-i-preserved c =
    choice-step c.args.word.now c.loop-i.before c.args.board.now c.args.moves.now c.loop-i.i _ c.loop-i.out.items _ (c.args.out.now.items ++ choice_from c.args.word.now None c.args.board.now c.args.moves.now) (sym c.get.ensures ∙ c.unwrap-u.ensures) c.in_ok-push_one.ensures c.loop-i.invariant

pub returns : goal.returns
returns c = choice-whole c.args.word.now c.loop-i.before c.args.board.now c.args.moves.now c.loop-i.i c.loop-i.out.items (c.args.out.now.items ++ choice_from c.args.word.now None c.args.board.now c.args.moves.now) (omega arith) c.loop-i.invariant
