use Rattle.std.proofs.Common.{sym, refl, arith}
use Rattle.sketch_text.proofs.LabelTexts.{short_step, step_at}
use Rattle.sketch_text.proofs.labels.read_step.Goals as goal

pub returns-then-text-lt5 : goal.returns-then-text-lt5
returns-then-text-lt5 c = sym (short_step c.args.text.now (omega arith))

pub returns-in_default : goal.returns-in_default
returns-in_default c = sym (step_at c.args.text.now _ _ _ (omega arith) (sym c.in_default.ensures) refl refl)

pub returns-in_default-read_square : goal.returns-in_default-read_square
returns-in_default-read_square c = sym (step_at c.args.text.now _ _ _ (omega arith) (sym c.in-Some.ensures) (sym c.in_default-read_square.ensures) refl)

pub returns-in-Some-read_way : goal.returns-in-Some-read_way
returns-in-Some-read_way c = sym (step_at c.args.text.now _ _ _ (omega arith) (sym c.in-Some.ensures) (sym c.in-Some-read_square.ensures) (sym c.in-Some-read_way.ensures))

pub returns-in-None : goal.returns-in-None
returns-in-None c = sym (step_at c.args.text.now _ _ _ (omega arith) (sym c.in-Some.ensures) (sym c.in-Some-read_square.ensures) (sym c.in-None.ensures))
