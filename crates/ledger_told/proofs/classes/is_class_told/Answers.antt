use Rattle.std.proofs.Common.{sym, ◌∙◌, refl, arith}
use Rattle.general_lemmas.proofs.Ranges.{any_end, any_step, any_stop}
use Rattle.ledger_told.specs.Due.{is_class_told, tells_class_at}
use Rattle.ledger_told.proofs.classes.is_class_told.Goals as goal

pub loop-i-init : goal.loop-i-init
unfolding is_class_told
loop-i-init c = refl

pub returns-then-tells_class_at : goal.returns-then-tells_class_at
returns-then-tells_class_at c =
    let found = rw c.known.ensures at (sym c.tells_class_at.ensures ∙ c.if-tells_class_at.true) in
    any_stop (tells_class_at c.args.query.now c.args.ledger.now c.args.side c.args.class) c.loop-i.i 64 _ c.loop-i-test.true found c.loop-i.invariant

pub loop-i-preserved : goal.loop-i-preserved
loop-i-preserved c =
    let none = rw c.known.ensures at (sym c.tells_class_at.ensures ∙ c.if-tells_class_at.false) in
    any_step (tells_class_at c.args.query.now c.args.ledger.now c.args.side c.args.class) c.loop-i.i 64 _ c.loop-i-test.true none c.loop-i.invariant

pub returns : goal.returns
returns c = any_end (tells_class_at c.args.query.now c.args.ledger.now c.args.side c.args.class) c.loop-i.i 64 _ (omega arith) c.loop-i.invariant
