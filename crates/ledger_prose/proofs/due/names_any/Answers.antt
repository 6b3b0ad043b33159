use Rattle.std.proofs.Common.{sym, ◌∙◌, arith}
use Rattle.general_lemmas.proofs.Ranges.{any_step, any_stop, any_end}
use Rattle.ledger_prose.specs.Sentences.{is_named}
use Rattle.ledger_prose.proofs.due.names_any.Goals as goal

pub returns-then-is_named : goal.returns-then-is_named
returns-then-is_named c =
    let found = rw c.known.ensures at (sym c.is_named.ensures ∙ c.if-is_named.true) in
    any_stop (is_named c.args.query.now c.args.lines.now) c.loop-i.i 64 _ c.loop-i-test.true found c.loop-i.invariant

pub loop-i-preserved : goal.loop-i-preserved
loop-i-preserved c =
    let none = rw c.known.ensures at (sym c.is_named.ensures ∙ c.if-is_named.false) in
    any_step (is_named c.args.query.now c.args.lines.now) c.loop-i.i 64 _ c.loop-i-test.true none c.loop-i.invariant

pub returns : goal.returns
returns c = any_end (is_named c.args.query.now c.args.lines.now) c.loop-i.i 64 _ (omega arith) c.loop-i.invariant
