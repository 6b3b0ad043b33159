use Rattle.std.proofs.Common.{sym, ◌∙◌, arith, refl}
use Rattle.std.specs.List.{list_any}
use Rattle.general_lemmas.proofs.Ranges.{any_step, any_stop, any_end}
use Rattle.play_rules.specs.States.{legal_at}
use Rattle.play_rules.specs.Listed.{moves_between}
use Rattle.san_text.specs.Spelling.{has_move_from}
use Rattle.san_text.proofs.marks.has_move_from.Goals as goal

pub loop-i-init : goal.loop-i-init
unfolding has_move_from
loop-i-init c = refl

pub returns-then-has_move_between : goal.returns-then-has_move_between
returns-then-has_move_between c =
    let found = rw c.known.ensures at (sym c.has_move_between.ensures ∙ c.if-has_move_between.true) in
    any_stop (λ to. list_any (legal_at c.args.state.now) (moves_between c.args.from to)) c.loop-i.i 64 _ c.loop-i-test.true found c.loop-i.invariant

pub loop-i-preserved : goal.loop-i-preserved
loop-i-preserved c =
    let none = rw c.known.ensures at (sym c.has_move_between.ensures ∙ c.if-has_move_between.false) in
    any_step (λ to. list_any (legal_at c.args.state.now) (moves_between c.args.from to)) c.loop-i.i 64 _ c.loop-i-test.true none c.loop-i.invariant

pub returns : goal.returns
returns c = any_end (λ to. list_any (legal_at c.args.state.now) (moves_between c.args.from to)) c.loop-i.i 64 _ (omega arith) c.loop-i.invariant
