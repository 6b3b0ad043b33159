use Rattle.std.proofs.Common.{◌&&◌, sym, ◌∙◌, arith}
use Rattle.general_lemmas.proofs.Ranges.{any_step, any_stop, any_end}
use Rattle.board_base.specs.Board.{at, is_the, opponent}
use Rattle.board_base.specs.Attacks.{attacks}
use Rattle.board_base.specs.declared.men.Kind.TheVariants.{King}
use Rattle.board_base.proofs.checks.in_check.Goals as goal

pub returns-then-is_king_attacked : goal.returns-then-is_king_attacked
returns-then-is_king_attacked c =
    let found = rw c.known.ensures at (sym c.is_king_attacked.ensures ∙ c.if-is_king_attacked.true) in
    any_stop (λ s. is_the c.args.side King (at c.args.board.now s) && attacks c.args.board.now s (opponent c.args.side)) c.loop-i.i 64 _ c.loop-i-test.true found c.loop-i.invariant

pub loop-i-preserved : goal.loop-i-preserved
loop-i-preserved c =
    let none = rw c.known.ensures at (sym c.is_king_attacked.ensures ∙ c.if-is_king_attacked.false) in
    any_step (λ s. is_the c.args.side King (at c.args.board.now s) && attacks c.args.board.now s (opponent c.args.side)) c.loop-i.i 64 _ c.loop-i-test.true none c.loop-i.invariant

pub returns : goal.returns
returns c =
    any_end (λ s. is_the c.args.side King (at c.args.board.now s) && attacks c.args.board.now s (opponent c.args.side)) c.loop-i.i 64 _ (omega arith) c.loop-i.invariant
