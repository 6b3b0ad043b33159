use Rattle.std.proofs.Common.{◌+◌, ◌&&◌, Bool, ap, sym, ◌∙◌, refl, arith}
use Rattle.general_lemmas.proofs.Ranges.{any_step, any_stop, any_end}
use Rattle.board_base.specs.Board.{at, is_the, opponent}
use Rattle.board_base.specs.Attacks.{attacks}
use Rattle.board_base.specs.Legal.{in_check}
use Rattle.board_base.specs.declared.men.Kind.TheVariants.{King}
use Rattle.play_rules.proofs.KingSets.{no-king}
use Rattle.play_rules.proofs.Passed.{any_to}
use Rattle.play_rules.proofs.king_boards.is_one_attacked.Goals as goal

pub loop-s-init : goal.loop-s-init
unfolding in_check
loop-s-init c = record {
  low = c.next_from-s.ensures.low;
  left =
      any_to (λ s. is_the c.args.side King (at c.args.board.now s) && attacks c.args.board.now s (opponent c.args.side)) 0 c.next_from-s.result 64 _ c.next_from-s.ensures.high c.next_from-s.ensures.low
      (λ s from to. ap (λ (b : Bool). b && attacks c.args.board.now s (opponent c.args.side)) (no-king c.args.board.now c.args.kings c.args.side s c.requires (c.next_from-s.ensures.none s from to))) refl;
}

pub returns-then-is_king_attacked : goal.returns-then-is_king_attacked
returns-then-is_king_attacked c =
    let found = rw c.known.ensures at (sym c.is_king_attacked.ensures ∙ c.if-is_king_attacked.true) in
    any_stop (λ s. is_the c.args.side King (at c.args.board.now s) && attacks c.args.board.now s (opponent c.args.side)) c.loop-s.s 64 _ c.loop-s-test.true found c.loop-s.invariant.left

pub loop-s-preserved : goal.loop-s-preserved
loop-s-preserved c =
    let none = rw c.known.ensures at (sym c.is_king_attacked.ensures ∙ c.if-is_king_attacked.false) in
    let next = c.next_from-s-in-loop-s in
    record {
      low = next.ensures.low;
      left =
          any_to (λ s. is_the c.args.side King (at c.args.board.now s) && attacks c.args.board.now s (opponent c.args.side)) (c.loop-s.s + 1) next.result 64 _ next.ensures.high next.ensures.low
          (λ s from to. ap (λ (b : Bool). b && attacks c.args.board.now s (opponent c.args.side)) (no-king c.args.board.now c.args.kings c.args.side s c.requires (next.ensures.none s from to)))
          (any_step (λ s. is_the c.args.side King (at c.args.board.now s) && attacks c.args.board.now s (opponent c.args.side)) c.loop-s.s 64 _ c.loop-s-test.true none c.loop-s.invariant.left);
    }

pub returns : goal.returns
returns c =
    any_end (λ s. is_the c.args.side King (at c.args.board.now s) && attacks c.args.board.now s (opponent c.args.side)) c.loop-s.s 64 _ (omega arith) c.loop-s.invariant.left
