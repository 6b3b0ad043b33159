use Rattle.std.proofs.Common.{◌≡◌, ◌+◌, ℕ, suc, ap, ◌∙◌, arith}
use Rattle.board_base.specs.Board.{at}
use Rattle.men_account.specs.Tallies.{with_place}
use Rattle.men_account.specs.declared.tallies.Counts.{Counts}
use Rattle.men_account.proofs.BySquares.{counts_among, square_more, few_among, whole_board}
use Rattle.men_account.proofs.sums.counts.Goals as goal

pub with_place-total-requires : goal.with_place-total-requires
with_place-total-requires c = rw c.loop-i.invariant.so_far (few_among c.args.side c.args.board.now c.loop-i.i 64 (omega arith))

pub loop-i-preserved : goal.loop-i-preserved
loop-i-preserved c =
    let so_far : Counts = counts_among c.args.side c.args.board.now c.loop-i.i in
    let next : suc c.loop-i.i ≡ c.loop-i.i + 1 = omega arith in
    record {
      so_far = c.with_place-total.ensures
          ∙ ap (λ (n : Counts). with_place n c.args.side c.at.result c.known-s.result) c.loop-i.invariant.so_far
          ∙ ap (λ p. with_place so_far c.args.side p c.known-s.result) c.at.ensures.man
          ∙ ap (λ (s : ℕ). with_place so_far c.args.side (at c.args.board.now s) s) c.known-s.ensures
          ∙ square_more c.args.side c.args.board.now c.loop-i.i
          ∙ ap (counts_among c.args.side c.args.board.now) next;
    }

pub returns : goal.returns
returns c =
    let all : c.loop-i.i ≡ 64 = omega arith in
    c.loop-i.invariant.so_far ∙ ap (counts_among c.args.side c.args.board.now) all ∙ whole_board c.args.side c.args.board.now
