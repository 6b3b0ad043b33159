use Rattle.std.proofs.Common.{◌≡◌, ◌+◌, ℕ, Bool, ap, sym, ◌∙◌, arith}
use Rattle.std.specs.List.{count_by, range_with_len}
use Rattle.std.proofs.lemmas.List.Sums.{length-filter}
use Rattle.board_base.specs.Board.{at, is_of, men_squares}
use Rattle.general_lemmas.proofs.Counts.{one_if}
use Rattle.balance_rule.proofs.Rowed.{count-more}
use Rattle.balance_rule.proofs.tables.men_on.Goals as goal
use Rattle.balance_rule.proofs.tables.men_on.Goals.{then-is_of, else-is_of}

pub loop-i-preserved : goal.loop-i-preserved
loop-i-preserved c =
    let p : ℕ → Bool = λ s. is_of c.args.side (at c.args.board.now s) in
    let test : p c.loop-i.i ≡ c.is_of.result = sym (c.is_of.ensures ∙ ap (is_of c.args.side) (c.at.ensures.man ∙ ap (at c.args.board.now) c.known.ensures)) in
    let next : count_by p (range_with_len 0 (c.loop-i.i + 1)) ≡ count_by p (range_with_len 0 c.loop-i.i) + one_if (p c.loop-i.i) = count-more p c.loop-i.i in
    elim c.if-is_of.branch [
      | then-is_of w ↦
          let one : one_if (p c.loop-i.i) ≡ 1 = ap one_if (test ∙ w.if-is_of.true) in
          record { small = omega (arith, w.n-is, c.loop-i.invariant.small); number = omega (arith, w.n-is, c.loop-i.invariant.number, next, one) }
      | else-is_of w ↦
          let none : one_if (p c.loop-i.i) ≡ 0 = ap one_if (test ∙ w.if-is_of.false) in
          record { small = omega (arith, w.n-is, c.loop-i.invariant.small); number = omega (arith, w.n-is, c.loop-i.invariant.number, next, none) }
    ]

pub returns-clause-number : goal.returns-clause-number
unfolding men_squares
returns-clause-number c =
    let e : c.loop-i.i ≡ 64 = omega arith in
    c.loop-i.invariant.number ∙ ap (λ (n : ℕ). count_by (λ s. is_of c.args.side (at c.args.board.now s)) (range_with_len 0 n)) e ∙ sym (length-filter (λ s. is_of c.args.side (at c.args.board.now s)) (range_with_len 0 64))
