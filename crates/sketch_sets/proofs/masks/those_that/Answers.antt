use Rattle.std.proofs.Common.{◌≡◌, ℕ, true, cond, set, ap, sym, ◌∙◌, arith}
use Rattle.board_base.specs.Board.{is_in}
use Rattle.sketch_sets.proofs.Sets.{Those, those-end, those-more, those-start}
use Rattle.sketch_sets.proofs.masks.those_that.Goals as goal

pub squares-init : goal.squares-init
squares-init g c = record {
  low = c.next_from-i.ensures.low;
  those = λ p agrees. those-start c.args.set p c.from_bits-those.result c.next_from-i.result c.from_bits-those.ensures.squares c.next_from-i.ensures.none c.next_from-i.ensures.found;
}

pub squares-preserved : goal.squares-preserved
squares-preserved g c =
    let same : c.known-s.result ≡ c.squares.i = c.known-s.ensures in
    let i : ℕ = c.squares.i in
    record {
      low = c.next_from-i-in-squares.ensures.low;
      those = λ p agrees.
          let so_far : Those c.args.set p c.squares.those i = c.squares.invariant.those p agrees in
          let there : is_in c.args.set c.known-s.result ≡ true = ap (is_in c.args.set) same ∙ so_far.next c.squares-test.true in
          let here : p i ≡ c.test.result = ap p (sym same) ∙ sym (agrees c.known-s.result c.test.result (omega arith) there c.test.ensures) in
          those-more c.args.set p c.squares.those c.with_if-those.result i c.next_from-i-in-squares.result c.test.result c.squares-test.true here (c.with_if-those.ensures ∙ ap (λ (s : ℕ). cond c.test.result (set c.squares.those s true) c.squares.those) same) (omega (arith, c.next_from-i-in-squares.ensures.high)) c.next_from-i-in-squares.ensures.none c.next_from-i-in-squares.ensures.found so_far;
    }

pub returns : goal.returns
returns g c = λ p agrees. those-end c.args.set p c.squares.those c.squares.i c.squares-test.false (c.squares.invariant.those p agrees)
