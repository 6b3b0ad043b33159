use Rattle.std.proofs.Common.{◌≡◌, ℕ, ◌+◌, ◌<◌, not, inl, inr, sym, ap, ◌∙◌, subst, arith}
use Rattle.std.proofs.lemmas.Bool.{cases_lt}
use Rattle.std.specs.Prelude.{Some}
use Rattle.board_base.specs.Board.{is_empty}
use Rattle.board_base.proofs.KindsOfMen.{full-some}
use Rattle.unmove_gen.specs.Ways.{IsNoWay}
use Rattle.unmove_gen.proofs.ways.next_way.Goals as goal

pub loop-s-init : goal.loop-s-init
loop-s-init c = record {
  high = c.next_from-s.ensures.high;
  low = c.next_from-s.ensures.low;
  none = λ k low high. let end = c.next_from-s.ensures.low in inr (λ promo. c.ways_of-ways.ensures k (omega arith) (c.next_from-s.ensures.none k low high) promo);
}

pub loop-s-preserved : goal.loop-s-preserved
loop-s-preserved c =
    let P : ℕ → Type 0 = λ k. IsNoWay c.args.board.now (Some c.args.man) c.args.to k in
    let here : P c.known.result = inl (ap is_empty (sym c.at.ensures.man) ∙ full-some c.at.result (c.is_none.ensures ∙ ap not c.if-is_none.false)) in
    let top : c.loop-s.s < 64 = c.loop-s-test.true in
    let first = c.loop-s.invariant.high in
    let high = c.next_from-s-in-loop-s.ensures.high in
    let low = c.next_from-s-in-loop-s.ensures.low in
    record {
      high = omega arith;
      low = low;
      none = λ k from to. elim (cases_lt k c.loop-s.s) [
        | inl near ↦ c.loop-s.invariant.none k from near
        | inr far ↦ elim (cases_lt k (c.loop-s.s + 1)) [
          | inl this ↦ let same : c.loop-s.s ≡ k = omega arith in subst P (c.known.ensures ∙ same) here
          | inr past ↦ inr (λ promo. c.ways_of-ways.ensures k (omega arith) (c.next_from-s-in-loop-s.ensures.none k past to) promo)
        ]
      ];
    }
