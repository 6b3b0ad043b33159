use Rattle.std.proofs.Common.{◌≡◌, ◌∙◌, ℕ, cond, ap, sym, refl, arith}
use Rattle.std.specs.List.{range_with_len, sum_by}
use Rattle.ledger_lines.specs.Known.{is_other_pawn, least_taken, taken_by_others}
use Rattle.ledger_lines.proofs.Counted.{sum-chosen, sum-more}
use Rattle.ledger_lines.proofs.captors.taken_by_others.Goals as goal

pub loop-i-preserved : goal.loop-i-preserved
loop-i-preserved c =
    let f : ℕ → ℕ = λ t. cond (is_other_pawn c.args.query.now c.args.side c.args.s t) (least_taken c.args.query.now c.args.ledger.now t) 0 in
    let few = c.taken_by_other-sum.ensures.few in
    let so_far = c.loop-i.invariant.few in
    record {
      number = sum-more f c.loop-i.i c.known.result c.loop-i.sum c.taken_by_other-sum.result _ c.loop-i.invariant.number c.known.ensures c.taken_by_other-sum.ensures.number refl;
      few = omega arith;
    }

pub returns : goal.returns
unfolding taken_by_others
returns c =
    let f : ℕ → ℕ = λ t. cond (is_other_pawn c.args.query.now c.args.side c.args.s t) (least_taken c.args.query.now c.args.ledger.now t) 0 in
    let whole : c.loop-i.i ≡ 64 = omega arith in
    let so_far = c.loop-i.invariant.few in
    record {
      number = c.loop-i.invariant.number ∙ ap (λ (n : ℕ). sum_by f (range_with_len 0 n)) whole ∙ sym (sum-chosen (least_taken c.args.query.now c.args.ledger.now) (is_other_pawn c.args.query.now c.args.side c.args.s) (range_with_len 0 64));
      few = omega arith;
    }
