use Rattle.std.proofs.Common.{ℕ, ◌≡◌, ◌+◌, ◌<◌, ◌∙◌, ap, sym, subst, arith, false, List, length, slice_index_or}
use Rattle.std.proofs.lemmas.Bool.{both_ways}
use Rattle.std.proofs.lemmas.List.{length-set}
use Rattle.board_base.specs.Board.{is_in}
use Rattle.balance_rule.specs.declared.reaches.Reach.{Reach}
use Rattle.balance_rule.specs.LeastWays.{IsReach, seen_by}
use Rattle.balance_rule.proofs.Filled.{each-more, each-same}
use Rattle.balance_rule.proofs.reaches.reaches_of.Goals as goal
use Rattle.balance_rule.proofs.reaches.reaches_of.Goals.{then-not-has, else-not-has}

pub loop-f-preserved : goal.loop-f-preserved
loop-f-preserved c =
    let member : c.has.result ≡ is_in c.args.frozen (seen_by c.args.side (8 + c.loop-f.f)) = c.has.ensures.member ∙ ap (is_in c.args.frozen) c.seen_by.ensures in
    elim c.if-not-has.branch [
      | then-not-has w ↦ record {
        size = ap (λ (l : List Reach). length l) w.reaches-is ∙ length-set c.loop-f.reaches c.loop-f.f w.reach_from.result ∙ c.loop-f.invariant.size;
        done = λ p known tariff.
            subst (λ (l : List Reach). (f : ℕ) (none : Reach) → f < c.loop-f.f + 1 → is_in c.args.frozen (seen_by c.args.side (8 + f)) ≡ false → IsReach p c.args.frozen c.args.side (seen_by c.args.side (8 + f)) (slice_index_or l f none)) (sym w.reaches-is)
            (each-more (λ (f : ℕ) (r : Reach). is_in c.args.frozen (seen_by c.args.side (8 + f)) ≡ false → IsReach p c.args.frozen c.args.side (seen_by c.args.side (8 + f)) r) c.loop-f.reaches c.loop-f.f w.reach_from.result (omega (arith, c.loop-f.invariant.size, c.loop-f-test.true))
            (c.loop-f.invariant.done p known tariff) (λ out. w.reach_from.ensures p known tariff));
      }
      | else-not-has w ↦ record {
        size = ap (λ (l : List Reach). length l) w.reaches-is ∙ c.loop-f.invariant.size;
        done = λ p known tariff.
            subst (λ (l : List Reach). (f : ℕ) (none : Reach) → f < c.loop-f.f + 1 → is_in c.args.frozen (seen_by c.args.side (8 + f)) ≡ false → IsReach p c.args.frozen c.args.side (seen_by c.args.side (8 + f)) (slice_index_or l f none)) (sym w.reaches-is)
            (each-same (λ (f : ℕ) (r : Reach). is_in c.args.frozen (seen_by c.args.side (8 + f)) ≡ false → IsReach p c.args.frozen c.args.side (seen_by c.args.side (8 + f)) r) c.loop-f.reaches c.loop-f.f (c.loop-f.invariant.done p known tariff)
            (λ none out. absurd (both_ways _ out (sym member ∙ w.if-not-has.false))));
      }
    ]
