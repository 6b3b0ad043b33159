use Rattle.std.proofs.Common.{◌≡◌, ℕ, Bool, List, [], length, get_or, min, slice_index, arith, sym, ap, subst, ◌∙◌, ◌+◌}
use Rattle.board_base.specs.Board.{is_in}
use Rattle.men_fates.specs.Ways.{toll}
use Rattle.capture_prices.specs.Prices.{gate, take}
use Rattle.balance_rule.specs.LeastWays.{IsLeast, toll_of}
use Rattle.balance_rule.proofs.Brought.{by-all, by-more, by-none, by-same, by_files}
use Rattle.balance_rule.proofs.Filled.{any-default}
use Rattle.balance_rule.proofs.fates.toll_promoted.Goals as goal
use Rattle.balance_rule.proofs.fates.toll_promoted.Goals.{then-has, else-has}

pub loop-f-init : goal.loop-f-init
loop-f-init c = record { small = omega arith; least = λ p set c' kind h inside reach officer are. by-none p set c' kind h c.args.s inside officer }

pub loop-f-preserved : goal.loop-f-preserved
loop-f-preserved c =
    let f : ℕ = c.loop-f.f in
    let size : length c.args.regions.now ≡ 8 = c.type_inv.regions in
    let member : c.has.result ≡ is_in (get_or c.args.regions.now f []) c.args.s = c.has.ensures.member ∙ ap (λ (l : List Bool). is_in l c.args.s) (any-default c.args.regions.now f _ [] (omega arith)) in
    elim c.if-has.branch [
      | then-has w ↦
          let e : c.if-has.least ≡ min (toll_of (slice_index c.args.reach.now.straight (56 + f)) (slice_index c.args.reach.now.aside (56 + f))) c.loop-f.least = w.least-is ∙ w.min-least.ensures ∙ ap (λ (n : ℕ). min n c.loop-f.least) w.toll_at.ensures in
          record {
            small = omega (arith, e, c.loop-f.invariant.small);
            least = λ p set c' kind h inside reach officer are.
                subst (IsLeast c' set h (by_files set c' h kind c.args.s (f + 1)) (toll (take p c') (gate p) h)) (sym e)
                (by-more p set c' kind h c.args.s inside officer c.args.reach.now c.args.regions.now f c.loop-f.least c.loop-f-test.true reach are (sym member ∙ w.if-has.true) (c.loop-f.invariant.least p set c' kind h inside reach officer are));
          }
      | else-has w ↦
          record {
            small = omega (arith, w.least-is, c.loop-f.invariant.small);
            least = λ p set c' kind h inside reach officer are.
                subst (IsLeast c' set h (by_files set c' h kind c.args.s (f + 1)) (toll (take p c') (gate p) h)) (sym w.least-is)
                (by-same p set c' kind h c.args.s inside officer c.args.regions.now f c.loop-f.least c.loop-f-test.true are (sym member ∙ w.if-has.false) (c.loop-f.invariant.least p set c' kind h inside reach officer are));
          }
    ]

pub returns-clause-least : goal.returns-clause-least
returns-clause-least c = λ p set c' kind h inside reach officer are. by-all p set c' kind h c.args.s inside officer c.loop-f.f c.loop-f.least (omega arith) (c.loop-f.invariant.least p set c' kind h inside reach officer are)
