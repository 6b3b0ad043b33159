use Rattle.std.proofs.Common.{◌≡◌, ◌+◌, ◌-◌, ◌*◌, ◌≤◌, ◌<◌, ℕ, min, arith, sym, ◌∙◌, ap, subst, slice_index}
use Rattle.board_base.specs.Board.{is_in}
use Rattle.balance_rule.specs.LeastWays.{seen_by}
use Rattle.balance_rule.specs.NextWays.{IsReachTo}
use Rattle.balance_rule.specs.declared.reaches.Reach.{Reach}
use Rattle.balance_rule.proofs.Growing.{so-far-beside, so-far-more, so-far-skip}
use Rattle.balance_rule.proofs.reaches.add_rank.Goals as goal
use Rattle.balance_rule.proofs.reaches.add_rank.Goals.{then-not-has, else-not-has}

pub loop-file-init : goal.loop-file-init
loop-file-init c = λ p known tariff before. so-far-beside p _ _ _ _ _ _ c.requires.last (omega arith) (λ k from below near. omega (arith, near.left)) before

pub loop-file-preserved : goal.loop-file-preserved
loop-file-preserved c = λ p known tariff before.
    let right : c.min-right.result ≡ min (c.args.home - 8 + c.args.rank) 8 = c.min-right.ensures in
    let i : ℕ = 8 * c.args.rank + c.loop-file.file in
    let ahead : 16 ≤ i = omega (arith, c.requires.ahead) in
    let file : c.loop-file.file < 8 = omega (arith, right, c.loop-file-test.true) in
    let inside : i < 64 = omega (arith, c.requires.inside, file) in
    let next : i + 1 ≡ 8 * c.args.rank + (c.loop-file.file + 1) = omega arith in
    let member : c.has.result ≡ is_in c.args.frozen (seen_by c.args.side i) = c.has.ensures.member ∙ ap (is_in c.args.frozen) c.seen_by.ensures in
    let numbers = tariff i inside in
    let far = c.loop-file.invariant p known tariff before in
    subst (IsReachTo p c.args.frozen c.args.side c.args.home c.if-not-has.reach) next
    (elim c.if-not-has.branch [
      | then-not-has w ↦
          so-far-more p c.args.frozen c.args.side c.args.home c.loop-file.reach c.if-not-has.reach i (slice_index c.args.tariff.now.take i) (slice_index c.args.tariff.now.gate i) c.requires.last ahead inside (sym member ∙ w.if-not-has.true) known numbers.take_is numbers.gate_is
          (ap (λ (r : Reach). r.straight) w.reach-is ∙ w.add_square.ensures.straight) (ap (λ (r : Reach). r.aside) w.reach-is ∙ w.add_square.ensures.aside) far
      | else-not-has w ↦
          subst (λ (r : Reach). IsReachTo p c.args.frozen c.args.side c.args.home r (i + 1)) (sym w.reach-is)
          (so-far-skip p c.args.frozen c.args.side c.args.home c.loop-file.reach i c.requires.last ahead inside (sym member ∙ w.if-not-has.false) far)
    ])

pub returns : goal.returns
returns c = λ p known tariff before.
    let right : c.min-right.result ≡ min (c.args.home - 8 + c.args.rank) 8 = c.min-right.ensures in
    let left : c.saturating_sub-left.result ≡ (c.args.home - 8) - (c.args.rank - 1) = c.saturating_sub-left.ensures in
    let order : c.saturating_sub-left.result ≤ c.min-right.result = omega (arith, left, right, c.requires.last, c.requires.ahead) in
    let past : c.loop-file.file ≤ c.min-right.result = c.loop-file.auto.file-end order in
    so-far-beside p _ _ _ _ _ _ c.requires.last (omega (arith, past, right)) (λ k from below near. omega (arith, c.loop-file-test.false, right, c.requires.first, c.requires.ahead, near.right, from, below)) (c.loop-file.invariant p known tariff before)
