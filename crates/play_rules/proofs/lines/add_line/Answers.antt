use Rattle.std.proofs.Common.{◌≡◌, ℕ, ◌<◌, false, inl, inr, sym, ap, ◌∙◌, arith, rules}
use Rattle.std.proofs.lemmas.Bool.{cases_lt}
use Rattle.std.specs.Prelude.{is_some}
use Rattle.board_base.specs.Board.{at, is_empty}
use Rattle.board_base.specs.Attacks.{king_distance}
use Rattle.board_base.specs.Ways.{along}
use Rattle.board_base.proofs.KindsOfMen.{full-some}
use Rattle.board_base.proofs.Ways.{blocked, distance-high, distance-low, on-board}
use Rattle.play_rules.proofs.Ways.{nearer-more}
use Rattle.play_rules.proofs.lines.add_line.Goals as goal

pub loop-steps-init : goal.loop-steps-init
loop-steps-init c = (λ t had. had, λ t small lies clear near. absurd (let low = distance-low c.args.from t lies.apart in omega arith))

pub returns-in_default-clause-added : goal.returns-in_default-clause-added
returns-in_default-clause-added c = λ t small lies clear. elim (cases_lt (king_distance c.args.from t) c.loop-steps.steps) [
  | inl near ↦ c.loop-steps.invariant.1 t small lies clear near
  | inr far ↦ absurd (on-board c.args.direction c.args.from t c.loop-steps.steps small lies far c.in_default.ensures.off)
]

pub returns-then-is_some-clause-added : goal.returns-then-is_some-clause-added
returns-then-is_some-clause-added c = λ t small lies clear.
    let full : is_empty (at c.args.board.now (along c.args.direction c.args.from c.loop-steps.steps)) ≡ false =
    ap (λ (n : ℕ). is_empty (at c.args.board.now n)) (sym c.in-Some.ensures.value) ∙ full-some _ (ap is_some (sym c.at.ensures.man) ∙ sym c.is_some.ensures ∙ c.if-is_some.true) in
    nearer-more c.args.board.now c.args.direction c.args.from c.loop-steps.steps c.in-Some.to c.loop-steps.targets _ c.add.ensures.kept c.add.ensures.added c.in-Some.ensures.value c.loop-steps.invariant.1 t small lies clear
    (blocked c.args.board.now c.args.direction c.args.from c.loop-steps.steps t c.loop-steps.auto.steps full lies clear)

pub loop-steps-preserved : goal.loop-steps-preserved
loop-steps-preserved c =
    (λ t had. c.add.ensures.kept t (c.loop-steps.invariant.0 t had), nearer-more c.args.board.now c.args.direction c.args.from c.loop-steps.steps c.in-Some.to c.loop-steps.targets _ c.add.ensures.kept c.add.ensures.added c.in-Some.ensures.value c.loop-steps.invariant.1)

pub returns-clause-added : goal.returns-clause-added
returns-clause-added c = λ t small lies clear.
    let home : c.args.from < 64 = search rules in
    c.loop-steps.invariant.1 t small lies clear (let high = distance-high c.args.from t home small in omega arith)
