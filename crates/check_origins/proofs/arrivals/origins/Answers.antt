use Rattle.std.proofs.Common.{◌≡◌, ℕ, ◌+◌, ◌<◌, ◌≤◌, Bool, sym, ap, ◌∙◌, subst, arith}
use Rattle.std.specs.Prelude.{Option, Some, None}
use Rattle.check_origins.specs.Near.{is_near_checker}
use Rattle.check_origins.proofs.Alone.{IsAlone, alone-found, alone-more, none-left}
use Rattle.check_origins.proofs.Found.{found-passes, no-check, none-near, one-near, two-near}
use Rattle.check_origins.proofs.arrivals.origins.Goals as goal
use Rattle.check_origins.proofs.arrivals.origins.Goals.{then-is_near_checker+else-is_some, else-is_near_checker}

pub returns-then-not-in_check : goal.returns-then-not-in_check
returns-then-not-in_check c =
    none-near c.args.board.now c.args.turn c.all_squares.result c.all_squares.ensures.size c.all_squares.ensures.all (no-check c.args.board.now c.args.turn (sym c.in_check.ensures ∙ c.if-not-in_check.true))

pub loop-i-preserved : goal.loop-i-preserved
loop-i-preserved c =
    let p : ℕ → Bool = λ s. is_near_checker c.args.board.now c.args.turn s in
    let here : p c.loop-i.i ≡ c.is_near_checker.result = sym (c.is_near_checker.ensures ∙ ap p c.known-s.ensures) in
    elim c.if-is_near_checker.branch [
      | then-is_near_checker+else-is_some w ↦
          let none : c.loop-i.found ≡ None = none-left c.loop-i.found (sym w.is_some.ensures ∙ w.if-is_some.false) in
          let one : IsAlone (Some c.loop-i.i) p (c.loop-i.i + 1) = alone-found p c.loop-i.i (subst (λ (o : Option ℕ). IsAlone o p c.loop-i.i) none c.loop-i.invariant) (here ∙ w.if-is_near_checker.true) in
          subst (λ (o : Option ℕ). IsAlone o p (c.loop-i.i + 1)) (sym (w.found-is ∙ ap Some c.known-s.ensures)) one
      | else-is_near_checker w ↦ subst (λ (o : Option ℕ). IsAlone o p (c.loop-i.i + 1)) (sym w.found-is) (alone-more c.loop-i.found p c.loop-i.i c.loop-i.invariant (here ∙ w.if-is_near_checker.false))
    ]

pub returns-then-is_some : goal.returns-then-is_some
returns-then-is_some c =
    let p : ℕ → Bool = λ s. is_near_checker c.args.board.now c.args.turn s in
    let w = found-passes c.loop-i.found p c.loop-i.i (sym c.is_some.ensures ∙ c.if-is_some.true) c.loop-i.invariant in
    let below : c.loop-i.i < 64 = c.loop-i-test.true in
    two-near c.args.board.now c.args.turn c.no_squares.result w.0 c.loop-i.i c.no_squares.ensures.size w.1 below c.no_squares.ensures.none w.2 (sym (c.is_near_checker.ensures ∙ ap p c.known-s.ensures) ∙ c.if-is_near_checker.true)

pub returns-in-Some : goal.returns-in-Some
returns-in-Some c =
    let p : ℕ → Bool = λ s. is_near_checker c.args.board.now c.args.turn s in
    let high : c.loop-i.i ≤ 64 = c.loop-i.auto.i-end in
    let low : 64 ≤ c.loop-i.i = c.loop-i-test.false in
    let alone : IsAlone (Some c.in-Some.s) p c.loop-i.i = subst (λ (o : Option ℕ). IsAlone o p c.loop-i.i) c.in-Some.is c.loop-i.invariant in
    let inside : c.in-Some.s < c.loop-i.i = alone.0 in
    one-near c.args.board.now c.args.turn c.only_square.result c.in-Some.s c.only_square.ensures.size (omega arith) c.only_square.ensures.one (λ s small. alone.1 s (omega arith))

pub returns-in-None : goal.returns-in-None
returns-in-None c =
    let p : ℕ → Bool = λ s. is_near_checker c.args.board.now c.args.turn s in
    let low : 64 ≤ c.loop-i.i = c.loop-i-test.false in
    let alone : IsAlone None p c.loop-i.i = subst (λ (o : Option ℕ). IsAlone o p c.loop-i.i) c.in-None.is c.loop-i.invariant in
    none-near c.args.board.now c.args.turn c.all_squares-in-None.result c.all_squares-in-None.ensures.size c.all_squares-in-None.ensures.all (λ s small. alone s (omega arith))
