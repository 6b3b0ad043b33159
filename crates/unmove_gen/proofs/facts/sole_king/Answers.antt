use Rattle.std.proofs.Common.{◌≡◌, ℕ, ◌+◌, Bool, sym, ap, ◌∙◌, subst}
use Rattle.std.specs.Prelude.{Option, Some, None}
use Rattle.board_base.specs.Board.{at, is_the}
use Rattle.board_base.specs.declared.men.Kind.TheVariants.{King}
use Rattle.check_origins.proofs.Alone.{IsAlone, alone-found, alone-more, none-left}
use Rattle.unmove_gen.proofs.facts.sole_king.Goals as goal
use Rattle.unmove_gen.proofs.facts.sole_king.Goals.{then-is_the+else-is_some, else-is_the}

pub loop-i-preserved : goal.loop-i-preserved
loop-i-preserved c =
    let p : ℕ → Bool = λ s. is_the c.args.colour King (at c.args.board.now s) in
    let here : p c.loop-i.i ≡ c.is_the.result = sym (c.is_the.ensures ∙ ap (is_the c.args.colour King) (c.at.ensures.man ∙ ap (at c.args.board.now) c.known-s.ensures)) in
    elim c.if-is_the.branch [
      | then-is_the+else-is_some w ↦
          let none : c.loop-i.found ≡ None = none-left c.loop-i.found (sym w.is_some.ensures ∙ w.if-is_some.false) in
          let one : IsAlone (Some c.loop-i.i) p (c.loop-i.i + 1) = alone-found p c.loop-i.i (subst (λ (o : Option ℕ). IsAlone o p c.loop-i.i) none c.loop-i.invariant) (here ∙ w.if-is_the.true) in
          subst (λ (o : Option ℕ). IsAlone o p (c.loop-i.i + 1)) (sym (w.found-is ∙ ap Some c.known-s.ensures)) one
      | else-is_the w ↦ subst (λ (o : Option ℕ). IsAlone o p (c.loop-i.i + 1)) (sym w.found-is) (alone-more c.loop-i.found p c.loop-i.i c.loop-i.invariant (here ∙ w.if-is_the.false))
    ]
