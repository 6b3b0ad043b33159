use Rattle.std.proofs.Common.{◌∙◌, ◌&&◌, ◌||◌, ℕ, Bool, ap, sym}
use Rattle.std.proofs.lemmas.Bool.{cond-true, cond-false}
use Rattle.std.specs.Prelude.{Option, Some}
use Rattle.board_base.specs.Board.{is_in, man, same_kind}
use Rattle.board_base.specs.declared.men.Kind.TheVariants.{King}
use Rattle.board_base.specs.declared.men.Man.{Man}
use Rattle.balance_rule.specs.Costs.{never}
use Rattle.balance_rule.specs.LeastWays.{seen_by}
use Rattle.figures.specs.Figures.{may_be}
use Rattle.sketch_account.specs.Coming.{is_free}
use Rattle.sketch_account.proofs.Aiming.{any-board}
use Rattle.sketch_account.proofs.Comers.{comes-piece}
use Rattle.sketch_account.proofs.RowsMade.{same-man}
use Rattle.sketch_account.proofs.rows.piece_cost.Goals as goal

pub returns-then-x-may_be-clause-value : goal.returns-then-x-may_be-clause-value
returns-then-x-may_be-clause-value c = λ o p R l m ground comer there colour kind piece out.
    let g = c.args.ground.now in
    let x = c.args.x.now in
    let h : ℕ = seen_by g.base.side c.args.f in
    let place = c.has_place-place.ensures o p R m ground there kind piece
    ∙ any-board (λ s. is_in x.free s && (same_kind c.args.first King || R (Some m) h s)) (λ s. is_free g.base.frozen x.figure s && (same_kind c.args.first King || R (man g.base.side c.args.first) h s)) (λ s inside.
    ap (λ (b : Bool). b && (same_kind c.args.first King || R (Some m) h s)) (comer.free s inside) ∙ ap (λ (y : Option Man). is_free g.base.frozen x.figure s && (same_kind c.args.first King || R y h s)) (same-man m g.base.side c.args.first colour kind)) in
    comes-piece p g.base.frozen R g.base.side l h x.figure out c.args.first x.manner.plain c.has_place-place.result 96 piece comer.manner.plain place
    (sym (cond-true (x.manner.plain && may_be x.figure c.args.first && c.has_place-place.result) 96 never (ap (λ (b : Bool). x.manner.plain && b && c.has_place-place.result) (sym c.may_be-may_be.ensures) ∙ c.if-x-may_be.true)))

pub returns-else-x-may_be-clause-value : goal.returns-else-x-may_be-clause-value
returns-else-x-may_be-clause-value c = λ o p R l m ground comer there colour kind piece out.
    let g = c.args.ground.now in
    let x = c.args.x.now in
    let h : ℕ = seen_by g.base.side c.args.f in
    let place = c.has_place-place.ensures o p R m ground there kind piece
    ∙ any-board (λ s. is_in x.free s && (same_kind c.args.first King || R (Some m) h s)) (λ s. is_free g.base.frozen x.figure s && (same_kind c.args.first King || R (man g.base.side c.args.first) h s)) (λ s inside.
    ap (λ (b : Bool). b && (same_kind c.args.first King || R (Some m) h s)) (comer.free s inside) ∙ ap (λ (y : Option Man). is_free g.base.frozen x.figure s && (same_kind c.args.first King || R y h s)) (same-man m g.base.side c.args.first colour kind)) in
    comes-piece p g.base.frozen R g.base.side l h x.figure out c.args.first x.manner.plain c.has_place-place.result never piece comer.manner.plain place
    (sym (cond-false (x.manner.plain && may_be x.figure c.args.first && c.has_place-place.result) 96 never (ap (λ (b : Bool). x.manner.plain && b && c.has_place-place.result) (sym c.may_be-may_be.ensures) ∙ c.if-x-may_be.false)))
