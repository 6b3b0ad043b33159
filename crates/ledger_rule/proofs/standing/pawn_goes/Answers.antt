use Rattle.std.proofs.Common.{◌+◌, ◌≤◌, Bool, refl, ap, sym, ◌∙◌, arith}
use Rattle.balance_rule.specs.LeastWays.{seen_by}
use Rattle.balance_rule.proofs.Seen.{home-inside}
use Rattle.ledger_facts.specs.Accounts.{pawn_goes}
use Rattle.ledger_rule.proofs.Ways.{aside-made, last-made, straight-made}
use Rattle.ledger_rule.proofs.standing.pawn_goes.Goals as goal

pub returns-then-i-ge56-clause-value : goal.returns-then-i-ge56-clause-value
returns-then-i-ge56-clause-value c = λ o p ground out.
    let g = c.args.ground.now in
    let high : 56 ≤ seen_by g.side c.args.s = omega (arith, c.number_of-i.ensures.value, c.if-i-ge56.true) in
    last-made p g.frozen g.side (seen_by g.side (8 + c.args.f)) (home-inside g.side c.args.f c.requires) c.args.straight c.args.s _ c.number_of-i.ensures.on_board high refl

pub returns-then-straight-clause-value : goal.returns-then-straight-clause-value
returns-then-straight-clause-value c = λ o p ground out.
    let g = c.args.ground.now in
    straight-made p g.frozen g.side (seen_by g.side (8 + c.args.f)) (home-inside g.side c.args.f c.requires) c.args.s c.number_of-i.result _ _ c.capped_sum.result c.number_of-i.ensures.on_board c.number_of-i.ensures.value (omega arith) (ground.reaches c.args.f _ c.requires out c.number_of-i.result c.number_of-i.ensures.inside) c.capped_sum.ensures ∙ ap (λ (b : Bool). pawn_goes b p g.frozen g.side (seen_by g.side (8 + c.args.f)) c.args.s) (sym c.if-straight.true)

pub returns-else-straight-clause-value : goal.returns-else-straight-clause-value
returns-else-straight-clause-value c = λ o p ground out.
    let g = c.args.ground.now in
    aside-made p g.frozen g.side (seen_by g.side (8 + c.args.f)) (home-inside g.side c.args.f c.requires) c.args.s c.number_of-i.result _ _ c.capped_sum-else-straight.result c.number_of-i.ensures.on_board c.number_of-i.ensures.value (omega arith) (ground.reaches c.args.f _ c.requires out c.number_of-i.result c.number_of-i.ensures.inside) c.capped_sum-else-straight.ensures ∙ ap (λ (b : Bool). pawn_goes b p g.frozen g.side (seen_by g.side (8 + c.args.f)) c.args.s) (sym c.if-straight.false)
