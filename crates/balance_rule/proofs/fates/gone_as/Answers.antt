use Rattle.std.proofs.Common.{◌≡◌, ◌+◌, ◌-◌, ℕ, false, ap, sym, ◌∙◌, arith}
use Rattle.std.proofs.lemmas.Bool.{cond-true, cond-false, le-leb}
use Rattle.board_base.specs.Board.{is_in, same_kind}
use Rattle.board_base.specs.declared.men.Kind.TheVariants.{Pawn}
use Rattle.balance_rule.specs.Costs.{never, pawn_gone}
use Rattle.balance_rule.specs.LeastWays.{seen_by}
use Rattle.balance_rule.proofs.fates.gone_as.Goals as goal

pub returns-then-n-ge8-clause-value : goal.returns-then-n-ge8-clause-value
returns-then-n-ge8-clause-value c = λ o p ground begins.
    let back : 8 + (c.args.n - 8) ≡ c.args.n = omega arith in
    let out : is_in c.args.ground.now.frozen (seen_by c.args.ground.now.side c.args.n) ≡ false = sym (c.has.ensures.member ∙ ap (is_in c.args.ground.now.frozen) c.seen_by.ensures) ∙ c.if-has.false in
    let here : is_in c.args.ground.now.frozen (seen_by c.args.ground.now.side (8 + (c.args.n - 8))) ≡ false = ap (λ (k : ℕ). is_in c.args.ground.now.frozen (seen_by c.args.ground.now.side k)) back ∙ out in
    c.pawn_gone.ensures.value o p ground here ∙ ap (λ (k : ℕ). pawn_gone p c.args.ground.now.frozen c.args.ground.now.side (seen_by c.args.ground.now.side k)) back
    ∙ sym (cond-false (is_in c.args.ground.now.frozen (seen_by c.args.ground.now.side c.args.n)) never _ out ∙ cond-true (same_kind c.args.first Pawn) _ _ (begins.pawn ∙ le-leb 8 c.args.n c.if-n-ge8.true))
