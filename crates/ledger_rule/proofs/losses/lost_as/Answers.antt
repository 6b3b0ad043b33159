use Rattle.std.proofs.Common.{◌≡◌, ◌+◌, ◌-◌, ◌<◌, ℕ, false, ap, sym, ◌∙◌, arith}
use Rattle.std.proofs.lemmas.Bool.{cond-true, cond-false, false_from_ne_true, le-leb, leb-true}
use Rattle.std.specs.Prelude.{nat_le}
use Rattle.board_base.specs.Board.{is_in, same_kind}
use Rattle.board_base.specs.declared.men.Kind.TheVariants.{Pawn}
use Rattle.balance_rule.specs.Costs.{never}
use Rattle.balance_rule.specs.LeastWays.{seen_by}
use Rattle.ledger_facts.specs.Accounts.{pawn_lost}
use Rattle.ledger_rule.proofs.losses.lost_as.Goals as goal

pub returns-then-n-ge8-clause-value : goal.returns-then-n-ge8-clause-value
returns-then-n-ge8-clause-value c = λ o p ground begins.
    let g = c.args.ground.now in
    let back : 8 + (c.args.n - 8) ≡ c.args.n = omega arith in
    let out : is_in g.frozen (seen_by g.side c.args.n) ≡ false = sym (c.has.ensures.member ∙ ap (is_in g.frozen) c.seen_by.ensures) ∙ c.if-has.false in
    let here : is_in g.frozen (seen_by g.side (8 + (c.args.n - 8))) ≡ false = ap (λ (k : ℕ). is_in g.frozen (seen_by g.side k)) back ∙ out in
    c.pawn_lost.ensures.value o p ground here ∙ ap (λ (k : ℕ). pawn_lost c.args.promoted c.args.struck p g.frozen g.side (seen_by g.side k)) back
    ∙ sym (cond-false (is_in g.frozen (seen_by g.side c.args.n)) never _ out ∙ cond-true (same_kind c.args.first Pawn) _ _ (begins.pawn ∙ le-leb 8 c.args.n c.if-n-ge8.true))

pub returns-else-n-ge8-clause-value : goal.returns-else-n-ge8-clause-value
returns-else-n-ge8-clause-value c = λ o p ground begins.
    let g = c.args.ground.now in
    let low : c.args.n < 8 = omega arith in
    let out : is_in g.frozen (seen_by g.side c.args.n) ≡ false = sym (c.has.ensures.member ∙ ap (is_in g.frozen) c.seen_by.ensures) ∙ c.if-has.false in
    let piece : same_kind c.args.first Pawn ≡ false = begins.pawn ∙ false_from_ne_true (nat_le 8 c.args.n) (λ high. omega (arith, leb-true 8 c.args.n high)) in
    c.piece_lost.ensures.value o p ground begins ∙ sym (cond-false (is_in g.frozen (seen_by g.side c.args.n)) never _ out ∙ cond-false (same_kind c.args.first Pawn) _ _ piece)
