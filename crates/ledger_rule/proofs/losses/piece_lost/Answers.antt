use Rattle.std.proofs.Common.{◌≡◌, ◌-◌, Bool, true, false, ◌||◌, ℕ, cond, ap, sym, rules, ◌∙◌}
use Rattle.std.proofs.lemmas.Bool.{cond-true, cond-false, or_left, or_right}
use Rattle.board_base.specs.Board.{is_in, same_kind}
use Rattle.board_base.specs.declared.men.Kind.TheVariants.{King}
use Rattle.cage_rules.specs.Regions.{region}
use Rattle.balance_rule.specs.Costs.{most_earned, never}
use Rattle.balance_rule.specs.LeastWays.{seen_by}
use Rattle.ledger_facts.specs.Accounts.{may_fall_on}
use Rattle.ledger_rule.proofs.losses.piece_lost.Goals as goal

pub returns-then-promoted-clause-value : goal.returns-then-promoted-clause-value
returns-then-promoted-clause-value c = λ o p ground begins. sym (cond-true (c.args.promoted || same_kind c.args.first King) never _ (or_left c.args.promoted (same_kind c.args.first King) c.if-promoted.true))

pub returns-then-eq-clause-value : goal.returns-then-eq-clause-value
returns-then-eq-clause-value c = λ o p ground begins.
    let king : same_kind c.args.first King ≡ true = search rules in
    sym (cond-true (c.args.promoted || same_kind c.args.first King) never _ (or_right c.args.promoted (same_kind c.args.first King) king))

pub returns-then-struck-clause-value : goal.returns-then-struck-clause-value
returns-then-struck-clause-value c = λ o p ground begins.
    let g = c.args.ground.now in
    let no_king : same_kind c.args.first King ≡ false = search rules in
    let neither : (c.args.promoted || same_kind c.args.first King) ≡ false = ap (λ (b : Bool). b || same_kind c.args.first King) c.if-promoted.false ∙ no_king in
    let taken : ℕ = cond (may_fall_on g.frozen g.side (is_in (region g.frozen (seen_by g.side c.args.f)))) (96 - most_earned p g.frozen g.side (is_in (region g.frozen (seen_by g.side c.args.f)))) never in
    c.struck_piece.ensures.value o p ground (begins.officer c.requires no_king) ∙ sym (cond-true c.args.struck taken 96 c.if-struck.true) ∙ sym (cond-false (c.args.promoted || same_kind c.args.first King) never (cond c.args.struck taken 96) neither)

pub returns-else-struck-clause-value : goal.returns-else-struck-clause-value
returns-else-struck-clause-value c = λ o p ground begins.
    let g = c.args.ground.now in
    let no_king : same_kind c.args.first King ≡ false = search rules in
    let neither : (c.args.promoted || same_kind c.args.first King) ≡ false = ap (λ (b : Bool). b || same_kind c.args.first King) c.if-promoted.false ∙ no_king in
    let taken : ℕ = cond (may_fall_on g.frozen g.side (is_in (region g.frozen (seen_by g.side c.args.f)))) (96 - most_earned p g.frozen g.side (is_in (region g.frozen (seen_by g.side c.args.f)))) never in
    sym (cond-false c.args.struck taken 96 c.if-struck.false) ∙ sym (cond-false (c.args.promoted || same_kind c.args.first King) never (cond c.args.struck taken 96) neither)
