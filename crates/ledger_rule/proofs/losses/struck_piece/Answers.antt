use Rattle.std.proofs.Common.{◌≡◌, ◌-◌, Bool, true, false, ℕ, List, ap, sym, ◌∙◌}
use Rattle.std.proofs.lemmas.Bool.{cond-true, cond-false}
use Rattle.board_base.specs.Board.{is_in}
use Rattle.cage_rules.specs.Regions.{region}
use Rattle.balance_rule.specs.Costs.{most_earned, never}
use Rattle.balance_rule.specs.LeastWays.{seen_by}
use Rattle.ledger_facts.specs.Accounts.{may_fall_on}
use Rattle.ledger_rule.proofs.Told.{falls-in}
use Rattle.ledger_rule.proofs.losses.struck_piece.Goals as goal

pub returns-then-meets-clause-value : goal.returns-then-meets-clause-value
returns-then-meets-clause-value c = λ o p ground home.
    let g = c.args.ground.now in
    let within : List Bool = region g.frozen (seen_by g.side c.args.f) in
    let may : may_fall_on g.frozen g.side (is_in within) ≡ true =
    sym (c.meets.ensures ∙ falls-in g.frozen g.exposed g.side ground.exposed c.region_at.result ∙ ap (λ (l : List Bool). may_fall_on g.frozen g.side (is_in l)) (c.region_at.ensures ∙ ground.regions c.args.f c.requires home)) ∙ c.if-meets.true in
    c.saturating_sub.ensures ∙ ap (λ (n : ℕ). 96 - n) (ground.most_at_home c.args.f c.requires home) ∙ sym (cond-true (may_fall_on g.frozen g.side (is_in within)) (96 - most_earned p g.frozen g.side (is_in within)) never may)

pub returns-else-meets-clause-value : goal.returns-else-meets-clause-value
returns-else-meets-clause-value c = λ o p ground home.
    let g = c.args.ground.now in
    let within : List Bool = region g.frozen (seen_by g.side c.args.f) in
    let none : may_fall_on g.frozen g.side (is_in within) ≡ false =
    sym (c.meets.ensures ∙ falls-in g.frozen g.exposed g.side ground.exposed c.region_at.result ∙ ap (λ (l : List Bool). may_fall_on g.frozen g.side (is_in l)) (c.region_at.ensures ∙ ground.regions c.args.f c.requires home)) ∙ c.if-meets.false in
    sym (cond-false (may_fall_on g.frozen g.side (is_in within)) (96 - most_earned p g.frozen g.side (is_in within)) never none)
