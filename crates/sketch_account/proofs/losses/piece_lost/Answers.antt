use Rattle.std.proofs.Common.{◌≡◌, ◌-◌, ◌∙◌, ℕ, true, false, rules, ap, sym}
use Rattle.std.proofs.lemmas.Bool.{cond-true, cond-false}
use Rattle.std.specs.Prelude.{Option}
use Rattle.board_base.specs.Board.{same_kind}
use Rattle.board_base.specs.Legal.{is_officer}
use Rattle.board_base.specs.declared.men.Kind.TheVariants.{King}
use Rattle.board_base.specs.declared.men.Man.{Man}
use Rattle.balance_rule.specs.Costs.{most_earned, never}
use Rattle.balance_rule.specs.LeastWays.{seen_by}
use Rattle.sketch_account.proofs.RowsMade.{same-man}
use Rattle.sketch_account.proofs.losses.piece_lost.Goals as goal
use Rattle.balance_rule.proofs.StandingMen.{is-officer}

pub returns-then-eq-clause-value : goal.returns-then-eq-clause-value
returns-then-eq-clause-value c = λ o p R m ground there colour kind piece.
    let king : same_kind c.args.first King ≡ true = search rules in
    sym (cond-true (same_kind c.args.first King) never _ king)

pub returns-else-eq-clause-value : goal.returns-else-eq-clause-value
returns-else-eq-clause-value c = λ o p R m ground there colour kind piece.
    let g = c.args.ground.now in
    let no_king : same_kind c.args.first King ≡ false = search rules in
    let officer : is_officer m.kind ≡ true = ap is_officer kind ∙ is-officer c.args.first piece no_king in
    c.saturating_sub.ensures ∙ ap (λ (n : ℕ). 96 - n) (ground.most_at_home c.args.f m c.requires there officer ∙ ap (λ (y : Option Man). most_earned p g.base.frozen g.base.side (R y (seen_by g.base.side c.args.f))) (same-man m g.base.side c.args.first colour kind))
    ∙ sym (cond-false (same_kind c.args.first King) never _ no_king)
