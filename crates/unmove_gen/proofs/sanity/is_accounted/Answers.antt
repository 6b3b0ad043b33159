use Rattle.std.proofs.Common.{◌≡◌, ℕ, Bool, ◌&&◌, sym, ap, ◌∙◌, nat_le}
use Rattle.std.proofs.lemmas.Bool.{eq-eqb, ne_eqb}
use Rattle.men_account.specs.Account.{accounts_for, counts_of, excess_of}
use Rattle.men_account.specs.declared.tallies.Allowance.{Allowance}
use Rattle.men_account.specs.declared.tallies.Counts.{Counts}
use Rattle.play_rules.specs.Kings.{kings}
use Rattle.unmove_gen.proofs.PutCounts.{account-of}
use Rattle.unmove_gen.proofs.SaneGames.{men-kings}
use Rattle.unmove_gen.proofs.sanity.is_accounted.Goals as goal

pub returns-then-men-ne1 : goal.returns-then-men-ne1
returns-then-men-ne1 c =
    let other : kings c.args.side c.args.board.now ≡ 1 → ⊥ = λ e. c.if-men-ne1.true (ap (λ (n : Counts). n.kings) c.counts-men.ensures ∙ men-kings c.args.side c.args.board.now c.is_whole.ensures ∙ e) in
    sym (ap (λ (b : Bool). b && accounts_for c.args.odds c.args.board.now c.args.side) (ne_eqb (kings c.args.side c.args.board.now) 1 other))

pub returns : goal.returns
returns c =
    let one : kings c.args.side c.args.board.now ≡ 1 = sym (men-kings c.args.side c.args.board.now c.is_whole.ensures) ∙ ap (λ (n : Counts). n.kings) (sym c.counts-men.ensures) ∙ c.if-men-ne1.false in
    ap (λ (n : ℕ). nat_le n c.allowance-allowed.result.pawns) (c.excess.ensures ∙ ap (λ (n : Counts). excess_of n c.allowance-allowed.result) c.counts-men.ensures)
    ∙ ap (λ (a : Allowance). nat_le (excess_of (counts_of c.args.side c.args.board.now) a) a.pawns) c.allowance-allowed.ensures
    ∙ sym (account-of c.args.odds c.args.board.now c.args.side)
    ∙ sym (ap (λ (b : Bool). b && accounts_for c.args.odds c.args.board.now c.args.side) (eq-eqb _ 1 one))
