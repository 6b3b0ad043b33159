use Rattle.std.proofs.Common.{ap, ◌∙◌}
use Rattle.board_base.specs.Board.{Places}
use Rattle.men_account.specs.Account.{counts_of}
use Rattle.men_account.specs.declared.tallies.Allowance.{Allowance}
use Rattle.static_rules.specs.Left.{left_with, may_live}
use Rattle.static_rules.proofs.Left.{living-allowance}
use Rattle.static_rules.proofs.living_homes.living_allowance.Goals as goal

pub returns : goal.returns
returns c =
    c.with_pawns.ensures
    ∙ living-allowance c.args.odds c.args.board.now c.args.set c.args.side c.allowance.result.pawns c.counts-n.result (ap (λ (a : Allowance). a.pawns) c.allowance.ensures)
    (c.counts-n.ensures ∙ ap (counts_of c.args.side) (c.living.ensures ∙ ap (λ (first : Places). left_with (may_live c.args.side first c.args.board.now c.args.set) first) c.array_of.ensures))
