use Rattle.std.proofs.Common.{ap, ◌∙◌}
use Rattle.board_base.specs.Board.{array_of}
use Rattle.men_account.specs.Account.{counts_of}
use Rattle.men_account.proofs.Accounts.{as-begun}
use Rattle.men_account.proofs.allowances.allowance.Goals as goal

pub returns : goal.returns
returns c = as-begun c.args.side (array_of c.args.odds) c.counts-men.result (c.counts-men.ensures ∙ ap (counts_of c.args.side) c.array_of.ensures)
