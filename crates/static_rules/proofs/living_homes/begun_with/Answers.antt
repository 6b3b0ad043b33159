use Rattle.std.proofs.Common.{List, Bool, ap, sym, ◌∙◌}
use Rattle.board_base.specs.Board.{array_of}
use Rattle.men_account.proofs.FirstMen.{sixteen}
use Rattle.men_account.specs.Account.{is_any}
use Rattle.men_account.specs.Homes.{men_of}
use Rattle.static_rules.proofs.living_homes.begun_with.Goals as goal

pub returns-then-is_none-clause-number : goal.returns-then-is_none-clause-number
returns-then-is_none-clause-number c = sym (ap (λ (o : List Bool). men_of c.args.side is_any (array_of o)) (c.is_none.ensures.0 c.if-is_none.true) ∙ sixteen c.args.side)
