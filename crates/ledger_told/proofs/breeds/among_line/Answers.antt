use Rattle.std.proofs.Common.{ap, ◌∙◌, cond, ℕ}
use Rattle.std.specs.Prelude.{◌-◌, None, Some, nat_lt}
use Rattle.ledger_lines.specs.Known.{piece_homes}
use Rattle.ledger_lines.specs.declared.lines.Line.TheVariants.{Among}
use Rattle.ledger_told.proofs.breeds.among_line.Goals as goal

pub returns : goal.returns
returns c =
    let homes : ℕ = piece_homes c.args.query.now c.args.ledger.now c.unsure-set.result in (
      c.unsure-set.result,
      c.unsure-set.ensures,
      c.line_if.ensures
          ∙ ap (λ (n : ℕ). cond (nat_lt n c.number_in-men.result) (Some (Among (c.number_in-men.result - n) c.unsure-set.result)) None) c.piece_homes-homes.ensures
          ∙ ap (λ (n : ℕ). cond (nat_lt homes n) (Some (Among (n - homes) c.unsure-set.result)) None) c.number_in-men.ensures,
    )
