use Rattle.std.proofs.Common.{Bool, ◌&&◌, not, ap, ◌∙◌}
use Rattle.board_base.specs.declared.men.Kind.TheVariants.{Pawn}
use Rattle.query_base.specs.Asked.{Asked}
use Rattle.unmove_gen.specs.Plain.{starts_on_end}
use Rattle.unmove_gen.proofs.Comes.{same-man}
use Rattle.unmove_gen.proofs.captures.comes_taking.Goals as goal

pub returns-in_default : goal.returns-in_default
returns-in_default c =
    let q : Asked = c.args.query.now in
    c.requires.quiet
    ∙ ap (λ (b : Bool). b && not (starts_on_end q.board c.args.m.now)) (same-man q.turn Pawn q.board c.args.m.now c.args.them c.requires.plain c.requires.ends c.requires.there c.in_default.not-Pawn)
