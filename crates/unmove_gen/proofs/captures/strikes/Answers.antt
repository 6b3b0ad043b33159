use Rattle.std.proofs.Common.{sym, ap, ◌∙◌}
use Rattle.board_base.specs.Attacks.{kind_attacks}
use Rattle.board_base.specs.declared.men.Kind.TheVariants.{Pawn}
use Rattle.query_base.specs.Asked.{Asked}
use Rattle.unmove_gen.proofs.Comes.{taking-man}
use Rattle.unmove_gen.proofs.captures.strikes.Goals as goal

pub returns : goal.returns
returns c =
    let q : Asked = c.args.query.now in
    c.man_attacks.ensures ∙ ap (λ (a : Asked). kind_attacks a.board c.args.them.colour c.args.them.kind c.args.m.now.from c.args.m.now.to) c.query.view_is
    ∙ sym (taking-man q.turn Pawn q.board c.args.m.now c.args.them c.requires.plain c.requires.ends c.requires.there)
