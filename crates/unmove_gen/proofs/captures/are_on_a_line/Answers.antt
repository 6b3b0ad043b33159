use Rattle.std.proofs.Common.{◌∙◌, arith}
use Rattle.unmove_gen.specs.Ways.{may_go_alone}
use Rattle.unmove_gen.proofs.captures.are_on_a_line.Goals as goal

pub returns : goal.returns
unfolding may_go_alone
returns c =
    let low = c.index.ensures.on_board in
    let same = c.index.ensures.number in
    c.has.ensures.member ∙ c.ways_to.ensures c.args.s (omega arith)
