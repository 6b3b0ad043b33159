use Rattle.std.proofs.Common.{sym, ap, ◌∙◌}
use Rattle.query_base.specs.Asked.{Asked}
use Rattle.unmove_gen.specs.Listed.{mover}
use Rattle.unmove_gen.specs.Plain.{goes_to_empty}
use Rattle.unmove_gen.proofs.Comes.{empty-man}
use Rattle.unmove_gen.proofs.captures.steps.Goals as goal

pub returns : goal.returns
returns c =
    let q : Asked = c.args.query.now in
    c.goes_to_empty.ensures ∙ ap (λ (a : Asked). goes_to_empty a.board c.args.them c.args.m.now.from c.args.m.now.to) c.query.view_is
    ∙ sym (empty-man (mover q) q.board c.args.m.now c.args.them c.requires.plain c.requires.ends c.requires.there)
