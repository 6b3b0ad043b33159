use Rattle.std.proofs.Common.{set, sym, ap, ◌∙◌, arith}
use Rattle.std.proofs.lemmas.Bool.{not-true}
use Rattle.std.specs.Prelude.{None}
use Rattle.board_base.specs.Attacks.{attacks}
use Rattle.board_base.specs.Board.{Places}
use Rattle.query_base.specs.Asked.{Asked}
use Rattle.unmove_gen.specs.Listed.{mover}
use Rattle.unmove_gen.proofs.Between.{aside-quiet}
use Rattle.unmove_gen.proofs.captures.is_alone_without.Goals as goal

pub returns-then-not-are_on_a_line : goal.returns-then-not-are_on_a_line
returns-then-not-are_on_a_line c = λ h.
    let q : Asked = c.args.query.now in
    let low = c.index.ensures.on_board in
    let same = c.index.ensures.number in
    let f = c.requires in
    aside-quiet q.board c.args.facts.now.king c.args.to (mover q) f.whole f.on_board (omega arith) (sym c.are_on_a_line.ensures ∙ c.if-not-are_on_a_line.true) (sym f.checked_is ∙ c.if-not-facts.true)

pub returns : goal.returns
returns c = λ h.
    let q : Asked = c.args.query.now in
    ap (λ (b : Places). attacks b c.args.facts.now.king (mover q)) (sym (c.put.ensures ∙ ap (λ (a : Asked). set a.board c.args.to None) c.query.view_is)) ∙ not-true _ (sym c.is_left_alone.ensures ∙ h)
