use Rattle.std.proofs.Common.{◌≡◌, ℕ, ◌+◌, ◌*◌, false, sym, ap, ◌∙◌, subst}
use Rattle.board_base.specs.Board.{at}
use Rattle.query_base.specs.Asked.{Asked}
use Rattle.unmove_gen.specs.Numbers.{AreUnlisted}
use Rattle.unmove_gen.specs.Cursors.{number_of}
use Rattle.unmove_gen.specs.Ways.{reaches_last}
use Rattle.unmove_gen.proofs.Skips.{skip-officers}
use Rattle.unmove_gen.proofs.skipping.past_move.Goals as goal

pub returns-else-reaches_last-clause-unlisted : goal.returns-else-reaches_last-clause-unlisted
returns-else-reaches_last-clause-unlisted c =
    let p = c.args.here in
    let small = p.origins in
    let low : reaches_last (at c.query.inside.board p.to) p.to ≡ false = ap (λ (s : ℕ). reaches_last (at c.query.inside.board s) s) (sym c.mv.ensures.target) ∙ sym c.reaches_last.ensures ∙ c.if-reaches_last.false in
    subst (λ (q : Asked). AreUnlisted q (2240 * p.to + 35 * p.from + 7 * (p.promotion + 1)) (number_of c.next_origin.result)) c.query.view_is
    (skip-officers _ p.to p.from p.promotion _ c.is_whole.ensures small low c.next_origin.ensures)
