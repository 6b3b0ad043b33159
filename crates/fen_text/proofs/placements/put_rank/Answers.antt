use Rattle.std.proofs.Common.{◌+◌, get_or, set, ℕ, ap, ◌∙◌, sym, subst, None}
use Rattle.board_base.specs.Board.{Places}
use Rattle.fen_text.proofs.PlacementLemmas.{IsFilled, filled_more}
use Rattle.fen_text.proofs.placements.put_rank.Goals as goal

pub loop-file-preserved : goal.loop-file-preserved
loop-file-preserved c =
    subst (λ (b : Places). IsFilled c.args.board.now b c.args.places.now c.args.rank (c.loop-file.file + 1)) (sym (c.put.ensures ∙ ap (λ (k : ℕ). set c.loop-file.board k (get_or c.args.places.now c.loop-file.file None)) c.known.ensures))
    (filled_more c.args.board.now c.loop-file.board c.args.places.now c.args.rank c.loop-file.file c.requires.size c.requires.width c.requires.in_range c.loop-file-test.true c.loop-file.invariant)
