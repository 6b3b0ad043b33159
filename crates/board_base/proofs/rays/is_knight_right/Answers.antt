use Rattle.std.proofs.Common.{◌≡◌, ℕ, ◌+◌, ◌*◌, ap, ◌∙◌, arith}
use Rattle.board_base.specs.Board.{file, rank}
use Rattle.board_base.specs.Attacks.{distance}
use Rattle.board_base.proofs.Hits.{away-above}
use Rattle.board_base.proofs.rays.is_knight_right.Goals as goal

pub is_knight-requires-clause-away : goal.is_knight-requires-clause-away
is_knight-requires-clause-away c =
    let column : c.file-column.result ≡ file c.args.s = c.file-column.ensures in
    ap (λ (n : ℕ). distance c.args.row (rank c.args.s) * n) (away-above (c.file-column.result + c.args.off) (file c.args.s) c.args.off (omega arith)) ∙ c.requires.away
