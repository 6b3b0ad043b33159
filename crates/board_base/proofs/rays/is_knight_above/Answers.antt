use Rattle.std.proofs.Common.{◌≡◌, ℕ, ◌+◌, ◌*◌, ap, ◌∙◌, arith}
use Rattle.board_base.specs.Board.{rank}
use Rattle.board_base.proofs.Hits.{away-above}
use Rattle.board_base.proofs.rays.is_knight_above.Goals as goal

pub is_knight_on-requires-clause-away : goal.is_knight_on-requires-clause-away
is_knight_on-requires-clause-away c =
    let row : c.rank-row.result ≡ rank c.args.s = c.rank-row.ensures in
    ap (λ (n : ℕ). n * c.args.off) (away-above (c.rank-row.result + c.args.ranks) (rank c.args.s) c.args.ranks (omega arith)) ∙ c.requires
