use Rattle.std.proofs.Common.{◌≡◌, ℕ, ◌+◌, ◌-◌, ◌==◌, ap, arith}
use Rattle.board_base.specs.Attacks.{distance}
use Rattle.board_base.specs.Board.{rank}
use Rattle.board_base.specs.Legal.{last_rank}
use Rattle.sketch_walk.specs.Goings.{is_passing_rank}
use Rattle.sketch_walk.proofs.goings.is_passing_rank.Goals as goal

pub returns : goal.returns
unfolding is_passing_rank distance
returns c =
    let far : c.abs_diff.result ≡ (rank c.args.from - last_rank c.args.colour) + (last_rank c.args.colour - rank c.args.from) = omega (arith, c.abs_diff.ensures, c.rank.ensures, c.last_rank.ensures) in
    ap (λ (n : ℕ). n == 3) far
