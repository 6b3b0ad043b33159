use Rattle.std.proofs.Common.{◌-◌, ◌≤◌, vec_len}
use Rattle.game_search.proofs.attempts.Search.moves.Given as goal

abbrev pub invariant-steps : goal.invariant-steps
invariant-steps l = vec_len l.moves ≤ vec_len l.self.visited

abbrev pub decreases-steps : goal.decreases-steps
decreases-steps l = vec_len l.self.visited - vec_len l.moves
