use Rattle.std.proofs.Common.{◌≡◌, length, vec_len}
use Rattle.game_search.proofs.attempts.Search.list_unmoves.Given as goal

abbrev pub decreases-loop-u : goal.decreases-loop-u
decreases-loop-u l = length l.unmoves

abbrev pub invariant-loop-u : goal.invariant-loop-u
invariant-loop-u l = vec_len l.self.visited ≡ vec_len l.initial.self.visited
