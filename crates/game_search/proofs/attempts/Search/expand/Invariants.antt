use Rattle.std.proofs.Common.{◌≡◌, vec_len}
use Rattle.game_search.proofs.attempts.Search.expand.Given as goal

abbrev pub invariant-loop-k : goal.invariant-loop-k
invariant-loop-k l = vec_len l.self.visited ≡ vec_len l.initial.self.visited
