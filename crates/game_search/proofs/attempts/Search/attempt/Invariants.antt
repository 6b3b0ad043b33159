use Rattle.std.proofs.Common.{◌≤◌, vec_len}
use Rattle.game_search.proofs.attempts.Search.attempt.Given as goal

abbrev pub invariant-visits : goal.invariant-visits
invariant-visits l = vec_len l.self.visited ≤ l.most
