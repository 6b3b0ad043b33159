use Rattle.std.proofs.Common.{◌≡◌, ◌+◌, ◌++◌, List, ℕ, length}
use Rattle.cert_checker.specs.Answers.{Answer}
use Rattle.cert_checker.specs.Remains.{Remains}
use Rattle.cert_checker.proofs.checkers.Checker.feed.Given as goal

abbrev pub invariant-parts : goal.invariant-parts
invariant-parts l = record {
  rest : (others : List ℕ) (a : Answer) → Remains l.self (l.rest ++ others) a → Remains l.fn.self (l.fn.piece ++ others) a;
  fed : l.self.fed + length l.rest ≡ l.fn.self.fed + length l.fn.piece;
}

abbrev pub decreases-parts : goal.decreases-parts
decreases-parts l = length l.rest
