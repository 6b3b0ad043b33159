use Rattle.std.proofs.Common.{◌≡◌, ◌++◌, ℕ, length, map}
use Rattle.std.specs.List.{All}
use Rattle.std.specs.Vec.Iter.{into_iter_items, into_iter_len}
use Rattle.diagram_study.specs.Decisions.{IsPairAgreed, IsPairSought}
use Rattle.diagram_study.specs.Pairs.{pair_of}
use Rattle.diagram_study.proofs.pairs.agreed_pairs.Given as goal

abbrev pub invariant-loop-each : goal.invariant-loop-each
invariant-loop-each l = record {
  pairs : map pair_of l.told.items ++ map pair_of (into_iter_items l.each-iterator) ≡ map pair_of l.fn.found.items;
  found : (most nodes : ℕ) → All (IsPairSought l.subject.query most nodes l.games.found.items) l.fn.found.items → All (IsPairAgreed l.subject.query most nodes l.games.found.items) l.told.items × All (IsPairSought l.subject.query most nodes l.games.found.items) (into_iter_items l.each-iterator);
  len : into_iter_len l.each-iterator ≡ length (into_iter_items l.each-iterator);
}
