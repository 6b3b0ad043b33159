use Rattle.std.proofs.Common.{◌≡◌, ◌≤◌, ◌==◌, [], ◌∷◌, cond, length, take}
use Rattle.figures.specs.Figures.{each_changed}
use Rattle.sketch_node.proofs.cases.known_at.Given as goal

abbrev pub invariant-loop-n : goal.invariant-loop-n
invariant-loop-n l = record {
  size : length l.made ≡ l.n;
  few : length l.figure-items ≤ 32;
  made : l.made ≡ each_changed (λ n f. cond (n == l.i) (record f { kinds = l.kind ∷ [] }) f) 0 (take l.n l.figure-items);
}
