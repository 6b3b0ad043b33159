use Rattle.std.proofs.Common.{◌≡◌, length, map}
use Rattle.std.specs.List.{All, Contains, filter}
use Rattle.unmove_gen.specs.Listed.{unmoves}
use Rattle.line_claims.specs.Due.{excluded, is_other}
use Rattle.line_claims.proofs.parts.Siblings.next.Given as goal

abbrev pub invariant-loop-u : goal.invariant-loop-u
invariant-loop-u l = record {
  due : map (excluded l.self-inside.query) (filter (is_other l.self-inside.step) l.self-inside.left) ≡ l.fn.self;
  listed : All (Contains (unmoves l.self-inside.query)) l.self-inside.left;
}

abbrev pub decreases-loop-u : goal.decreases-loop-u
decreases-loop-u l = length l.self-inside.left
