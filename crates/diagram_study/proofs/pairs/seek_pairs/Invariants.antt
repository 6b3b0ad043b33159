use Rattle.std.proofs.Common.{◌≡◌, map, take}
use Rattle.std.specs.List.{All}
use Rattle.claim_findings.specs.Decisions.{Grows}
use Rattle.diagram_study.specs.Decisions.{IsPairSought}
use Rattle.diagram_study.specs.Pairs.{pair_of}
use Rattle.diagram_study.proofs.pairs.seek_pairs.Given as goal

abbrev pub invariant-loop-pair : goal.invariant-loop-pair
invariant-loop-pair l = record {
  pairs : map pair_of l.found.items ≡ take l.pair-index l.each;
  sought : All (IsPairSought l.subject.query l.subject.limits.depth l.subject.limits.nodes l.games.found.items) l.found.items;
  grows : Grows l.initial.games.found.items l.games.found.items;
}
