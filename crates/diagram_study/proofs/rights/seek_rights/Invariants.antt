use Rattle.std.proofs.Common.{◌≡◌, map, take}
use Rattle.std.specs.List.{All}
use Rattle.claim_findings.specs.Decisions.{Grows}
use Rattle.diagram_study.specs.Decisions.{IsRightSought}
use Rattle.diagram_study.proofs.rights.seek_rights.Given as goal

abbrev pub invariant-loop-right : goal.invariant-loop-right
invariant-loop-right l = record {
  rights : map (λ f. f.right) l.found.items ≡ take l.right-index l.each;
  sought : All (IsRightSought l.subject.query l.subject.limits.depth l.subject.limits.nodes l.games.found.items) l.found.items;
  grows : Grows l.initial.games.found.items l.games.found.items;
}
