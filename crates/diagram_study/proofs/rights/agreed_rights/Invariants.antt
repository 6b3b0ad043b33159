use Rattle.std.proofs.Common.{◌≡◌, ◌++◌, ℕ, length, map}
use Rattle.std.specs.List.{All}
use Rattle.std.specs.Vec.Iter.{into_iter_items, into_iter_len}
use Rattle.diagram_study.specs.Decisions.{IsRightAgreed, IsRightSought}
use Rattle.claim_findings.specs.Findings.{is_proved}
use Rattle.diagram_study.proofs.rights.agreed_rights.Given as goal

abbrev pub invariant-loop-each : goal.invariant-loop-each
invariant-loop-each l = record {
  rights : map (λ f. f.right) l.told.items ++ map (λ f. f.right) (into_iter_items l.each-iterator) ≡ map (λ f. f.right) l.fn.found.items;
  proved : map (λ f. is_proved f.finding) l.told.items ++ map (λ f. is_proved f.finding) (into_iter_items l.each-iterator) ≡ map (λ f. is_proved f.finding) l.fn.found.items;
  found : (most nodes : ℕ) → All (IsRightSought l.subject.query most nodes l.games.found.items) l.fn.found.items → All (IsRightAgreed l.subject.query most nodes l.games.found.items) l.told.items × All (IsRightSought l.subject.query most nodes l.games.found.items) (into_iter_items l.each-iterator);
  len : into_iter_len l.each-iterator ≡ length (into_iter_items l.each-iterator);
}
