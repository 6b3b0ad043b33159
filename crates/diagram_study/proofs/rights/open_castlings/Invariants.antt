use Rattle.std.proofs.Common.{◌≡◌, take}
use Rattle.std.specs.Prelude.{fold}
use Rattle.board_base.specs.Rights.{no_rights}
use Rattle.diagram_study.specs.Rights.{with_right}
use Rattle.diagram_study.proofs.rights.open_castlings.Given as goal

abbrev pub invariant-loop-f : goal.invariant-loop-f
invariant-loop-f l = l.kept ≡ fold (λ set f. with_right f.right f.finding set) no_rights (take l.f-index l.found)
