use Rattle.std.proofs.Common.{List, ap, ◌∙◌, arith}
use Rattle.std.specs.Prelude.{fold}
use Rattle.std.proofs.lemmas.List.{take_all}
use Rattle.board_base.specs.Rights.{no_rights}
use Rattle.diagram_study.specs.Rights.{open_castlings, with_right}
use Rattle.diagram_study.specs.declared.rights.RightFound.{RightFound}
use Rattle.diagram_study.proofs.Castlings.{holds-none}
use Rattle.diagram_study.proofs.rights.open_castlings.Goals as goal

pub loop-f-init : goal.loop-f-init
loop-f-init c = holds-none _ c.none-kept.ensures

pub returns : goal.returns
unfolding open_castlings
returns c = c.loop-f.invariant ∙ ap (λ (l : List RightFound). fold (λ set f. with_right f.right f.finding set) no_rights l) (take_all c.loop-f.f-index c.args.found.now (omega arith))
