use Rattle.std.proofs.Common.{refl, sym, ◌∙◌}
use Rattle.std.specs.List.{Contains}
use Rattle.unmove_gen.specs.Listed.{unmoves}
use Rattle.claim_findings.proofs.Agreeing.{grown_none, grown_on}
use Rattle.diagram_study.proofs.LastMoves.{holds_at}
use Rattle.diagram_study.proofs.possible.look_for_each.Goals as goal

pub loop-i-init : goal.loop-i-init
loop-i-init c = grown_none _ _ refl

pub reach_end-requires : goal.reach_end-requires
reach_end-requires c = record { listed = holds_at (Contains (unmoves c.args.query.now)) c.args.left.now c.loop-i.i c.unwrap-u.result c.requires.listed (sym c.get.ensures ∙ c.unwrap-u.ensures) }

pub loop-i-preserved : goal.loop-i-preserved
loop-i-preserved c = grown_on c.loop-i.invariant c.in-Ok.ensures.grows
