use Rattle.std.proofs.Common.{◌+◌, sym, ◌∙◌, subst, take, arith}
use Rattle.std.specs.List.{Contains}
use Rattle.std.proofs.lemmas.Bool.{both_ways}
use Rattle.unmove_gen.specs.Listed.{unmoves}
use Rattle.diagram_study.specs.Possible.{AreEnds}
use Rattle.diagram_study.proofs.LastMoves.{ends_found, ends_passed, holds_at}
use Rattle.diagram_study.proofs.possible.ends_among.Goals as goal
use Rattle.diagram_study.proofs.possible.ends_among.Goals.{then-have_end+in-Ok, else-have_end}

pub have_end-requires : goal.have_end-requires
have_end-requires c = record { listed = holds_at (Contains (unmoves c.args.query.now)) c.args.left.now c.loop-i.i c.unwrap-u.result c.requires.listed (sym c.get.ensures ∙ c.unwrap-u.ensures) }

pub loop-i-preserved : goal.loop-i-preserved
loop-i-preserved c = elim c.if-have_end.branch [
  | then-have_end+in-Ok w ↦
      ends_found c.args.games.now.found.items c.args.query.now c.args.left.now c.loop-i.ends c.if-have_end.ends c.loop-i.i c.unwrap-u.result (omega arith) (sym c.get.ensures ∙ c.unwrap-u.ensures) c.loop-i.invariant (c.have_end.ensures.0 w.if-have_end.true) (w.ends-is ∙ w.in-Ok.ensures.ok)
  | else-have_end w ↦
      subst (AreEnds c.args.games.now.found.items c.args.query.now (take (c.loop-i.i + 1) c.args.left.now)) (sym w.ends-is) (ends_passed c.args.games.now.found.items c.args.query.now c.args.left.now c.loop-i.ends c.loop-i.i c.unwrap-u.result (omega arith) (sym c.get.ensures ∙ c.unwrap-u.ensures) c.loop-i.invariant (λ end. both_ways _ w.if-have_end.false (c.have_end.ensures.1 end)))
]
