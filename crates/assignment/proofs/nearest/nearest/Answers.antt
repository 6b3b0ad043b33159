use Rattle.std.proofs.Common.{arith, sym, subst, ◌+◌}
use Rattle.assignment.proofs.LeastSlack.{IsBestOfRows, IsBestOfRows-more}
use Rattle.assignment.specs.declared.nearest.Link.{Link}
use Rattle.assignment.proofs.nearest.nearest.Goals as goal
use Rattle.assignment.proofs.nearest.nearest.Goals.{then-link-best, else-link-best}

pub loop-m-preserved : goal.loop-m-preserved
loop-m-preserved g c =
    let link = c.nearest_to_row-link in
    let more = IsBestOfRows-more c.args.costs.now g.row.W c.args.p.now c.args.k c.loop-m.m c.loop-m.best link.result in
    elim c.if-link-best.branch [
      | then-link-best w ↦ subst (λ (b : Link). IsBestOfRows c.args.costs.now g.row.W c.args.p.now c.args.k (c.loop-m.m + 1) b) (sym w.best-is)
          (more link.result c.loop-m.invariant link.ensures.link link.ensures.least (omega arith) (omega arith) link.ensures.link)
      | else-link-best w ↦ subst (λ (b : Link). IsBestOfRows c.args.costs.now g.row.W c.args.p.now c.args.k (c.loop-m.m + 1) b) (sym w.best-is)
          (more c.loop-m.best c.loop-m.invariant link.ensures.link link.ensures.least (omega arith) (omega arith) c.loop-m.invariant.link)
    ]

pub returns-clause-least : goal.returns-clause-least
returns-clause-least g c = λ m e low high out. c.loop-m.invariant.least m e (omega arith) high out
