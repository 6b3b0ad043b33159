use Rattle.std.proofs.Common.{◌<◌, ◌≤◌, ◌∙◌, length, arith, rules, get_or-set_same, get_or-set_other, length-set}
use Rattle.std.proofs.lemmas.List.{length-replicate}
use Rattle.assignment.proofs.Growth.{IsTree-rooted, IsTree-grown}
use Rattle.assignment.proofs.Handing.{IsHanding-begun}
use Rattle.assignment.proofs.tree.grow.Goals as goal
use Rattle.assignment.proofs.tree.grow.Goals.{then-link-eq0-via-then-link-eq0, then-link-eq0-via-else-link-eq0+then-n-link}

pub growth-init : goal.growth-init
growth-init g c =
    let low : c.args.n < g.row.W = omega (arith, c.requires.table.rows) in
    record {
      size = length-replicate g.row.W 0;
      tree = IsTree-rooted c.args.costs.now g.row.W c.args.n c.args.p.now c.swap_places.new.self _ low c.requires.matched c.swap_places.ensures;
    }

pub growth-preserved : goal.growth-preserved
growth-preserved g c =
    let old = c.growth.invariant in
    let link = c.widen-link.result in
    let out : c.growth.k ≤ link.to = c.widen-link.ensures.link.outside (omega arith) in
    let high : link.to ≤ c.args.n = omega arith in
    let room : c.growth.k < length c.growth.parents = omega (arith, old.size, old.tree.room) in
    record {
      size = length-set c.growth.parents c.growth.k link.from ∙ old.size;
      tree = IsTree-grown c.args.costs.now g.row.W c.args.n c.widen-link.new.p c.swap_places-in-growth.new.self c.growth.k link.from link.to c.growth.parents _
          c.widen-link.ensures.tree c.widen-link.ensures.link.within out high c.widen-link.ensures.met
          (get_or-set_same c.growth.parents c.growth.k link.from 0 room)
          (λ i lt. get_or-set_other c.growth.parents c.growth.k i link.from 0 (λ is. omega arith))
          c.swap_places-in-growth.ensures;
    }

pub returns-then-link-eq0 : goal.returns-then-link-eq0
returns-then-link-eq0 g c =
    let link = c.widen-link.result in
    let met = c.widen-link.ensures in
    IsHanding-begun c.args.costs.now g.row.W c.args.n c.growth.parents c.growth.k link.from link.to c.widen-link.new.p met.tree met.link.within met.link.to
    (λ some. elim c.then-link-eq0.branch [
      | then-link-eq0-via-then-link-eq0 w ↦ omega arith
      | then-link-eq0-via-else-link-eq0+then-n-link w ↦ omega arith
    ])
    met.met

pub swap_places-requires-in-growth : goal.swap_places-requires-in-growth
swap_places-requires-in-growth g c =
    let low : c.growth.k < g.row.W = omega (arith, c.growth.invariant.tree.size, c.growth.invariant.tree.room, c.widen-link.ensures.link.outside (omega arith)) in
    (search rules, (low, c.widen-link.ensures.link.to))
