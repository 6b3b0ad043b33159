use Rattle.std.proofs.Common.{arith, refl, rules}
use Rattle.assignment.proofs.Growth.{IsTree-raised, price_room, u_room}
use Rattle.assignment.proofs.tree.widen.Goals as goal

pub raise-requires : goal.raise-requires
raise-requires g c = (
  search rules,
  (
    omega arith,
    (
      omega (arith, c.requires.tree.size, c.requires.tree.room),
      λ m _ low.
          let room = u_room c.args.costs.now g.row.W c.args.n c.args.k c.nearest-link.result.slack c.args.parents.now c.args.p.now c.requires.tree c.nearest-link.ensures.least 32767 c.requires.table.costs m low in
          omega arith,
    ),
  ),
)

pub raise-requires-2 : goal.raise-requires-2
raise-requires-2 g c = (
  search rules,
  (
    c.requires.tree.root,
    (
      omega (arith, c.requires.tree.size, c.requires.tree.room),
      λ m one low.
          let room = price_room c.args.costs.now g.row.W c.args.n c.args.k c.nearest-link.result.slack c.args.parents.now c.args.p.now c.requires.tree c.nearest-link.ensures.least 32767 c.requires.table.costs m one low in
          omega arith,
    ),
  ),
)

pub returns-clause-tree : goal.returns-clause-tree
returns-clause-tree g c =
    IsTree-raised c.args.costs.now g.row.W c.args.n c.args.k c.nearest-link.result.slack c.args.parents.now c.args.p.now c.requires.tree c.nearest-link.ensures.least _
    (record { rows = refl; columns = refl; u = c.raise.ensures; prices = c.raise-2.ensures })
