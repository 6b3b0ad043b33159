use Rattle.std.proofs.Common.{◌≡◌, ◌+◌, cond, ap, arith}
use Rattle.std.proofs.lemmas.Bool.{cond-false, cond-true}
use Rattle.figures.specs.Figures.{Figure}
use Rattle.sketch_walk.proofs.places.raised.Goals as goal

pub returns-then-not-under : goal.returns-then-not-under
returns-then-not-under c = let none : cond c.args.under (c.args.figure.now.place + 1) 0 ≡ 0 = cond-false c.args.under (c.args.figure.now.place + 1) 0 c.if-not-under.true in omega (arith, none)

pub returns : goal.returns
returns c =
    let some : cond c.args.under (c.args.figure.now.place + 1) 0 ≡ c.args.figure.now.place + 1 = cond-true c.args.under (c.args.figure.now.place + 1) 0 c.if-not-under.false in
    let place : c.figure.inside.place ≡ c.args.figure.now.place = ap (λ (f : Figure). f.place) c.figure.view_is in
    omega (arith, some, place, c.max.ensures)
