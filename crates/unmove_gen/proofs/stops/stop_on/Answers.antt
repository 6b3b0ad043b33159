use Rattle.std.proofs.Common.{◌≤◌, arith}
use Rattle.unmove_gen.specs.Ready.{AreReady}
use Rattle.unmove_gen.proofs.ReadyListed.{none-listed, ready-from}
use Rattle.unmove_gen.proofs.stops.stop_on.Goals as goal

pub returns-then-place-lt7-clause-unlisted : goal.returns-then-place-lt7-clause-unlisted
returns-then-place-lt7-clause-unlisted c =
    let ready : AreReady c.args.query.now c.args.start c.listed-listed.result = ready-from c.args.query.now c.args.start c.mv.result c.listed-listed.result c.mv.ensures.target c.mv.ensures.origin c.mv.ensures.promotion c.listed-listed.ensures in
    none-listed c.args.query.now c.args.start c.listed-listed.result c.args.start.capture c.next_listed-place.result c.requires.inside ready c.next_listed-place.ensures.high c.next_listed-place.ensures.low c.next_listed-place.ensures.none

pub returns-then-place-lt7-clause-ready : goal.returns-then-place-lt7-clause-ready
returns-then-place-lt7-clause-ready c =
    ready-from c.args.query.now c.args.start c.mv.result c.listed-listed.result c.mv.ensures.target c.mv.ensures.origin c.mv.ensures.promotion c.listed-listed.ensures

pub returns-else-place-lt7-clause-none : goal.returns-else-place-lt7-clause-none
returns-else-place-lt7-clause-none c = λ n u low high there.
    let ready : AreReady c.args.query.now c.args.start c.listed-listed.result = ready-from c.args.query.now c.args.start c.mv.result c.listed-listed.result c.mv.ensures.target c.mv.ensures.origin c.mv.ensures.promotion c.listed-listed.ensures in
    let past : 7 ≤ c.next_listed-place.result = c.if-place-lt7.false in
    none-listed c.args.query.now c.args.start c.listed-listed.result c.args.start.capture c.next_listed-place.result c.requires.inside ready c.next_listed-place.ensures.high c.next_listed-place.ensures.low c.next_listed-place.ensures.none n u low (omega arith) there
