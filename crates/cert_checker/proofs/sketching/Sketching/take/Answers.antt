use Rattle.std.proofs.Common.{◌≡◌, ◌≤◌, sym, subst}
use Rattle.std.specs.Prelude.{Option, Some, None}
use Rattle.std.proofs.lemmas.Option.{same_Some}
use Rattle.sketch_body.specs.Due.{Reading, step}
use Rattle.sketch_body.specs.Seen.{line_of}
use Rattle.cert_text.specs.Lines.{said}
use Rattle.cert_checker.specs.Sketching.{IsReading, SketchState, Takes, TakesNode}
use Rattle.cert_checker.specs.declared.frames.FirstFault.{FirstFault}
use Rattle.cert_checker.proofs.SketchNodes.{state}
use Rattle.cert_checker.proofs.SketchTaking.{added_prices, few_read, line_placed, line_reading, line_taken, prices_reading, prices_room, prices_taken, read_on, said_line, said_prices, with_prices}
use Rattle.cert_checker.proofs.sketching.Sketching.take.Goals as goal

pub take_node-requires-clause-placed : goal.take_node-requires-clause-placed
take_node-requires-clause-placed c =
    let old : SketchState = state c.self.inside.units c.self.inside.due c.self.inside.query c.self.inside.walk.setting c.self.inside.begun c.self.inside.walk.opened c.self.inside.walk.frames in
    let is : IsReading old = subst IsReading (sym c.self.view_is) c.requires in
    let e = said_line c.read_sketch_line.result c.in-Some.item c.in-Line.node c.read_sketch_line.new.due (said (step c.self.inside.due) c.args.line.now) c.read_sketch_line.ensures.read c.in-Some.is c.in-Line.is in
    line_placed old c.read_sketch_line.new.due c.args.line.now (line_of c.in-Line.node) is e

pub returns-in-Prices-clause-takes : goal.returns-in-Prices-clause-takes
returns-in-Prices-clause-takes c =
    let old : SketchState = state c.self.inside.units c.self.inside.due c.self.inside.query c.self.inside.walk.setting c.self.inside.begun c.self.inside.walk.opened c.self.inside.walk.frames in
    let new : SketchState = state c.self.inside.units c.read_sketch_line.new.due c.self.inside.query c.add_prices.new.self.setting c.self.inside.begun c.add_prices.new.self.opened c.add_prices.new.self.frames in
    let is : IsReading old = subst IsReading (sym c.self.view_is) c.requires in
    let e = said_prices c.read_sketch_line.result c.in-Some.item c.in-Prices.prices c.read_sketch_line.new.due (said (step c.self.inside.due) c.args.line.now) c.read_sketch_line.ensures.read c.in-Some.is c.in-Prices.is in
    let same : new ≡ with_prices old c.read_sketch_line.new.due c.in-Prices.prices = added_prices c.self.inside.units c.self.inside.due c.read_sketch_line.new.due c.self.inside.query c.self.inside.walk.setting c.add_prices.new.self.setting c.self.inside.begun c.self.inside.walk.opened c.add_prices.new.self.opened c.self.inside.walk.frames c.add_prices.new.self.frames c.in-Prices.prices (c.add_prices.ensures.added (c.add_prices.ensures.room.1 (prices_room old c.read_sketch_line.new.due c.args.line.now c.in-Prices.prices is e))) c.add_prices.ensures.kept in
    subst (λ (k : SketchState). Takes (Some None) k new c.args.number c.args.line.now) c.self.view_is (prices_taken old new c.read_sketch_line.new.due c.in-Prices.prices c.args.number c.args.line.now is e same)

pub returns-in-Prices-clause-few : goal.returns-in-Prices-clause-few
returns-in-Prices-clause-few c = λ _.
    let old : SketchState = state c.self.inside.units c.self.inside.due c.self.inside.query c.self.inside.walk.setting c.self.inside.begun c.self.inside.walk.opened c.self.inside.walk.frames in
    let is : IsReading old = subst IsReading (sym c.self.view_is) c.requires in
    few_read c.self.inside.due c.read_sketch_line.new.due c.args.line.now c.read_sketch_line.result c.in-Some.item c.read_sketch_line.ensures.read c.in-Some.is is.few

pub returns-in-Prices-clause-reading : goal.returns-in-Prices-clause-reading
returns-in-Prices-clause-reading c = λ _ _.
    let old : SketchState = state c.self.inside.units c.self.inside.due c.self.inside.query c.self.inside.walk.setting c.self.inside.begun c.self.inside.walk.opened c.self.inside.walk.frames in
    let new : SketchState = state c.self.inside.units c.read_sketch_line.new.due c.self.inside.query c.add_prices.new.self.setting c.self.inside.begun c.add_prices.new.self.opened c.add_prices.new.self.frames in
    let is : IsReading old = subst IsReading (sym c.self.view_is) c.requires in
    let e = said_prices c.read_sketch_line.result c.in-Some.item c.in-Prices.prices c.read_sketch_line.new.due (said (step c.self.inside.due) c.args.line.now) c.read_sketch_line.ensures.read c.in-Some.is c.in-Prices.is in
    let same : new ≡ with_prices old c.read_sketch_line.new.due c.in-Prices.prices = added_prices c.self.inside.units c.self.inside.due c.read_sketch_line.new.due c.self.inside.query c.self.inside.walk.setting c.add_prices.new.self.setting c.self.inside.begun c.self.inside.walk.opened c.add_prices.new.self.opened c.self.inside.walk.frames c.add_prices.new.self.frames c.in-Prices.prices (c.add_prices.ensures.added (c.add_prices.ensures.room.1 (prices_room old c.read_sketch_line.new.due c.args.line.now c.in-Prices.prices is e))) c.add_prices.ensures.kept in
    prices_reading old new c.read_sketch_line.new.due c.in-Prices.prices c.args.line.now is e c.gates.ensures.range same

pub returns-in-Line-clause-takes : goal.returns-in-Line-clause-takes
returns-in-Line-clause-takes c =
    let old : SketchState = state c.self.inside.units c.self.inside.due c.self.inside.query c.self.inside.walk.setting c.self.inside.begun c.self.inside.walk.opened c.self.inside.walk.frames in
    let is : IsReading old = subst IsReading (sym c.self.view_is) c.requires in
    let e = said_line c.read_sketch_line.result c.in-Some.item c.in-Line.node c.read_sketch_line.new.due (said (step c.self.inside.due) c.args.line.now) c.read_sketch_line.ensures.read c.in-Some.is c.in-Line.is in
    subst (λ (k : SketchState). Takes (Some c.take_node.result) k c.take_node.new.self c.args.number c.args.line.now) c.self.view_is
    (line_taken old c.take_node.new.self c.read_sketch_line.new.due c.args.number c.args.line.now (line_of c.in-Line.node) is e c.take_node.result c.take_node.ensures.takes c.take_node.ensures.reading)

pub returns-in-Line-clause-few : goal.returns-in-Line-clause-few
returns-in-Line-clause-few c = λ _.
    let old : SketchState = state c.self.inside.units c.self.inside.due c.self.inside.query c.self.inside.walk.setting c.self.inside.begun c.self.inside.walk.opened c.self.inside.walk.frames in
    let is : IsReading old = subst IsReading (sym c.self.view_is) c.requires in
    subst (λ (r : Reading). r.due.prices ≤ 64) (sym c.take_node.ensures.reading) (few_read c.self.inside.due c.read_sketch_line.new.due c.args.line.now c.read_sketch_line.result c.in-Some.item c.read_sketch_line.ensures.read c.in-Some.is is.few)

pub returns-in-Line-clause-reading : goal.returns-in-Line-clause-reading
returns-in-Line-clause-reading c = λ res still.
    let old : SketchState = state c.self.inside.units c.self.inside.due c.self.inside.query c.self.inside.walk.setting c.self.inside.begun c.self.inside.walk.opened c.self.inside.walk.frames in
    let is : IsReading old = subst IsReading (sym c.self.view_is) c.requires in
    let e = said_line c.read_sketch_line.result c.in-Some.item c.in-Line.node c.read_sketch_line.new.due (said (step c.self.inside.due) c.args.line.now) c.read_sketch_line.ensures.read c.in-Some.is c.in-Line.is in
    let go = subst (λ (f : Option FirstFault). TakesNode f (read_on old c.read_sketch_line.new.due) c.take_node.new.self c.args.number (line_of c.in-Line.node)) (same_Some c.take_node.result None res) c.take_node.ensures.takes in
    line_reading old c.take_node.new.self c.read_sketch_line.new.due c.args.number c.args.line.now (line_of c.in-Line.node) is e go c.take_node.ensures.reading c.take_node.ensures.setting still
