use Rattle.std.proofs.Common.{◌≤◌, sym, subst}
use Rattle.cert_checker.specs.Sketching.{SketchState}
use Rattle.cert_checker.proofs.SketchTaking.{few_counted}
use Rattle.cert_checker.proofs.sketching.Sketching.count.Goals as goal

pub returns-clause-few : goal.returns-clause-few
returns-clause-few c =
    few_counted c.self.inside.due c.read_sketch_line.new.due c.args.line.now c.read_sketch_line.result c.read_sketch_line.ensures.read c.read_sketch_line.ensures.kept (subst (λ (k : SketchState). k.reading.due.prices ≤ 64) (sym c.self.view_is) c.requires)
