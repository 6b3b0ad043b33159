use Rattle.sketch_checker.proofs.Below.{cases-able, split-below, split-none}
use Rattle.sketch_checker.proofs.ends.below_split.Goals as goal

pub returns-in-Some-clause-frame : goal.returns-in-Some-clause-frame
returns-in-Some-clause-frame c = λ g. split-below g c.args.line c.args.square c.in-Some.number c.args.sketch.now c.copied.result c.copied.ensures c.in-Some.ensures

pub returns-in-Some-clause-able : goal.returns-in-Some-clause-able
returns-in-Some-clause-able c = λ o able. cases-able o c.in-Some.number c.args.sketch.now c.copied.result c.copied.ensures able

pub returns-in-None-clause-refused : goal.returns-in-None-clause-refused
returns-in-None-clause-refused c = λ g fs lines it. split-none g c.args.line c.args.square c.args.sketch.now c.in-None.ensures fs lines it
