use Rattle.std.proofs.Common.{ap}
use Rattle.sketch_prose.proofs.dues.next_due.Goals as goal
use Rattle.sketch_prose.specs.Dues.{due_by}
use Rattle.sketch_text.specs.declared.labels.Label.TheVariants.{Now}

pub returns-in-First : goal.returns-in-First
returns-in-First c = (Now, ap due_by c.in-First.is)
