use Rattle.std.proofs.Common.{List, Bool, true, set, ap, ◌∙◌, arith}
use Rattle.figures.proofs.Singles.{only-made}
use Rattle.figures.proofs.sets.only_on.Goals as goal

pub returns : goal.returns
returns c = c.with.ensures ∙ ap (λ (l : List Bool). set l c.args.s true) c.from_bits.ensures.squares ∙ only-made c.args.s (omega arith)
