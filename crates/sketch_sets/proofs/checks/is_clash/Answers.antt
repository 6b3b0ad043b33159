use Rattle.std.proofs.Common.{Bool, ◌||◌, ap, ◌∙◌}
use Rattle.std.specs.List.{list_any}
use Rattle.sketch_sets.specs.Clashes.{has_no_square}
use Rattle.sketch_sets.proofs.Clashing.{clash-made}
use Rattle.sketch_sets.proofs.checks.is_clash.Goals as goal

pub returns : goal.returns
returns c = ap (λ (b : Bool). b || c.has_two.result) c.has_nowhere.ensures ∙ ap (λ (b : Bool). list_any has_no_square c.args.sketch.now || b) c.has_two.ensures ∙ clash-made c.args.sketch.now
