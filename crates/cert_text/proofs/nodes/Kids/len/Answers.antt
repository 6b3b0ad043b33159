use Rattle.std.proofs.Common.{◌∙◌, ap}
use Rattle.cert_text.specs.Tree.{count}
use Rattle.cert_text.proofs.Forests.{count-forest}
use Rattle.cert_text.proofs.nodes.Kids.len.Goals as goal

pub returns : goal.returns
returns c = c.len.ensures ∙ c.self.inside.items.ok.0 ∙ count-forest _ ∙ ap count c.self.view_is
