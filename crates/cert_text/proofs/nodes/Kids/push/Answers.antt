use Rattle.std.proofs.Common.{◌∙◌, ap}
use Rattle.cert_text.specs.Tree.{Forest, with_last}
use Rattle.cert_text.specs.Seen.{tree_of}
use Rattle.cert_text.specs.SeenKids.{forest_of}
use Rattle.cert_text.proofs.Forests.{forest-push}
use Rattle.cert_text.proofs.nodes.Kids.push.Goals as goal

pub returns-clause-ok : goal.returns-clause-ok
returns-clause-ok c =
    ap forest_of c.in-Ok.ensures.items ∙ forest-push _ _ ∙ ap (λ (f : Forest). with_last f c.args.kid.label (tree_of c.args.kid.node)) c.self.view_is
