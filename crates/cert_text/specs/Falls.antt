-- Inner: no public clause cites this file.
-- The children of a child are fewer than the whole.
use Rattle.std.specs.Prelude.{◌≤◌, List, [], ◌∷◌}
use Rattle.std.proofs.Common.{arith}
use denote.Param.Weighed.{most}
use Rattle.cert_text.specs.Sizes.{size, size_all}
use Rattle.cert_text.specs.Seen.{body_tree}
use Rattle.cert_text.specs.SeenKids.{forest_of}
use Rattle.cert_text.specs.declared.nodes.Body.{Body}
use Rattle.cert_text.specs.declared.nodes.Body.TheVariants.{Rule, Back, Expand, Sketch}
use Rattle.cert_text.specs.declared.nodes.Kid.{Kid}
use Rattle.cert_text.specs.declared.nodes.Kids.TheDeep.{deep-Kid, deep-Body}

body_falls : (b : Body) → deep-Body b ≤ size (body_tree b)
body_falls (Rule r) = omega arith
body_falls (Back k) = omega arith
body_falls (Expand kids) = omega arith
body_falls (Sketch b) = omega arith

pub kids_fall : (ks : List Kid) → most deep-Kid ks ≤ size_all (forest_of ks)
kids_fall [] = omega arith
kids_fall (k ∷ ks) = omega (arith, body_falls k.node.body, kids_fall ks)
