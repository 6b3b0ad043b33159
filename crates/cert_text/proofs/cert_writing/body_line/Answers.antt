use Rattle.std.proofs.Common.{◌<◌, ◌^◌, ap, arith}
use Rattle.sketch_body.specs.Bodies.{head_of}
use Rattle.cert_text.specs.Certificate.{body_of}
use Rattle.cert_text.specs.Seen.{body_tree}
use Rattle.cert_text.specs.Tree.{count}
use Rattle.cert_text.specs.declared.nodes.Body.{Body}
use Rattle.cert_text.proofs.cert_writing.body_line.Goals as goal

pub overflow_cast-result : goal.overflow_cast-result
overflow_cast-result c =
    let few : count c.in-Expand.kids < 2 ^ 32 = c.requires.children (count c.in-Expand.kids) (ap (λ (b : Body). body_of (body_tree b)) c.in-Expand.is) in
    omega (arith, c.len.ensures)

pub head-requires : goal.head-requires
head-requires c = c.requires.prices (head_of c.in-Sketch.body) (ap (λ (b : Body). body_of (body_tree b)) c.in-Sketch.is)
