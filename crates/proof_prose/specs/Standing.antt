-- Inner: no public clause cites this file.
-- What the nodes of a certificate that proves its claim say is so.
use Rattle.std.specs.Prelude.{◌≡◌, [], IfSome, length}
use Rattle.query_base.specs.Asked.{Asked}
use Rattle.query_base.specs.Targets.{Covers}
use Rattle.cert_checker.specs.Reasons.{ReasonSupports}
use Rattle.cert_checker.specs.Sketches.{IsSketchOf}
use Rattle.unmove_gen.specs.Listed.{unmoves}
use Rattle.balance_prose.specs.declared.numbers.Numbers.TheVariants.{Exact, Enough}
use Rattle.proof_prose.specs.Bodies.{AddsLine}
use Rattle.proof_prose.specs.declared.nodes.Line.{Line}
use Rattle.proof_prose.specs.declared.nodes.Line.TheVariants.{Because, Sketched, Back, Moves}
use Rattle.proof_prose.specs.declared.nodes.Told.{Told}
use Rattle.proof_prose.specs.declared.phrases.Phrased.{Phrased}

-- what a node says: its reason or its sketch supports its query, the query above asks no more, or its query has so many
-- retractions
abbrev pub LineStands : Asked → Line → Type 0
LineStands q (Because r) = ReasonSupports q r
LineStands q (Back k above) = Covers above q
LineStands q (Sketched b) = IsSketchOf b q
LineStands q (Moves n) = length (unmoves q) ≡ n

-- what the node says is so
abbrev pub Stands : Told → Type 0
Stands t = LineStands t.query t.line

-- what may be said of the node tells its own line, by exact numbers and, if that is told too, by numbers that are enough
pub record IsPhrased (p : Phrased) : Type 0 where
  pub exact : AddsLine Exact p.node.label p.node.line p.node.query [] p.exact
  pub enough : IfSome p.enough (λ body. AddsLine Enough p.node.label p.node.line p.node.query [] body)
