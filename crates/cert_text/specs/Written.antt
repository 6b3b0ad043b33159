-- Inner: no public clause cites this file.
-- What is written of lines, trees and certificates.
use Rattle.std.specs.Prelude.{ℕ, List, [], ◌∷◌, ◌++◌, codes, map, IfSome, IsTrue, Option, Some, None}
use Rattle.board_base.specs.Texts.{unmove_text}
use Rattle.board_base.specs.declared.unmoves.Unmove.{Unmove}
use Rattle.query_base.specs.Asked.{Asked}
use Rattle.query_base.specs.declared.claims.Claim.{Claim}
use Rattle.cert_text.specs.declared.heads.Format.{Format}
use Rattle.cert_text.specs.declared.heads.Format.TheVariants.{One, Two}
use Rattle.sketch_text.specs.Heads.{is_head}
use Rattle.capture_prices.specs.Prices.{PriceList}
use Rattle.price_text.specs.PriceTexts.{prices_text}
use Rattle.sketch_body.specs.Bodies.{items_of, of_line}
use Rattle.sketch_body.specs.Seen.{line_of}
use Rattle.sketch_body.specs.declared.lines.SketchLine.{SketchLine}
use Rattle.sketch_body.specs.Texts.{item_text}
use Rattle.cert_text.specs.Tree.{Tree, Forest, rule, back, expand, sketch, none, more}
use Rattle.cert_text.specs.declared.node_lines.BodyLine.{BodyLine}
use Rattle.cert_text.specs.declared.node_lines.BodyLine.TheVariants.{Rule, Back, Expand, Sketch}
use Rattle.cert_text.specs.Lines.{ended}
use Rattle.cert_text.specs.Certificate.{Certificate, Lines, body_of, demand_lines, format_for, query_lines}
use Rattle.cert_text.specs.ClaimLines.{claim_text}
use Rattle.cert_text.specs.NodeLines.{kid_text, root_text}
use Rattle.cert_text.specs.Writable.{has_text}

-- the label, if there is one, has a text
abbrev pub IsLabel : Option Unmove → Type 0
IsLabel label = IfSome label (λ u. IsTrue (has_text u))

-- a sketch that the body begins, if it begins one, has a first line
abbrev pub IsSketchLine : BodyLine → Type 0
IsSketchLine (Rule r) = Unit {0}
IsSketchLine (Back k) = Unit {0}
IsSketchLine (Expand n) = Unit {0}
IsSketchLine (Sketch h) = IsTrue (is_head h)

-- what stands before a node's body
abbrev pub label_text : Option Unmove → List ℕ
label_text None = codes "root "
label_text (Some u) = unmove_text u ++ 32 ∷ []

abbrev mutual
  -- the lines that follow the own line of a node
  pub lines_below : Tree → Lines
  lines_below (rule r) = []
  lines_below (back k) = []
  lines_below (expand kids) = lines_of kids
  lines_below (sketch b) = map ended (map item_text (items_of b))

  -- the lines of children, one child after another
  pub lines_of : Forest → Lines
  lines_of none = []
  lines_of (more label tree rest) = ended (kid_text label (body_of tree)) ∷ (lines_below tree ++ lines_of rest)

-- the first line of a format
abbrev pub format_text : Format → List ℕ
format_text One = codes "retro 1"
format_text Two = codes "retro 2"

-- the lines of the head of a certificate about this query
abbrev pub head_lines : Claim → Asked → Lines
head_lines claim q = ended (format_text (format_for (demand_lines q))) ∷ ended (claim_text claim) ∷ query_lines q

-- the lines of a certificate
abbrev pub cert_lines : Certificate → Lines
cert_lines cert = head_lines cert.claim cert.query ++ ended (root_text (body_of cert.root)) ∷ lines_below cert.root

-- the lines of prices
abbrev pub price_texts : List PriceList → Lines
price_texts prices = map (λ p. ended (prices_text p)) prices

-- the lines of nodes and of marks
abbrev pub line_texts : List SketchLine → Lines
line_texts lines = map (λ l. ended (item_text (of_line (line_of l)))) lines
