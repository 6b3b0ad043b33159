-- Inner: no public clause cites this file.
-- What the parts of the reader give.
use Rattle.std.specs.Prelude.{ℕ, ◌+◌, ◌≡◌, ◌<◌, ◌≤◌, List, [], ◌∷◌, ◌++◌, length, map, Some}
use Rattle.std.proofs.Common.{suc}
use Rattle.board_base.specs.declared.unmoves.Unmove.{Unmove}
use Rattle.query_base.specs.Asked.{Asked}
use Rattle.query_base.specs.declared.claims.Claim.{Claim}
use Rattle.sketch_text.specs.Heads.{Head as SketchHead}
use Rattle.sketch_body.specs.Bodies.{Body, Item, most_units}
use Rattle.sketch_body.specs.Due.{Leads as LeadsOn, Reading, start}
use Rattle.sketch_body.specs.Gathered.{gathered}
use Rattle.cert_text.specs.Tree.{Tree, Forest, count, units_each, units_in}
use Rattle.cert_text.specs.Lines.{ended, said}
use Rattle.cert_text.specs.NodeLines.{root_body, kid_body}
use Rattle.cert_text.specs.Certificate.{Lines, body_of, AreBelow, AreKids}
use Rattle.cert_text.specs.Due.{Due, nodes_due, put_due, refused}
use Rattle.cert_text.specs.Heads.{Leads}
use Rattle.cert_text.specs.declared.heads.Head.TheVariants.{FormatDue, RootDue}
use Rattle.cert_text.specs.declared.node_lines.BodyLine.{BodyLine}
use Rattle.cert_text.specs.declared.node_lines.BodyLine.TheVariants.{Rule, Back, Expand, Sketch}

-- The lines in front of others that are below a node with this body at this depth. So many units are those of the sketches before, and with
-- those of the tree they aren't too many.
pub record ReadsBelow (body : BodyLine) (depth : ℕ) (lines : Lines) (line units : ℕ) (tree : Tree) (rest : Lines) (next all : ℕ) : Type 0 where
  pub front : Lines
  pub parts : lines ≡ front ++ rest
  pub lines_count : next ≡ line + length front
  pub says : body_of tree ≡ body
  pub below : AreBelow tree depth front
  pub units_are : all ≡ units + units_in tree
  pub few : all ≤ most_units

-- the lines in front of others that are so many children of a node at this depth
pub record ReadsKids (number depth : ℕ) (lines : Lines) (line units : ℕ) (kids : Forest) (rest : Lines) (next all : ℕ) : Type 0 where
  pub front : Lines
  pub parts : lines ≡ front ++ rest
  pub lines_count : next ≡ line + length front
  pub size : count kids ≡ number
  pub are : AreKids kids (suc depth) front
  pub units_are : all ≡ units + units_each kids
  pub few : all ≤ most_units

-- wherever a node with this body at this depth is read, behind sketches with so many units, the lines are refused at line n
abbrev pub IsRefused : ℕ → BodyLine → ℕ → Lines → ℕ → ℕ → Type 0
IsRefused units body depth lines line n = (due : List ℕ) (d : Due) → length due ≡ depth → put_due units body due ≡ Some d → refused d line lines ≡ Some n

-- wherever so many children of a node at this depth are due, behind sketches with so many units, the lines are refused at line n
abbrev pub AreRefused : ℕ → ℕ → ℕ → Lines → ℕ → ℕ → Type 0
AreRefused units number depth lines line n = (due : List ℕ) → length due ≡ depth → refused (nodes_due units (number ∷ due)) line lines ≡ Some n

-- the first line says this of a child at this depth
abbrev pub SaysKid : ℕ → Lines → Unmove → BodyLine → Lines → Type 0
SaysKid depth lines label body rest = (line : List ℕ) × (lines ≡ line ∷ rest) × (said (kid_body depth) line ≡ Some (label, body))

-- the lines begin with a certificate's head and its root's line, which say this; the line after these has this number
pub record HasHeader (lines : Lines) (claim : Claim) (query : Asked) (body : BodyLine) (line : ℕ) (rest : Lines) : Type 0 where
  pub front : Lines
  pub root_line : List ℕ
  pub parts : lines ≡ front ++ root_line ∷ rest
  pub leads : Leads FormatDue front (RootDue claim query)
  pub body_is : said root_body root_line ≡ Some body
  pub counted : line ≡ length front + 2

-- only at a depth below 255 has a node children
abbrev pub HasRoom : ℕ → BodyLine → Type 0
HasRoom depth (Rule r) = Unit {0}
HasRoom depth (Back k) = Unit {0}
HasRoom depth (Expand n) = 0 < n → depth < 255
HasRoom depth (Sketch h) = h.prices ≤ 64

-- a sketch that the body begins doesn't make the units too many
abbrev pub CanStart : ℕ → BodyLine → Type 0
CanStart units (Rule r) = Unit {0}
CanStart units (Back k) = Unit {0}
CanStart units (Expand n) = Unit {0}
CanStart units (Sketch h) = (r : Reading) × (start units h ≡ Some r)

-- The lines of a sketch with this first line that were read: they are these texts with their ends, say these, and lead to what is due now. The
-- sketch in memory says them too.
pub record ReadsSketch (units : ℕ) (h : SketchHead) (lines : Lines) (line : ℕ) (now : Reading) (b : Body) (rest : Lines) (next : ℕ) : Type 0 where
  pub first : Reading
  pub starts : start units h ≡ Some first
  pub texts : Lines
  pub items : List Item
  pub parts : lines ≡ map ended texts ++ rest
  pub counted : next ≡ line + length texts
  pub leads : LeadsOn first texts items now
  pub says : b ≡ gathered (record { files = h.files; prices = []; lines = [] }) items
