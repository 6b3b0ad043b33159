-- The text of a certificate.
use Rattle.std.specs.Prelude.{ℕ, suc, ◌+◌, ◌≡◌, ◌≤◌, Bool, cond, nat_eq, List, [], ◌∷◌, ◌++◌, length, drop, map, codes, Option, Some, None}
use Rattle.std.specs.List.{starts_with}
use Rattle.std.specs.Option.{option_map}
use Rattle.std.specs.Str.{bytes_eq}
use Rattle.board_base.specs.Board.{no_odds}
use Rattle.query_base.specs.Asked.{Asked}
use Rattle.query_base.specs.declared.claims.Claim.{Claim}
use Rattle.fen_text.specs.ClockLines.{clock_line, clock_text}
use Rattle.fen_text.specs.Fen.{fen_of_four}
use Rattle.fen_text.specs.OddsLines.{is_no_odds, odds_line, odds_text}
use Rattle.fen_text.specs.Spelling.{spelling}
use Rattle.sketch_body.specs.Bodies.{AreTextsOf, head_of, most_units}
use Rattle.cert_text.specs.Tree.{Tree, Forest, rule, back, expand, sketch, none, more, count, units_in}
use Rattle.cert_text.specs.Lines.{cut, ended, said}
use Rattle.cert_text.specs.ClaimLines.{claim_of}
use Rattle.cert_text.specs.NodeLines.{root_body, kid_body}
use Rattle.cert_text.specs.declared.heads.Format.{Format}
use Rattle.cert_text.specs.declared.heads.Format.TheVariants.{One, Two}
use Rattle.cert_text.specs.declared.node_lines.BodyLine.{BodyLine}
use Rattle.cert_text.specs.declared.node_lines.BodyLine.TheVariants.{Rule, Back, Expand, Sketch}

-- lines of bytes, each with its end
abbrev pub Lines : Type 0
Lines = List (List ℕ)

-- what a certificate says: a claim about a query, and why it holds
pub record Certificate : Type 0 where
  pub claim : Claim
  pub query : Asked
  pub root : Tree

-- the format that a text names: `retro 1` or `retro 2`
unfoldable pub format_of : List ℕ → Option Format
format_of text = cond (bytes_eq text (codes "retro 1")) (Some One) (cond (bytes_eq text (codes "retro 2")) (Some Two) None)

-- the query of a text: `fen` and a FEN of four fields
unfoldable pub query_of : List ℕ → Option Asked
query_of text = cond (starts_with nat_eq text (codes "fen ")) (fen_of_four (drop 4 text)) None

-- the clock that a line demands
abbrev pub clock_demand : List ℕ → Option (Option ℕ)
clock_demand text = option_map (λ n. Some n) (clock_line text)

-- the format of a text with these lines for the demands that FEN has no word for: the second only if there are any
abbrev pub format_for : Lines → Format
format_for [] = One
format_for (line ∷ lines) = Two

-- one line that says the value, or no line, where it is the value that goes unsaid
abbrev pub IsSaid : {A : Type 0} → (List ℕ → Option A) → A → Lines → A → Type 0
IsSaid grammar unsaid [] value = value ≡ unsaid
IsSaid grammar unsaid (line ∷ []) value = said grammar line ≡ Some value
IsSaid grammar unsaid (line ∷ other ∷ lines) value = ⊥

-- These lines, and no others, are the head of a certificate with this claim about this query: the format, the claim, the odds
-- where there are any, then the clock where one is demanded, and the FEN.
pub record AreHeadLines (lines : Lines) (claim : Claim) (q : Asked) : Type 0 where
  pub format_line : List ℕ
  pub claim_line : List ℕ
  pub odds_lines : Lines
  pub clock_lines : Lines
  pub fen_line : List ℕ
  pub parts : lines ≡ format_line ∷ claim_line ∷ ((odds_lines ++ clock_lines) ++ fen_line ∷ [])
  pub format_is : said format_of format_line ≡ Some (format_for (odds_lines ++ clock_lines))
  pub claim_is : said claim_of claim_line ≡ Some claim
  pub odds_are : IsSaid odds_line no_odds odds_lines q.odds
  pub clock_is : IsSaid clock_demand None clock_lines q.clock
  pub query_is : said query_of fen_line ≡ Some (record q { odds = no_odds; clock = None })

-- the line of the odds, where there are any
abbrev pub lines_of_odds : List Bool → Lines
lines_of_odds odds = cond (is_no_odds odds) [] (ended (odds_text odds) ∷ [])

-- the line of the clock, where one is demanded
abbrev pub lines_of_clock : Option ℕ → Lines
lines_of_clock None = []
lines_of_clock (Some n) = ended (clock_text n) ∷ []

-- the lines of the demands that FEN has no word for: the odds, and then the clock
abbrev pub demand_lines : Asked → Lines
demand_lines q = lines_of_odds q.odds ++ lines_of_clock q.clock

-- the lines of a query: those of the demands, and the FEN's
abbrev pub query_lines : Asked → Lines
query_lines q = demand_lines q ++ ended (codes "fen " ++ spelling q) ∷ []

-- the number of the root's line, counted from 1
abbrev pub root_at : Asked → ℕ
root_at q = 4 + length (demand_lines q)

-- what a node's own line says of it
abbrev pub body_of : Tree → BodyLine
body_of (rule r) = Rule r
body_of (back k) = Back k
body_of (expand kids) = Expand (count kids)
body_of (sketch b) = Sketch (head_of b)

abbrev mutual
  -- these lines, and no others, follow the own line of a node at this depth
  pub AreBelow : Tree → ℕ → Lines → Type 0
  AreBelow (rule r) depth lines = lines ≡ []
  AreBelow (back k) depth lines = lines ≡ []
  AreBelow (expand kids) depth lines = AreKids kids (suc depth) lines
  AreBelow (sketch b) depth lines = (texts : Lines) × (lines ≡ map ended texts) × AreTextsOf texts b

  -- these lines, and no others, are those of children at this depth, one child after another
  pub AreKids : Forest → ℕ → Lines → Type 0
  AreKids none depth lines = lines ≡ []
  AreKids (more label tree rest) depth lines =
      (line : List ℕ) × (below : Lines) × (others : Lines) × (lines ≡ line ∷ (below ++ others)) × (said (kid_body depth) line ≡ Some (label, body_of tree)) × AreBelow tree depth below × AreKids rest depth others

-- these lines, and no others, are the text of the certificate; its sketches together don't have too many units
pub record AreLinesOf (lines : Lines) (cert : Certificate) : Type 0 where
  pub head : Lines
  pub root_line : List ℕ
  pub below : Lines
  pub parts : lines ≡ head ++ root_line ∷ below
  pub heading : AreHeadLines head cert.claim cert.query
  pub root : said root_body root_line ≡ Some (body_of cert.root)
  pub nodes : AreBelow cert.root 0 below
  pub few : units_in cert.root ≤ most_units

-- the bytes are the text of the certificate
abbrev pub IsTextOf : List ℕ → Certificate → Type 0
IsTextOf bytes cert = AreLinesOf (cut bytes) cert

-- some text stands for the certificate
abbrev pub HasText : Certificate → Type 0
HasText cert = (bytes : List ℕ) × IsTextOf bytes cert
