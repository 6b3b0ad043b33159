-- Paragraphs: each tells a node, or several that differ in the captured man alone and of which the same is said.
use Rattle.std.specs.Prelude.{ℕ, ◌-◌, ◌==◌, nat_lt, Bool, true, false, cond, ◌&&◌, List, [], ◌∷◌, ◌++◌, codes, length, slice_index_or, Option, Some, None, is_some}
use Rattle.std.specs.Fmt.{decimal}
use Rattle.std.specs.List.{find}
use Rattle.std.specs.Str.{bytes_eq}
use Rattle.board_base.specs.Legal.{is_move}
use Rattle.board_base.specs.declared.men.Kind.{Kind}
use Rattle.board_base.specs.declared.unmoves.Unmove.{Unmove}
use Rattle.query_base.specs.Asked.{Asked}
use Rattle.proof_prose.specs.Labels.{label_words}
use Rattle.prose_words.specs.Words.{kind_word}
use Rattle.proof_story.specs.Rows.{rows_of}
use Rattle.proof_prose.specs.declared.bodies.Spoken.{Spoken}
use Rattle.proof_prose.specs.declared.nodes.Line.{Line}
use Rattle.proof_prose.specs.declared.nodes.Line.TheVariants.{Because, Sketched, Back, Moves}
use Rattle.proof_prose.specs.declared.nodes.Told.{Told}
use Rattle.proof_prose.specs.declared.paragraphs.Said.{Said}

-- nodes that a paragraph tells, of each of which it says the same
pub record Paragraph : Type 0 where
  pub first : Spoken
  pub others : List Spoken

-- the node has no children
abbrev pub is_leaf : Line → Bool
is_leaf (Because r) = true
is_leaf (Sketched b) = true
is_leaf (Back k above) = true
is_leaf (Moves n) = n == 0

-- the man whom a retraction captured otherwise than en passant
abbrev pub taken_by : Unmove → Option Kind
taken_by u = cond u.ep None u.captured

-- both retractions are of one move, which captured one man or another
abbrev pub are_takings : Unmove → Unmove → Bool
are_takings u v = is_some (taken_by u) && is_some (taken_by v) && is_move (Some u.mv) v.mv

-- both lead to nodes so
abbrev pub are_labels_alike : Option Unmove → Option Unmove → Bool
are_labels_alike None other = false
are_labels_alike (Some u) None = false
are_labels_alike (Some u) (Some v) = are_takings u v

-- children of one node that differ in the captured man alone
abbrev pub are_alike : Told → Told → Bool
are_alike a b = are_labels_alike a.label b.label && bytes_eq a.prefix b.prefix

-- the second node is told with the first, behind it: neither has children, they are alike, and the same is said of both
abbrev pub joins : Spoken → Spoken → Bool
joins a b = is_leaf a.node.line && is_leaf b.node.line && are_alike a.node b.node && bytes_eq a.body b.body

-- a node by itself
abbrev pub alone : Spoken → Paragraph
alone s = record { first = s; others = [] }

-- the nodes of a paragraph behind another
abbrev pub joined : Spoken → Paragraph → Paragraph
joined s p = record { first = s; others = p.first ∷ p.others }

-- a node before paragraphs: the first of these is told with it, or not
abbrev pub put_before : Spoken → List Paragraph → List Paragraph
put_before s [] = alone s ∷ []
put_before s (p ∷ ps) = cond (joins s p.first) (joined s p ∷ ps) (alone s ∷ p ∷ ps)

-- the paragraphs of these nodes: the longest runs of nodes each of which is told with the one before
abbrev pub paragraphs_of : List Spoken → List Paragraph
paragraphs_of [] = []
paragraphs_of (s ∷ rest) = put_before s (paragraphs_of rest)

-- the word for the man whom a retraction captured
abbrev pub captured_word : Option Unmove → List ℕ
captured_word None = []
captured_word (Some u) = elim u.captured [ None ↦ [] | Some k ↦ kind_word k ]

-- the man whom a node's retraction captured, as the last of several or as one before
abbrev pub kind_part : Bool → Spoken → List ℕ
kind_part last s = cond last (codes " or ") (codes ", ") ++ captured_word s.node.label

-- the men who may have been captured in the place of the first one, as in `, bishop or rook`
abbrev pub kinds_words : List Spoken → List ℕ
kinds_words [] = []
kinds_words (s ∷ rest) = kind_part (length rest == 0) s ++ kinds_words rest

-- a place after another, where it is another
abbrev pub last_words : ℕ → ℕ → List ℕ
last_words first last = cond (last == first) [] (codes "-" ++ decimal last)

-- the numbers from this place to the last, behind what they begin with
abbrev pub numbers_words : List ℕ → ℕ → ℕ → List ℕ
numbers_words prefix first last = prefix ++ decimal first ++ last_words first last

-- the numbers of a node and of its siblings up to this place; the root has none
abbrev pub name_at : Option Unmove → List ℕ → ℕ → ℕ → List ℕ
name_at None prefix first last = []
name_at (Some u) prefix first last = numbers_words prefix first last

-- the place of the last of these nodes
abbrev pub last_place : Spoken → List Spoken → ℕ
last_place s others = (slice_index_or others (length others - 1) s).node.place

-- the numbers of these nodes
abbrev pub name_from : Spoken → List Spoken → List ℕ
name_from s others = name_at s.node.label s.node.prefix s.node.place (last_place s others)

-- the retraction behind the numbers, with the men who may have been captured
abbrev pub move_part : Unmove → Asked → List ℕ → List ℕ → List ℕ
move_part u whence name kinds = name ++ codes " " ++ label_words whence u ++ kinds ++ codes ". "

-- the same; the root has no retraction
abbrev pub heading_at : Option Unmove → Asked → List ℕ → List ℕ → List ℕ
heading_at None whence name kinds = []
heading_at (Some u) whence name kinds = move_part u whence name kinds

-- what a paragraph begins with
abbrev pub heading_of : Paragraph → List ℕ
heading_of p = heading_at p.first.node.label p.first.node.whence (name_from p.first p.others) (kinds_words p.others)

-- that it is what another paragraph says
abbrev pub as_in : List ℕ → List ℕ
as_in name = codes "As in " ++ name ++ codes "."

-- the numbers of a paragraph and what it says
abbrev pub said_of : Paragraph → Said
said_of p = record { name = name_from p.first p.others; body = p.first.body }

-- the first of the earlier paragraphs that says this, if one does
abbrev pub first_saying : List ℕ → List Said → Option Said
first_saying body earlier = find (λ s. bytes_eq s.body body) earlier

-- what is said, or that it is as in an earlier paragraph
abbrev pub said_or : List ℕ → Option Said → List ℕ
said_or body None = body
said_or body (Some s) = as_in s.name

-- what stands behind the heading: more than sixty letters that an earlier paragraph has are told by its number, the first such
abbrev pub said_words : List ℕ → List Said → List ℕ
said_words body earlier = cond (nat_lt 60 (length body)) (said_or body (first_saying body earlier)) body

-- the rows of a paragraph behind earlier ones
abbrev pub paragraph_text : List Said → Paragraph → List ℕ
paragraph_text earlier p = rows_of (heading_of p ++ said_words p.first.body earlier)

-- the text of paragraphs behind earlier ones
abbrev pub told_after : List Said → List Paragraph → List ℕ
told_after earlier [] = []
told_after earlier (p ∷ ps) = paragraph_text earlier p ++ told_after (earlier ++ said_of p ∷ []) ps

-- the text of these nodes
abbrev pub told_text : List Spoken → List ℕ
told_text spoken = told_after [] (paragraphs_of spoken)
