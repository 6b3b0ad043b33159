-- Which sentences tell the tree of a sketch.
use Rattle.std.specs.Prelude.{ℕ, ◌≡◌, ◌+◌, ◌==◌, Bool, List, [], ◌∷◌, ◌++◌, codes, length, map}
use Rattle.std.specs.List.{list_any, range_with_len}
use Rattle.std.specs.Fmt.{decimal}
use Rattle.figures.specs.Figures.{Sketch, sketch_of}
use Rattle.query_base.specs.Asked.{Asked}
use Rattle.sketch_body.specs.Bodies.{Body}
use Rattle.sketch_checker.specs.DueNodes.{Due, case_due, cases_from, due_of, first_due}
use Rattle.sketch_checker.specs.Supports.{setting_of}
use Rattle.sketch_grounds.specs.FrozenSets.{greatest_frozen}
use Rattle.sketch_list.specs.Listed.{earlier}
use Rattle.sketch_proof.specs.Nodes.{IsFirstUnknown, IsLeastAbove, marked_with}
use Rattle.sketch_proof.specs.Proofs.{Setting, with_lines}
use Rattle.sketch_prose.specs.Children.{AreChildren, denials_told}
use Rattle.sketch_prose.specs.Leaves.{leaf_of, own_line}
use Rattle.sketch_prose.specs.Sentences.{AllSay, IsForeign, Sentence, all_words, foreign, marked as marked_by, numbered, settled, stepped, unbalanced, unknown, unmoved}
use Rattle.sketch_words.specs.Phrases.{Spot, is_top}
use Rattle.sketch_words.specs.Words.{nowhere}
use Rattle.sketch_words.specs.declared.spots.Child.{Child}
use Rattle.sketch_prose.specs.declared.leaves.Leaf.{Leaf}
use Rattle.sketch_prose.specs.declared.leaves.Leaf.TheVariants.{Shut, Astray, Open}
use Rattle.sketch_text.specs.Marks.{Marks}
use Rattle.sketch_text.specs.Trees.{Node, Nodes, Reason, closed, count, end_of, lines_of, more, node, none, split, steps, void}
use Rattle.sketch_text.specs.declared.labels.Label.{Label}
use Rattle.sketch_text.specs.declared.labels.Label.TheVariants.{Now, Step, Case}
use Rattle.sketch_text.specs.declared.labels.Officer.TheVariants.{Knight, Rook, Queen}

-- WHERE A NODE IS TOLD

-- the number of the next sibling that is told by itself
abbrev pub next_number : Leaf → ℕ → ℕ
next_number (Shut k) n = n
next_number Astray n = n
next_number Open n = n + 1

-- what the numbers of the nodes below one begin with
abbrev pub prefix_below : Label → Spot → ℕ → List ℕ
prefix_below Now at n = at.prefix
prefix_below (Step x) at n = at.prefix ++ decimal n ++ codes "."
prefix_below (Case k) at n = at.prefix ++ decimal n ++ codes "."

-- the spot of the nodes below one with this number, where these men are said never to have moved
abbrev pub spot_below : Label → Spot → ℕ → List Bool → Spot
spot_below label at n known = record { lead = at.lead ++ codes " "; prefix = prefix_below label at n; known = known }

-- WHAT IS TOLD

-- a line of marks, and who then never moved too
abbrev pub mark_told : Setting → Marks → Sketch → List Sentence
mark_told g m S = marked_by m S ∷ unmoved (greatest_frozen g.held S) (marked_with m.figures S) ∷ []

-- all of them
abbrev pub marks_told : Setting → List Marks → Sketch → List Sentence
marks_told g [] S = []
marks_told g (m ∷ ms) S = mark_told g m S ++ marks_told g ms (marked_with m.figures S)

-- what is told of a node before its end: its number and what leads to it; who never moved; its marks
abbrev pub head_told : Setting → Spot → ℕ → Due → List Marks → List Sentence
head_told g at n d marks = numbered at n d ∷ unmoved at.known d.sketch ∷ marks_told g marks d.sketch

-- who never moved in the sketch of a node with its marks
abbrev pub known_with : Setting → List Marks → Sketch → List Bool
known_with g marks S = greatest_frozen g.held (with_lines marks S)

-- A node is told in a line with siblings, or else by itself.
abbrev pub TellsAs : Leaf → Type 0 → List Sentence → Type 0
TellsAs (Shut k) Alone ss = ss ≡ []
TellsAs Astray Alone ss = ss ≡ []
TellsAs Open Alone ss = Alone

abbrev mutual
  -- These sentences tell a node that is due, as number n of those that are told by themselves; none if it is told in a line with siblings.
  pub TellsOne : Node → Setting → Spot → ℕ → Due → List Sentence → Type 0
  TellsOne (node label marks reason) g at n d ss =
      TellsAs (leaf_of (record { label = label; marks = length marks; end = end_of reason }))
      ((below : List Sentence) × (ss ≡ head_told g at n d marks ++ below) × TellsBelow reason g (spot_below label at n (known_with g marks d.sketch)) (with_lines marks d.sketch) below) ss

  -- These tell the end of a node, and the nodes below it: that it is void, with the square of a man; that it is closed; that there was a last
  -- step, who can't have moved since then, which of the steps of the least closed sketch can't have been, and the others, in order; or of
  -- whom it isn't known what he was, which case can't have been, and the others.
  pub TellsBelow : Reason → Setting → Spot → Sketch → List Sentence → Type 0
  TellsBelow void g at S ss = (s : ℕ) × IsForeign g S s × (ss ≡ foreign s S ∷ [])
  TellsBelow (closed k) g at S ss = ss ≡ unbalanced k S ∷ []
  TellsBelow (steps ns) g at S ss =
      (T : Sketch) × (cs : List Child) × (rest : List Sentence) × IsLeastAbove g.held g.exact S T × AreChildren ns g (map due_of (earlier g.odds g.exact T)) cs × (ss ≡ stepped (is_top at) S T (count ns) ∷ settled S T (count ns) ∷ (denials_told at cs (map due_of (earlier g.odds g.exact T)) [] cs ++ rest)) × TellsEach ns g at 1 (map due_of (earlier g.odds g.exact T)) rest
  TellsBelow (split s knight rook queen) g at S ss =
      (i : ℕ) × (cs : List Child) × (a : List Sentence) × (b : List Sentence) × (c : List Sentence) × IsFirstUnknown S s i × AreChildren (more knight (more rook (more queen none))) g (cases_from Knight i S) cs × (ss ≡ unknown s S ∷ (denials_told at cs (cases_from Knight i S) [] cs ++ (a ++ (b ++ c)))) × TellsOne knight g at 1 (case_due Knight i S) a × TellsOne rook g at (next_number (leaf_of (own_line knight)) 1) (case_due Rook i S) b × TellsOne queen g at (next_number (leaf_of (own_line rook)) (next_number (leaf_of (own_line knight)) 1)) (case_due Queen i S) c

  -- these tell the nodes that are due, one after another
  pub TellsEach : Nodes → Setting → Spot → ℕ → List Due → List Sentence → Type 0
  TellsEach none g at n ds ss = ss ≡ []
  TellsEach (more x ns) g at n [] ss = ⊥
  TellsEach (more x ns) g at n (d ∷ ds) ss =
      (own : List Sentence) × (rest : List Sentence) × (ss ≡ own ++ rest) × TellsOne x g at n d own × TellsEach ns g at (next_number (leaf_of (own_line x)) n) ds rest

-- THE WHOLE

-- where the first node is told
abbrev pub first_spot : Spot
first_spot = record { lead = codes "\n"; prefix = []; known = nowhere }

-- the files with these numbers are exact
abbrev pub exact_files : List ℕ → List Bool
exact_files files = map (λ f. list_any (λ n. n == f) files) (range_with_len 0 8)

-- what the sketch of a certificate stands on, under this query
abbrev pub setting_by : Asked → Body → Setting
setting_by q b = setting_of q (exact_files b.files) b.prices

-- behind what was written before stand the words of these sentences, each of which holds
abbrev pub Adds : Setting → Sketch → List Sentence → List ℕ → List ℕ → Type 0
Adds g diagram ss old new = AllSay g ss × (new ≡ old ++ all_words g diagram ss)

-- The sketch is told: the sentences that tell its tree, each of which holds, are written behind what was written before.
abbrev pub AddsSketch : Asked → Body → List ℕ → List ℕ → Type 0
AddsSketch q b old new =
    (tree : Node) × (ss : List Sentence) × (lines_of tree ≡ b.lines) × TellsOne tree (setting_by q b) first_spot 1 (first_due (sketch_of q.board)) ss × Adds (setting_by q b) (sketch_of q.board) ss old new
