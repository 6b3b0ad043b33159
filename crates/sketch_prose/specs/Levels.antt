-- Inner: no public clause cites this file.
-- How far a tree is told, and what is left of it.
use Rattle.std.specs.Prelude.{ℕ, ◌≡◌, ◌-◌, Bool, List, [], ◌∷◌, ◌++◌, length, map, Option, Some, None}
use Rattle.std.specs.List.{Contains}
use Rattle.figures.specs.Figures.{Figure, Sketch}
use Rattle.sketch_checker.specs.Able.{IsAble}
use Rattle.sketch_checker.specs.DueNodes.{Due, first_due}
use Rattle.sketch_checker.specs.Walks.{AreDue}
use Rattle.sketch_proof.specs.Proofs.{Holds, Setting, with_lines}
use Rattle.sketch_prose.specs.Sentences.{AllSay, Sentence, all_words, unmoved}
use Rattle.sketch_words.specs.Phrases.{Spot}
use Rattle.sketch_prose.specs.Telling.{Adds, TellsBelow, TellsEach, TellsOne, first_spot, known_with, marks_told, next_number, spot_below}
use Rattle.sketch_prose.specs.Leaves.{own_line}
use Rattle.sketch_prose.specs.declared.leaves.Leaf.{Leaf}
use Rattle.sketch_text.specs.Marks.{Marks}
use Rattle.sketch_text.specs.Trees.{Line, Node, Nodes, Reason, count, lines_below, lines_each, node, of_marks}
use Rattle.sketch_text.specs.declared.labels.Label.{Label}
use Rattle.sketch_text.specs.declared.nodes.SketchNode.{SketchNode}

-- The nodes below one that are still to be told: where, with which number the next one is told by itself, how many
-- they are, and those that are due.
pub record Level : Type 0 where
  pub spot : Spot
  pub number : ℕ
  pub count : ℕ
  pub due : List Due

-- a step of it, or a walk over it, has room and squares, as those of a board's sketch have
pub record IsFit (o : List Bool) (S : Sketch) : Type 0 where
  pub able : IsAble o S
  pub whole : (f : Figure) → Contains S f → length f.squares ≡ 64

abbrev pub AreFit : List Bool → List Due → Type 0
AreFit o [] = Unit {0}
AreFit o (d ∷ ds) = IsFit o d.sketch × AreFit o ds

-- these nodes are left at each level, the lowest first, they hold, and the lines are theirs
abbrev pub AreLeft : Setting → List Level → List Nodes → List Line → Type 0
AreLeft g [] [] lines = lines ≡ []
AreLeft g [] (ns ∷ fs) lines = ⊥
AreLeft g (v ∷ vs) [] lines = ⊥
AreLeft g (v ∷ vs) (ns ∷ fs) lines =
    (rest : List Line) × (count ns ≡ v.count) × AreDue ns g v.due × AreFit g.odds v.due × (lines ≡ lines_each ns ++ rest) × AreLeft g vs fs rest

-- these sentences tell them
abbrev pub TellsAll : Setting → List Level → List Nodes → List Sentence → Type 0
TellsAll g [] [] ss = ss ≡ []
TellsAll g [] (ns ∷ fs) ss = ⊥
TellsAll g (v ∷ vs) [] ss = ⊥
TellsAll g (v ∷ vs) (ns ∷ fs) ss =
    (a : List Sentence) × (b : List Sentence) × (ss ≡ a ++ b) × TellsEach ns g v.spot v.number v.due a × TellsAll g vs fs b

-- Sentences that hold were written, after which this is left; with those that tell it they tell what was left before.
pub record GoesOn (g : Setting) (diagram : Sketch) (old : List Level) (fs : List Nodes) (new : List Level) (rest : List Line) (before after : List ℕ) : Type 0 where
  pub forests : List Nodes
  pub left : AreLeft g new forests rest
  pub said : List Sentence
  pub so : AllSay g said
  pub tells : (ss : List Sentence) → TellsAll g new forests ss → TellsAll g old fs (said ++ ss)
  pub text : after ≡ before ++ all_words g diagram said

-- the nodes below one are these at this level, or there are none; and with the sentences that tell them these tell its end
abbrev pub OpensBelow : Reason → Setting → Spot → Sketch → List Sentence → Option Level → Type 0
OpensBelow r g at S said None = (lines_below r ≡ []) × TellsBelow r g at S said
OpensBelow r g at S said (Some v) =
    (ns : Nodes) × (lines_below r ≡ lines_each ns) × (count ns ≡ v.count) × AreDue ns g v.due × AreFit g.odds v.due × ((ss : List Sentence) → TellsEach ns g v.spot v.number v.due ss → TellsBelow r g at S (said ++ ss))

-- the end was told by sentences that hold
pub record EndsTold (r : Reason) (g : Setting) (diagram : Sketch) (at : Spot) (S : Sketch) (below : Option Level) (before after : List ℕ) : Type 0 where
  pub said : List Sentence
  pub so : AllSay g said
  pub opens : OpensBelow r g at S said below
  pub text : after ≡ before ++ all_words g diagram said

-- What was left is left at these levels, since the others are told; the sentences that tell them are the same.
pub record Passes (g : Setting) (old : List Level) (fs : List Nodes) (new : List Level) (lines : List Line) : Type 0 where
  pub forests : List Nodes
  pub left : AreLeft g new forests lines
  pub tells : (ss : List Sentence) → TellsAll g new forests ss → TellsAll g old fs ss

-- the levels with one below, if there is one
abbrev pub back : Option Level → List Level → List Level
back None vs = vs
back (Some v) vs = v ∷ vs

-- behind its number: who never moved, its marks, and its end with the level of what is below
pub record OpenTold (ms : List Marks) (r : Reason) (g : Setting) (diagram : Sketch) (label : Label) (at : Spot) (n : ℕ) (S : Sketch) (below : Option Level) (before after : List ℕ) : Type 0 where
  pub middle : List ℕ
  pub head : Adds g diagram (unmoved at.known S ∷ marks_told g ms S) before middle
  pub ends : EndsTold r g diagram (spot_below label at n (known_with g ms S)) (with_lines ms S) below middle after

-- ONE NODE

-- a node of this sketch that is due
abbrev pub due_with : Label → Sketch → Due
due_with label S = record { label = label; sketch = S }

-- the lines below a node
abbrev pub lines_under : Node → List Line
lines_under (node label marks reason) = lines_below reason

abbrev pub marks_of : Node → List Marks
marks_of (node label marks reason) = marks

-- the node of this line is the first of those that are due, it holds, and these lines come behind its own: its marks, those below it, those
-- of so many siblings, and others
pub record IsHere (x : Node) (ns : Nodes) (d : Due) (g : Setting) (left : ℕ) (line : SketchNode) (lines rest : List Line) : Type 0 where
  pub own : line ≡ own_line x
  pub holds : Holds x g d.label d.sketch
  pub fit : IsFit g.odds d.sketch
  pub siblings : count ns ≡ left
  pub lines_are : lines ≡ map (λ m. of_marks m) (marks_of x) ++ (lines_under x ++ (lines_each ns ++ rest))

-- the nodes below one are these at this level, or there are none; and with the sentences that tell them these tell it
abbrev pub OpensNode : Node → Setting → Spot → ℕ → Due → List Sentence → Option Level → Type 0
OpensNode x g at n d said None = (lines_under x ≡ []) × TellsOne x g at n d said
OpensNode x g at n d said (Some v) =
    (ms : Nodes) × (lines_under x ≡ lines_each ms) × (count ms ≡ v.count) × AreDue ms g v.due × AreFit g.odds v.due × ((ss : List Sentence) → TellsEach ms g v.spot v.number v.due ss → TellsOne x g at n d (said ++ ss))

-- the node was told by sentences that hold, up to what is below it
pub record NodeTold (x : Node) (g : Setting) (diagram : Sketch) (at : Spot) (n : ℕ) (d : Due) (below : Option Level) (before after : List ℕ) : Type 0 where
  pub said : List Sentence
  pub so : AllSay g said
  pub opens : OpensNode x g at n d said below
  pub text : after ≡ before ++ all_words g diagram said

-- the level behind a node of so many, which was told so
abbrev pub behind : Spot → ℕ → ℕ → List Due → Leaf → Level
behind at n count due leaf = record { spot = at; number = next_number leaf n; count = count - 1; due = due }

-- ALL NODES

-- the level of the first node
abbrev pub first_level : Sketch → Level
first_level S = record { spot = first_spot; number = 1; count = 1; due = first_due S ∷ [] }

-- all that was left was told by sentences that hold
pub record ToldWhole (g : Setting) (diagram : Sketch) (old : List Level) (fs : List Nodes) (before after : List ℕ) : Type 0 where
  pub said : List Sentence
  pub so : AllSay g said
  pub tells : TellsAll g old fs said
  pub text : after ≡ before ++ all_words g diagram said
