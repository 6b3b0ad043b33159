-- The nodes below one, as they are told together.
use Rattle.std.specs.Prelude.{ℕ, ◌≡◌, ◌++◌, cond, List, [], ◌∷◌, Option, Some, None}
use Rattle.figures.specs.Figures.{Sketch}
use Rattle.sketch_checker.specs.DueNodes.{Due}
use Rattle.sketch_proof.specs.Proofs.{Setting}
use Rattle.sketch_prose.specs.Leaves.{leaf_of, own_line}
use Rattle.sketch_prose.specs.Sentences.{IsForeign, Sentence, denied}
use Rattle.sketch_prose.specs.declared.leaves.Leaf.{Leaf}
use Rattle.sketch_prose.specs.declared.leaves.Leaf.TheVariants.{Shut, Astray, Open}
use Rattle.sketch_text.specs.Trees.{Nodes, more, none}
use Rattle.sketch_words.specs.Denials.{is_told}
use Rattle.sketch_words.specs.Phrases.{Spot}
use Rattle.sketch_words.specs.declared.spots.Child.{Child}
use Rattle.sketch_words.specs.declared.spots.Flaw.{Flaw}
use Rattle.sketch_words.specs.declared.spots.Flaw.TheVariants.{Unbalanced, Foreign}

-- why a node can't have been, if no more is told of it
abbrev pub FlawOf : Leaf → Setting → Sketch → Option Flaw → Type 0
FlawOf (Shut k) g S w = w ≡ Some Unbalanced
FlawOf Astray g S w = (s : ℕ) × IsForeign g S s × (w ≡ Some (Foreign s))
FlawOf Open g S w = w ≡ None

-- these are the nodes that are due, in order, each with what leads to it and why it can't have been
abbrev pub AreChildren : Nodes → Setting → List Due → List Child → Type 0
AreChildren none g ds cs = cs ≡ []
AreChildren (more x ns) g [] cs = ⊥
AreChildren (more x ns) g (d ∷ ds) cs =
    (w : Option Flaw) × (rest : List Child) × FlawOf (leaf_of (own_line x)) g d.sketch w × (cs ≡ record { label = d.label; flaw = w } ∷ rest) × AreChildren ns g ds rest

-- that all of them with this flaw can't have been, if none of these before has it
abbrev pub first_told : Spot → List Child → List Due → List Child → Option Flaw → List Sentence
first_told at all ds before None = []
first_told at all ds before (Some w) = cond (is_told before w) [] (denied at all ds w ∷ [])

-- the sentences that tell which of them can't have been, one for each flaw, by the first with it
abbrev pub denials_told : Spot → List Child → List Due → List Child → List Child → List Sentence
denials_told at all ds before [] = []
denials_told at all ds before (c ∷ cs) = first_told at all ds before c.flaw ++ denials_told at all ds (before ++ c ∷ []) cs
