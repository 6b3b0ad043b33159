-- Inner: no public clause cites this file.
-- What is told of the end of a node, by its kind.
use Rattle.std.specs.Prelude.{ℕ, ◌≡◌, false, List, [], ◌++◌, map, Option, Some}
use Rattle.figures.specs.Figures.{Sketch, fixed_squares}
use Rattle.figures.specs.Homes.{may_be_array}
use Rattle.sketch_checker.specs.DueNodes.{Due, cases_from, due_of}
use Rattle.sketch_grounds.specs.FrozenSets.{greatest_frozen}
use Rattle.sketch_list.specs.Listed.{earlier}
use Rattle.sketch_proof.specs.Nodes.{IsFirstUnknown, IsLeastAbove}
use Rattle.sketch_proof.specs.Proofs.{Setting}
use Rattle.sketch_prose.specs.Children.{AreChildren}
use Rattle.sketch_prose.specs.Levels.{Level}
use Rattle.sketch_prose.specs.Sentences.{IsForeign}
use Rattle.sketch_words.specs.Crowds.{first_crowded, why_words}
use Rattle.sketch_words.specs.Denials.{denials_words}
use Rattle.sketch_words.specs.Phrases.{Spot, foreign_words, is_top, settled_words, stepped_words, unknown_words}
use Rattle.sketch_words.specs.Words.{set_words, without}
use Rattle.sketch_words.specs.declared.spots.Child.{Child}
use Rattle.sketch_text.specs.Trees.{Nodes, count}
use Rattle.sketch_text.specs.declared.labels.Officer.TheVariants.{Knight}

-- the level of so many nodes that are due
abbrev pub level_of : Spot → ℕ → List Due → Level
level_of at count due = record { spot = at; number = 1; count = count; due = due }

-- the square of a man who never moved, but isn't the array's
pub record VoidTold (g : Setting) (S : Sketch) (before after : List ℕ) : Type 0 where
  pub square : ℕ
  pub foreign : IsForeign g S square
  pub text : after ≡ before ++ foreign_words g.odds square

-- which of these nodes that are due can't have been was put behind
abbrev pub AddsDenials : Nodes → Setting → Spot → List Due → List ℕ → List ℕ → Type 0
AddsDenials ns g at ds before after = (cs : List Child) × AreChildren ns g ds cs × (after ≡ before ++ denials_words g.odds at cs [] cs)

-- why there was a last step, who can't have moved since then, which steps can't have been, and the level of the steps
pub record StepsTold (ns : Nodes) (g : Setting) (diagram : Sketch) (at : Spot) (S : Sketch) (below : Option Level) (before after : List ℕ) : Type 0 where
  pub wide : Sketch
  pub children : List Child
  pub least : IsLeastAbove g.held g.exact S wide
  pub no_array : may_be_array g.odds wide ≡ false
  pub level : below ≡ Some (level_of at (count ns) (map due_of (earlier g.odds g.exact wide)))
  pub are : AreChildren ns g (map due_of (earlier g.odds g.exact wide)) children
  pub text : after ≡ before ++ (stepped_words (is_top at) g.exact (why_words g.odds diagram S wide (first_crowded g.odds wide)) (count ns) ++ (settled_words (set_words (without (fixed_squares wide) (greatest_frozen g.held S))) (count ns) ++ denials_words g.odds at children [] children))

-- of whom it isn't known what he was, which cases can't have been, and the level of his cases
pub record SplitTold (ns : Nodes) (g : Setting) (at : Spot) (S : Sketch) (s : ℕ) (below : Option Level) (before after : List ℕ) : Type 0 where
  pub number : ℕ
  pub children : List Child
  pub first : IsFirstUnknown S s number
  pub level : below ≡ Some (level_of at 3 (cases_from Knight number S))
  pub are : AreChildren ns g (cases_from Knight number S) children
  pub text : after ≡ before ++ (unknown_words s ++ denials_words g.odds at children [] children)
