-- Inner: no public clause cites this file.
-- What was found, as the body of a node.
use Rattle.std.specs.Prelude.{◌≡◌, ◌⊎◌, true, [], ◌∷◌, map}
use Rattle.sketch_text.specs.declared.labels.Label.TheVariants.{Now}
use Rattle.sketch_text.specs.declared.nodes.End.{End}
use Rattle.sketch_text.specs.declared.nodes.End.TheVariants.{Void, Steps}
use Rattle.sketch_text.specs.Trees.{of_node}
use Rattle.sketch_body.specs.Bodies.{Body}
use Rattle.sketch_body.specs.Whole.{is_body}
use Rattle.sketch_body.specs.Seen.{line_of}
use Rattle.sketch_search.specs.FoundSketch.{FoundSketch}
use Rattle.cert_checker.specs.Sketches.{files_of}

-- the body of one node with this end
abbrev pub one_body : End → Body
one_body end = record { files = []; prices = []; lines = of_node (record { label = Now; marks = 0; end = end }) ∷ [] }

-- it is one that says that a sketch is void, or has no steps
abbrev pub IsPlainBody : Body → Type 0
IsPlainBody b = (b ≡ one_body Void) ⊎ (b ≡ one_body (Steps 0))

-- it has the prices and the lines that were found
pub record IsGatheredFrom (b : Body) (f : FoundSketch) : Type 0 where
  pub prices : b.prices ≡ f.prices.items
  pub lines : b.lines ≡ map line_of f.lines.items

-- and the exact files, and a text
pub record IsBodyOf (b : Body) (f : FoundSketch) : Type 0 where
  pub gathered : IsGatheredFrom b f
  pub files : files_of b.files ≡ f.exact
  pub text : is_body b ≡ true
