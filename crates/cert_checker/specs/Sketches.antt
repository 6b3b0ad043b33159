-- Sketches as bodies of certificates: what supports a query, and what the walk comes to.
use Rattle.std.specs.Prelude.{ℕ, ◌+◌, ◌==◌, Bool, List, length, map}
use Rattle.std.specs.List.{list_any, range_with_len}
use Rattle.query_base.specs.Asked.{Asked}
use Rattle.sketch_body.specs.Bodies.{Body}
use Rattle.sketch_checker.specs.Supports.{BodySupports, BodyWalks}
use Rattle.sketch_checker.specs.TreeWalk.{Wrong, Walked as SketchWalked}
use Rattle.sketch_checker.specs.TreeWalk as sketches
use Rattle.cert_checker.specs.declared.refusals.Why.{Why}
use Rattle.cert_checker.specs.declared.refusals.Why.TheVariants as why

-- the files with these numbers, of eight
abbrev pub files_of : List ℕ → List Bool
files_of files = map (λ f. list_any (λ n. n == f) files) (range_with_len 0 8)

-- the sketch shows that no game comes to the query's board with the rights that it holds
abbrev pub IsSketchOf : Body → Asked → Type 0
IsSketchOf b q = BodySupports q (files_of b.files) b.prices b.lines

-- what the walk over the sketch comes to, whose first line is line n: its lines of prices, and then the first node
abbrev pub WalksSketch : Body → Asked → ℕ → SketchWalked → Type 0
WalksSketch b q n walked = BodyWalks q (files_of b.files) b.prices b.lines (n + 1 + length b.prices) walked

-- the word for what is wrong with a line of a sketch: a label that isn't due is stray, all else is said as of a rule
abbrev pub why_of : Wrong → Why
why_of sketches.stray = why.Stray
why_of sketches.unsupported = why.Rule
