-- Inner: no public clause cites this file.
-- Sketches that are put together line by line.
use Rattle.std.specs.Prelude.{List, [], ◌∷◌}
use Rattle.sketch_body.specs.Bodies.{Body, Item}
use Rattle.sketch_body.specs.Seen.{with_item}

-- a sketch, and these lines after its others
abbrev pub gathered : Body → List Item → Body
gathered b [] = b
gathered b (i ∷ items) = gathered (with_item b i) items
