-- Sketches that are read to their ends.
use Rattle.std.specs.Prelude.{ℕ, ◌≡◌, ◌+◌, ◌≤◌, true, List, [], length, Some}
use Rattle.sketch_text.specs.Heads.{Head}
use Rattle.sketch_body.specs.Bodies.{AreTextsOf, Body, Item, head_of, items_of, most_units, units_of}
use Rattle.sketch_body.specs.Due.{Leads, Reading, is_over, start}

-- behind the first line of a sketch, and sketches with so many units, these texts say these and lead there
pub record ReadsTo (units : ℕ) (h : Head) (texts : List (List ℕ)) (items : List Item) (last : Reading) : Type 0 where
  pub first : Reading
  pub starts : start units h ≡ Some first
  pub leads : Leads first texts items last

-- nothing is due, and all units are charged
abbrev pub ended : ℕ → Body → Reading
ended units b = record { due = record { prices = length b.prices; wanted = 0; marks = 0; nodes = [] }; units = units + units_of b }

-- The texts are those of the lines below the first, which is this, of a sketch, and say its lines. With those of the sketches before its
-- units aren't too many.
pub record EndsAs (units : ℕ) (h : Head) (texts : List (List ℕ)) (items : List Item) (last : Reading) (b : Body) : Type 0 where
  pub head : head_of b ≡ h
  pub items_are : items ≡ items_of b
  pub texts_are : AreTextsOf texts b
  pub last_is : last ≡ ended units b
  pub few : units + units_of b ≤ most_units

-- these lines end the reading, and its units stay
pub record IsEnding (r : Reading) (texts : List (List ℕ)) (items : List Item) (last : Reading) : Type 0 where
  pub leads : Leads r texts items last
  pub over : is_over last.due ≡ true
  pub units_are : last.units ≡ r.units
