-- Which sketches have texts, as a test.
use Rattle.std.specs.Prelude.{ℕ, ◌-◌, Bool, false, cond, ◌&&◌, nat_le, List, [], ◌∷◌, length, Option, Some, None}
use Rattle.std.specs.List.{list_all}
use Rattle.sketch_text.specs.Heads.{is_head}
use Rattle.sketch_body.specs.Bodies.{Body, Item, head_of, items_of}
use Rattle.sketch_body.specs.Due.{Due, is_over, next}
use Rattle.sketch_body.specs.Texts.{is_item}

-- what is due before the first line below that of a sketch
abbrev pub first_due : ℕ → Due
first_due P = record { prices = P; wanted = P; marks = 0; nodes = 1 ∷ [] }

abbrev pub on_next : Option Due → (Due → Bool) → Bool
on_next None go = false
on_next (Some d) go = go d

-- these lines are all that is due
abbrev pub runs_out : Due → List Item → Bool
runs_out d [] = is_over d
runs_out d (i ∷ items) = on_next (next d i) (λ e. runs_out e items)

-- the first line has a text, and the lines below it are all that is due, and have one each
abbrev pub is_body : Body → Bool
is_body b = is_head (head_of b) && (list_all (is_item (length b.prices)) (items_of b) && runs_out (first_due (length b.prices)) (items_of b))

-- what is left of so many behind these, if they are no more
abbrev pub left_of : ℕ → ℕ → Option ℕ
left_of left n = cond (nat_le n left) (Some (left - n)) None
