-- The steps of a sketch in a list, each with the sketch before it.
use Rattle.std.specs.Prelude.{ℕ, ◌+◌, ◌-◌, ◌==◌, Bool, true, false, cond, ◌&&◌, not, nat_lt, max, length, List, [], ◌∷◌, ◌++◌, map, Option, Some, None, count_by}
use Rattle.std.specs.List.{filter, flat_map, list_any, range_with_len}
use Rattle.board_base.specs.Board.{array_of, at, file, is_in, is_of, opponent, rank, same_colour}
use Rattle.board_base.specs.Play.{ahead, behind}
use Rattle.board_base.specs.Legal.{last_rank}
use Rattle.board_base.specs.declared.men.Colour.{Colour}
use Rattle.board_base.specs.declared.men.Kind.{Kind}
use Rattle.board_base.specs.declared.men.Kind.TheVariants.{Pawn, Knight, Bishop, Rook, Queen}
use Rattle.past_account.specs.Clashes.{is_clash}
use Rattle.past_account.specs.Figures.{Figure, Sketch, each_changed, figure_at, may_be}
use Rattle.past_account.specs.Steps.{Step, changed_by, is_step, victim_on}
use Rattle.past_account.specs.Touching.{side_checks}
use Rattle.sketch_steps.specs.TrimmedOut.{trimmed_out}
use Rattle.sketch_steps.specs.Places.{recounted}
use Rattle.sketch_list.specs.declared.steps.Victim.{Victim}
use Rattle.sketch_list.specs.declared.steps.Victim.TheVariants.{Nobody, TakenPawn, TakenBishop, TakenOther, PassedPawn}

-- A listed step: the figure with this number went as a pawn from one square to another and took somebody or nobody. On the file of its
-- origin so many pawns were above it.
pub record Listed : Type 0 where
  pub by : ℕ
  pub from : ℕ
  pub to : ℕ
  pub victim : Victim
  pub above : ℕ

-- PLACES

-- the figure may be a pawn on this file
unfoldable pub is_on_file : ℕ → Figure → Bool
is_on_file n g = may_be g Pawn && list_any (λ s. is_in g.squares s && (file s == n)) (range_with_len 0 64)

-- so he may, in this place or a higher one
unfoldable pub is_from : ℕ → ℕ → Figure → Bool
is_from n p g = is_on_file n g && not (nat_lt g.place p)

-- how many are there from this place on
unfoldable pub count_from : Sketch → ℕ → ℕ → ℕ
count_from T n p = count_by (is_from n p) T

-- a pawn above whom there are k is above this one, as more than k are no lower
unfoldable pub is_under : Sketch → ℕ → ℕ → Figure → Bool
is_under T n k g = is_on_file n g && nat_lt k (count_from T n g.place)

-- the lowest place above all figures that pass the test
unfoldable pub next_above : (Figure → Bool) → Sketch → ℕ
next_above p [] = 0
next_above p (g ∷ T) = max (cond (p g) (g.place + 1) 0) (next_above p T)

-- THE STEP

-- he went straight on, and is still a pawn
unfoldable pub is_advance : Figure → Listed → Bool
is_advance f y = (file y.from == file y.to) && not (rank y.to == last_rank f.colour)

-- his place before the step: his own if he went straight on and is still a pawn, else the lowest one with so many above him
unfoldable pub place_before : Sketch → Figure → Listed → ℕ
place_before T f y = cond (is_advance f y) f.place (next_above (is_under T (file y.from) y.above) T)

-- the kind of the man whom he took on the target; for a knight, a rook or a queen the knight
abbrev pub kind_taken : Victim → Option Kind
kind_taken Nobody = None
kind_taken TakenPawn = Some Pawn
kind_taken TakenBishop = Some Bishop
kind_taken TakenOther = Some Knight
kind_taken PassedPawn = None

-- the pawn that was taken en passant
abbrev pub is_passed : Victim → Bool
is_passed PassedPawn = true
is_passed Nobody = false
is_passed TakenPawn = false
is_passed TakenBishop = false
is_passed TakenOther = false

-- as a step of the sketch
unfoldable pub step_for : Sketch → Figure → Listed → Step
step_for T f y = record { by = y.by; from = y.from; to = y.to; taken = kind_taken y.victim; passing = is_passed y.victim; place = place_before T f y }

-- THE SKETCH BEFORE IT

-- the man whom f took, coming to t, if he did
abbrev pub victims_as : Figure → ℕ → Victim → List Figure
victims_as f t Nobody = []
victims_as f t TakenPawn = victim_on f Pawn t ∷ []
victims_as f t TakenBishop = victim_on f Bishop t ∷ []
victims_as f t TakenOther = record (victim_on f Knight t) { kinds = Knight ∷ Rook ∷ Queen ∷ [] } ∷ []
victims_as f t PassedPawn = victim_on f Pawn (ahead f.colour t) ∷ []

-- each figure before the step, and then that man
unfoldable pub figures_before : Sketch → Figure → Listed → Sketch
figures_before T f y = each_changed (changed_by f.colour (step_for T f y)) 0 T ++ victims_as f y.to y.victim

-- the sketch before the step, its places counted anew, and trimmed
unfoldable pub sketch_before : Sketch → Figure → Listed → Sketch
sketch_before T f y = trimmed_out (recounted (figures_before T f y))

-- THE LIST

-- the men of this colour in the array are more than the figures
unfoldable pub is_short : List Bool → Sketch → Colour → Bool
is_short o T c = nat_lt (count_by (λ f. same_colour c f.colour) T) (count_by (λ h. is_of c (at (array_of o) h)) (range_with_len 0 64))

-- somebody can have been taken, if the step took one
abbrev pub may_take : List Bool → Sketch → Figure → Victim → Bool
may_take o T f Nobody = true
may_take o T f TakenPawn = is_short o T (opponent f.colour)
may_take o T f TakenBishop = is_short o T (opponent f.colour)
may_take o T f TakenOther = is_short o T (opponent f.colour)
may_take o T f PassedPawn = is_short o T (opponent f.colour)

-- so many can have been above him
unfoldable pub may_be_above : Sketch → Figure → Listed → Bool
may_be_above T f y = cond (is_advance f y) (y.above == 0) (not (nat_lt (count_from T (file y.from) 0) y.above))

-- before the step nobody clashed, and the side that made it gave no check
abbrev pub is_sound : Sketch → Figure → Bool
is_sound S f = not (is_clash S) && not (side_checks S (Some f))

-- the listed step is one of the sketch, it can have taken somebody, and the sketch before it is sound
unfoldable pub is_open : List Bool → List Bool → Sketch → Figure → Listed → Bool
is_open o exact T f y = may_be_above T f y && is_step exact T (step_for T f y) && may_take o T f y.victim && is_sound (sketch_before T f y) f

-- where a pawn that came to t may have come from: straight behind, one square or two, and one behind on the left and on the right
abbrev pub origins : Colour → ℕ → List ℕ
origins c t = behind c t ∷ behind c (behind c t) ∷ (behind c t - 1) ∷ (behind c t + 1) ∷ []

-- nobody, or who may have fallen
abbrev pub all_victims : List Victim
all_victims = Nobody ∷ TakenPawn ∷ TakenBishop ∷ TakenOther ∷ PassedPawn ∷ []

-- each way to t of the figure with number i, with each victim and each number of men above
abbrev pub ways_to : Sketch → ℕ → Figure → ℕ → List Listed
ways_to T i f t =
    flat_map (λ s. flat_map (λ v. map (λ n. record { by = i; from = s; to = t; victim = v; above = n }) (range_with_len 0 (length T + 1))) all_victims) (origins f.colour t)

-- a listed step, and the sketch before it
pub record Earlier : Type 0 where
  pub step : Listed
  pub sketch : Sketch

-- the figure's open steps, by his squares, with what was before each
unfoldable pub steps_by : List Bool → List Bool → Sketch → ℕ → Option Figure → List Earlier
steps_by o exact T i None = []
steps_by o exact T i (Some f) =
    map (λ y. record { step = y; sketch = sketch_before T f y }) (filter (is_open o exact T f) (flat_map (ways_to T i f) (range_with_len 0 64)))

-- all open steps of the sketch, by figures
unfoldable pub earlier : List Bool → List Bool → Sketch → List Earlier
earlier o exact T = flat_map (λ i. steps_by o exact T i (figure_at T i)) (range_with_len 0 (length T))
