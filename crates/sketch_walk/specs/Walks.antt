-- Inner: no public clause cites this file.
-- A walk over all ways of a sketch's figures, which finds its open steps.
use Rattle.std.specs.Prelude.{ℕ, zero, suc, ◌≡◌, ◌+◌, ◌-◌, cond, Bool, ◌&&◌, IsTrue, List, [], ◌∷◌, length, Option, Some, None}
use Rattle.std.specs.List.{list_all}
use Rattle.board_base.specs.Board.{is_in}
use Rattle.board_base.specs.Play.{behind}
use Rattle.board_base.specs.declared.men.Colour.{Colour}
use Rattle.figures.specs.Figures.{Figure, Sketch, figure_at}
use Rattle.sketch_steps.specs.Arrivals.{arrives_on}
use Rattle.sketch_steps.specs.Places.{has_low_place}
use Rattle.sketch_list.specs.Listed.{Earlier, Listed, is_open, sketch_before}
use Rattle.sketch_list.specs.declared.steps.Victim.{Victim}
use Rattle.sketch_list.specs.declared.steps.Victim.TheVariants.{Nobody, TakenPawn, TakenBishop, TakenOther, PassedPawn}
use Rattle.sketch_walk.specs.declared.cursors.Cursor.{Cursor}
use Rattle.sketch_walk.specs.Cursors.{IsInside}
use Rattle.sketch_walk.specs.Nests.{Finds, left}
use Rattle.sketch_walk.specs.Shorts.{AreShort, has_room}
use Rattle.sketch_walk.specs.declared.shorts.Shorts.{Shorts}

-- the origin with this number of a pawn that came to t
abbrev pub origin_at : Colour → ℕ → ℕ → ℕ
origin_at c t zero = behind c t
origin_at c t (suc zero) = behind c (behind c t)
origin_at c t (suc (suc zero)) = behind c t - 1
origin_at c t (suc (suc (suc n))) = behind c t + 1

abbrev pub victim_at : ℕ → Victim
victim_at zero = Nobody
victim_at (suc zero) = TakenPawn
victim_at (suc (suc zero)) = TakenBishop
victim_at (suc (suc (suc zero))) = TakenOther
victim_at (suc (suc (suc (suc n)))) = PassedPawn

abbrev pub way_at : ℕ → Figure → ℕ → ℕ → ℕ → ℕ → Listed
way_at i f t w v n = record { by = i; from = origin_at f.colour t w; to = t; victim = victim_at v; above = n }

-- the step with the sketch before it, if it is open
unfoldable pub if_open : List Bool → List Bool → Sketch → Figure → Listed → List Earlier
if_open o exact T f y = cond (is_open o exact T f y) (record { step = y; sketch = sketch_before T f y } ∷ []) []

abbrev pub found_by : List Bool → List Bool → Sketch → Option Figure → Finds
found_by o exact T None i t w v n = []
found_by o exact T (Some f) i t w v n = if_open o exact T f (way_at i f t w v n)

unfoldable pub found_at : List Bool → List Bool → Sketch → Finds
found_at o exact T i t w v n = found_by o exact T (figure_at T i) i t w v n

-- the open steps from the place on
unfoldable pub left_of : List Bool → List Bool → Sketch → Cursor → List Earlier
left_of o exact T c = left (found_at o exact T) (length T) c

-- the figure may stand on t, and a pawn that comes there may be he
unfoldable pub may_come : Figure → ℕ → Bool
may_come f t = is_in f.squares t && arrives_on f t

-- what was found is the first that is left, and the rest is left then
abbrev pub Finding : List Earlier → Option Earlier → List Earlier → Type 0
Finding old None new = old ≡ new
Finding old (Some e) new = old ≡ e ∷ new

-- so it is, and if nothing was found nothing is left
abbrev pub Ended : List Earlier → Option Earlier → List Earlier → Type 0
Ended old None new = (old ≡ []) × (new ≡ [])
Ended old (Some e) new = old ≡ e ∷ new

-- a walk may go on: the sketches before steps have values, and it is at a place
pub record IsReady (o : List Bool) (T : Sketch) (s : Shorts) (c : Cursor) : Type 0 where
  pub shorts : AreShort o T s
  pub low : IsTrue (list_all has_low_place T)
  pub room : IsTrue (has_room s T)
  pub place : IsInside c
