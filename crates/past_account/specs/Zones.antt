-- Zones: where the pawn of a figure can have stood; and regions of officers who didn't go over all squares of a zone.
use Rattle.std.specs.Prelude.{ℕ, ◌≡◌, ◌-◌, ◌==◌, Bool, false, ◌&&◌, ◌||◌, not, nat_lt, IsTrue, List, Option, Some, None}
use Rattle.std.specs.List.{Contains, list_all, list_any, range_with_len}
use Rattle.board_base.specs.Board.{file, is_in, same_kind}
use Rattle.board_base.specs.Attacks.{king_distance, on_the_way}
use Rattle.board_base.specs.declared.men.Kind.{Kind}
use Rattle.board_base.specs.declared.men.Kind.TheVariants.{Pawn, Knight}
use Rattle.board_base.specs.declared.men.Man.{Man}
use Rattle.play_rules.specs.Laws.{is_end}
use Rattle.play_rules.specs.Reach.{IsWithin}
use Rattle.cage_rules.specs.Regions.{may_roam}
use Rattle.cage_rules.specs.Sets.{each_set, squares_that}
use Rattle.men_fates.specs.Ways.{is_pawn_step}
use Rattle.past_sketches.specs.Figures.{Figure, Sketch, figure_at}

-- Article 3.7: a pawn who isn't of the set may have stood on z, neither on rank 1 or 8 nor on the set
abbrev pub may_hold : List Bool → ℕ → Bool
may_hold set z = nat_lt z 64 && not (is_end z || is_in set z)

-- Article 3.7: the figure's pawn, who isn't of the set, goes from z to t, straight on if he is marked
abbrev pub goes_on : List Bool → Figure → ℕ → ℕ → Bool
goes_on set f z t = may_hold set z && is_pawn_step f.colour set z t && (not f.marked || (file z == file t))

-- The figure is a pawn, and the zone has his squares, and each from which he goes on to one of its squares.
pub record IsZone (set : List Bool) (f : Figure) (zone : List Bool) : Type 0 where
  pub pawn : IsTrue (list_all (λ k. same_kind Pawn k) f.kinds)
  pub squares : IsWithin f.squares zone
  pub closed : (z t : ℕ) → IsTrue (is_in zone t) → IsTrue (goes_on set f z t) → IsTrue (is_in zone z)

-- each of them is the zone of a figure
abbrev pub AreZones : List Bool → Sketch → List (List Bool) → Type 0
AreZones set S zones = (zone : List Bool) → Contains zones zone → (i : ℕ) × (f : Figure) × (figure_at S i ≡ Some f) × IsZone set f zone

-- a man of this kind who goes from t to u is on z, or goes over it
abbrev pub is_trodden : Kind → ℕ → ℕ → ℕ → Bool
is_trodden k t u z = (z == t) || (z == u) || (not (same_kind Knight k) && list_any (λ j. on_the_way t u j == z) (range_with_len 1 (king_distance t u - 1)))

-- so he is or does with each square of the zone
abbrev pub treads_all : Kind → ℕ → ℕ → List Bool → Bool
treads_all k t u zone = list_all (λ z. not (is_in zone z) || is_trodden k t u z) (range_with_len 0 64)

-- Articles 3.2 to 3.6: on the board with walls this man goes from t to u, and leaves each zone a square
abbrev pub roams_past : List Bool → List (List Bool) → Option Man → ℕ → ℕ → Bool
roams_past set zones None t u = false
roams_past set zones (Some m) t u = may_roam set (Some m) t u && not (list_any (treads_all m.kind t u) zones)

-- who goes so leaves these squares nowhere
unfoldable pub is_closed_by : (ℕ → ℕ → Bool) → List Bool → Bool
is_closed_by goes within = list_all (λ t. list_all (λ u. not (is_in within t && goes t u && not (is_in within u))) (range_with_len 0 64)) (range_with_len 0 64)

-- the least set of squares that has h and that he doesn't leave: the squares that each such set has
unfoldable pub reached_from : (ℕ → ℕ → Bool) → ℕ → List Bool
reached_from goes h = squares_that (λ s. each_set (λ within. not (is_in within h && is_closed_by goes within) || is_in within s))

-- whether a man of this colour and kind can have come from a square, where he began or was promoted, to another
abbrev pub Room : Type 0
Room = Option Man → ℕ → ℕ → Bool

-- beside the set, and past zones
abbrev pub room_past : List Bool → List (List Bool) → Room
room_past set zones m h s = is_in (reached_from (roams_past set zones m) h) s
