-- Sketches: of some men, on which squares each of them may have stood at one moment of a game.
use Rattle.std.specs.Prelude.{ℕ, zero, suc, ◌≡◌, Bool, false, ◌&&◌, ◌||◌, not, ◌==◌, ◌<◌, IsTrue, List, [], ◌∷◌, Option, Some, None}
use Rattle.std.specs.List.{flat_map, list_all, list_any, range_with_len}
use Rattle.board_base.specs.Board.{Places, at, file, is_in, same_kind, rank}
use Rattle.board_base.specs.declared.men.Colour.{Colour}
use Rattle.board_base.specs.declared.men.Kind.{Kind}
use Rattle.board_base.specs.declared.men.Kind.TheVariants.{Pawn, King}
use Rattle.board_base.specs.declared.men.Man.{Man}
use Rattle.cage_rules.specs.Sets.{squares_that}

-- A figure: a man of this colour, of one of these kinds, on one of these squares, a list of 64 truth values. Marked, he was never
-- promoted if he is an officer, and never captured if he is a pawn. The place is his among the pawns of his file.
pub record Figure : Type 0 where
  pub colour : Colour
  pub kinds : List Kind
  pub squares : List Bool
  pub marked : Bool
  pub place : ℕ

-- some men, each a figure
abbrev pub Sketch : Type 0
Sketch = List Figure

-- the figure with this number, counted from 0
abbrev pub figure_at : Sketch → ℕ → Option Figure
figure_at [] i = None
figure_at (f ∷ T) zero = Some f
figure_at (f ∷ T) (suc i) = figure_at T i

-- the figures, changed by their numbers, of which k is the first
abbrev pub each_changed : (ℕ → Figure → Figure) → ℕ → Sketch → Sketch
each_changed h k [] = []
each_changed h k (f ∷ T) = h k f ∷ each_changed h (suc k) T

-- the figure may be of this kind
abbrev pub may_be : Figure → Kind → Bool
may_be f k = list_any (λ j. same_kind j k) f.kinds

-- the set of one square
abbrev pub only_on : ℕ → List Bool
only_on s = squares_that (λ t. t == s)

-- the figure stands on s, since he has no other square
abbrev pub is_fixed_on : ℕ → Figure → Bool
is_fixed_on s f = is_in f.squares s && list_all (λ t. not (is_in f.squares t) || (t == s)) (range_with_len 0 64)

-- the squares on which a figure is fixed
unfoldable pub fixed_squares : Sketch → List Bool
fixed_squares T = squares_that (λ s. list_any (is_fixed_on s) T)

-- the figure of the man on s, fixed there
abbrev pub figure_of : ℕ → Option Man → List Figure
figure_of s None = []
figure_of s (Some m) = record { colour = m.colour; kinds = m.kind ∷ []; squares = only_on s; marked = false; place = rank s } ∷ []

-- the sketch of a board: a figure for each man, fixed on his square
unfoldable pub sketch_of : Places → Sketch
sketch_of board = flat_map (λ s. figure_of s (at board s)) (range_with_len 0 64)

-- the second figure has the first one's colour, and all kinds and squares that he has; he is marked only if the first is
pub record IsWider (f g : Figure) : Type 0 where
  pub colour : f.colour ≡ g.colour
  pub kinds : (k : Kind) → IsTrue (may_be f k) → IsTrue (may_be g k)
  pub squares : (s : ℕ) → IsTrue (is_in f.squares s) → IsTrue (is_in g.squares s)
  pub marked : IsTrue g.marked → IsTrue f.marked

-- there are as many figures, and each is wider than the first sketch's with his number
abbrev pub AreWider : Sketch → Sketch → Type 0
AreWider [] [] = Unit {0}
AreWider [] (g ∷ T) = ⊥
AreWider (f ∷ S) [] = ⊥
AreWider (f ∷ S) (g ∷ T) = IsWider f g × AreWider S T

-- the places are in the same order
abbrev pub KeepsPlaces : Sketch → Sketch → Type 0
KeepsPlaces S T = (i j : ℕ) (f g f' g' : Figure) → figure_at S i ≡ Some f → figure_at S j ≡ Some g → figure_at T i ≡ Some f' → figure_at T j ≡ Some g' → f.place < g.place → f'.place < g'.place

-- the second sketch is above the first
pub record IsAbove (S T : Sketch) : Type 0 where
  pub wider : AreWider S T
  pub places : KeepsPlaces S T

-- The second sketch has figures of the first, each wider, by other numbers: all kings, and each figure once. Of two who may be pawns on
-- one file, the one with the lower place has it again.
pub record IsRearranged (S T : Sketch) : Type 0 where
  pub from : ℕ → ℕ
  pub wider : (j : ℕ) (g : Figure) → figure_at T j ≡ Some g → (f : Figure) × (figure_at S (from j) ≡ Some f) × IsWider f g
  pub apart : (i j : ℕ) (f g : Figure) → figure_at T i ≡ Some f → figure_at T j ≡ Some g → from i ≡ from j → i ≡ j
  pub kings : (i : ℕ) (f : Figure) → figure_at S i ≡ Some f → IsTrue (may_be f King) → (j : ℕ) × (g : Figure) × (figure_at T j ≡ Some g) × (from j ≡ i)
  pub places : (i j s t : ℕ) (f g f' g' : Figure) → figure_at S (from i) ≡ Some f → figure_at S (from j) ≡ Some g → figure_at T i ≡ Some f' → figure_at T j ≡ Some g' → IsTrue (may_be f Pawn) → IsTrue (may_be g Pawn) → IsTrue (is_in f.squares s) → IsTrue (is_in g.squares t) → file s ≡ file t → f.place < g.place → f'.place < g'.place
