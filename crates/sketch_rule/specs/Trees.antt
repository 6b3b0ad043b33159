-- Trees that refute a sketch: why no game comes to it, and to the sketches before its listed steps.
use Rattle.std.specs.Prelude.{ℕ, ◌≡◌, Bool, true, false, List, [], ◌∷◌, Some}
use Rattle.board_base.specs.Rights.{Rights}
use Rattle.board_base.specs.declared.men.Kind.{Kind}
use Rattle.board_base.specs.declared.men.Kind.TheVariants.{Pawn, Knight, Bishop, Rook, Queen, King}
use Rattle.sketch_list.specs.Figures.{Figure, Sketch, figure_at, may_be}
use Rattle.sketch_list.specs.Homes.{may_be_array}
use Rattle.sketch_list.specs.Known.{known_at, marked_at}
use Rattle.sketch_list.specs.Closes.{Closes, Forces}
use Rattle.sketch_list.specs.Leasts.{IsClosedAbove}
use Rattle.sketch_list.specs.Listed.{Earlier, earlier}

mutual
  -- an account, which closes the sketch; or a tree for it with a mark for the figure with this number; or one for each of its steps; or one
  -- for each kind of the figure with this number, a knight, a rook or a queen
  pub data Tree : Type 0 where
    closed : Tree
    marked : ℕ → Tree → Tree
    stepped : Forest → Tree
    split : ℕ → Tree → Tree → Tree → Tree

  -- a list of trees
  pub data Forest : Type 0 where
    none : Forest
    more : Tree → Forest → Forest

-- a knight, a rook or a queen
abbrev pub is_heavy : Kind → Bool
is_heavy Pawn = false
is_heavy Knight = true
is_heavy Bishop = false
is_heavy Rook = true
is_heavy Queen = true
is_heavy King = false

-- the figure with this number may be each of these, and nothing else
pub record IsUnknown (S : Sketch) (i : ℕ) : Type 0 where
  pub figure : Figure
  pub found : figure_at S i ≡ Some figure
  pub kinds : (k : Kind) → may_be figure k ≡ is_heavy k

abbrev mutual
  -- The tree refutes the sketch: an account closes it, by prices or since the array hasn't its frozen men; or an account forces the mark,
  -- and it is refuted with it; or a closed sketch above it can't be the array, and each of that one's listed steps, in order, has a tree
  -- that refutes the sketch before it; or it is refuted with each kind alone.
  pub Refutes : Tree → List Bool → Rights → List Bool → Sketch → Type 0
  Refutes closed o held exact S = Closes o held S
  Refutes (marked i tree) o held exact S = Forces o held i S × Refutes tree o held exact (marked_at i S)
  Refutes (stepped kids) o held exact S = (T : Sketch) × IsClosedAbove held exact S T × (may_be_array o T ≡ false) × RefutesEach kids o held exact (earlier o exact T)
  Refutes (split i knight rook queen) o held exact S =
      IsUnknown S i × Refutes knight o held exact (known_at i Knight S) × Refutes rook o held exact (known_at i Rook S) × Refutes queen o held exact (known_at i Queen S)

  -- there are as many trees as listed steps, and each refutes the sketch before its step
  pub RefutesEach : Forest → List Bool → Rights → List Bool → List Earlier → Type 0
  RefutesEach none o held exact [] = Unit {0}
  RefutesEach none o held exact (e ∷ es) = ⊥
  RefutesEach (more tree kids) o held exact [] = ⊥
  RefutesEach (more tree kids) o held exact (e ∷ es) = Refutes tree o held exact e.sketch × RefutesEach kids o held exact es
