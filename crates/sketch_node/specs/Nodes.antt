-- A node of a sketch's tree: when the sketch is void, which marks of its figures are forced, its cases, and the sketch before whose steps others
-- stand.
use Rattle.std.specs.Prelude.{ℕ, ◌≡◌, ◌+◌, ◌<◌, ◌==◌, Bool, true, false, cond, IsTrue, List, length, Some}
use Rattle.std.specs.List.{Contains, list_any}
use Rattle.board_base.specs.Rights.{Rights}
use Rattle.board_base.specs.declared.men.Kind.TheVariants.{King}
use Rattle.capture_prices.specs.Prices.{PriceList}
use Rattle.figures.specs.Clashes.{is_nowhere}
use Rattle.figures.specs.Figures.{Figure, IsAbove, Sketch, each_changed, figure_at, is_fixed_on, may_be}
use Rattle.sketch_account.specs.Account.{against}
use Rattle.sketch_account.specs.Frozen.{AreBegun}
use Rattle.sketch_sets.specs.Leasts.{IsClosedAbove}
use Rattle.sketch_account.specs.FrozenSets.{greatest_frozen}
use Rattle.sketch_account.specs.Basis.{Basis, IsAbove as CostsTooMuch, basis_of}
use Rattle.sketch_rule.specs.Trees.{IsUnknown, Refutes, Tree}

-- some tree refutes the sketch
abbrev pub HasTree : List Bool → Rights → List Bool → Sketch → Type 0
HasTree o held exact S = (tree : Tree) × Refutes tree o held exact S

-- some figure of the greatest frozen set isn't of the man whom the array has on his square
abbrev pub IsVoid : List Bool → Rights → Sketch → Type 0
IsVoid o held S = AreBegun o S (greatest_frozen held S) → ⊥

-- The figure with this number, counted from 1, bears no mark and is no king, and the account is above 0 if what a mark would say of him is
-- false.
pub record IsMarkableOn (b : Basis) (S : Sketch) (number : ℕ) : Type 0 where
  pub index : ℕ
  pub from_one : number ≡ index + 1
  pub figure : Figure
  pub found : figure_at S index ≡ Some figure
  pub unmarked : figure.marked ≡ false
  pub no_king : may_be figure King ≡ false
  pub forced : CostsTooMuch b (against index S)

-- beside the sketch's own greatest frozen set and its zones, at these prices
abbrev pub IsMarkable : List Bool → Rights → PriceList → Sketch → ℕ → Type 0
IsMarkable o held p S number = IsMarkableOn (basis_of o held S p) S number

-- the sketch with marks for the figures with these numbers, counted from 1
unfoldable pub marked_with : List ℕ → Sketch → Sketch
marked_with numbers S = each_changed (λ i f. cond (list_any (λ n. n == i + 1) numbers) (record f { marked = true }) f) 0 S

-- the figure with this number, counted from 0, may be a knight, a rook or a queen, and nothing else, and is fixed on s
pub record IsUnknownOn (S : Sketch) (s i : ℕ) : Type 0 where
  pub unknown : IsUnknown S i
  pub fixed : IsTrue (is_fixed_on s unknown.figure)

-- he is the first who is
pub record IsFirstUnknown (S : Sketch) (s i : ℕ) : Type 0 where
  pub there : IsUnknownOn S s i
  pub first : (j : ℕ) → j < i → IsUnknownOn S s j → ⊥

-- T is closed and has the figures of S, each with his squares and more, all of the board, and each other such sketch is above it: unless a
-- figure of S has no square
pub record IsLeastAbove (held : Rights) (exact : List Bool) (S T : Sketch) : Type 0 where
  pub closed : IsClosedAbove held exact S T
  pub whole : (f : Figure) → Contains T f → length f.squares ≡ 64
  pub least : list_any is_nowhere S ≡ false → (other : Sketch) → IsClosedAbove held exact S other → IsAbove T other
