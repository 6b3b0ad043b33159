-- Inner: no public clause cites this file.
-- The fixed figures of a sketch, with the squares by which they may have come there.
use Rattle.std.specs.Prelude.{ℕ, ◌≡◌, Bool, ◌&&◌, ◌||◌, not, ◌==◌, IsTrue, List, length}
use Rattle.std.specs.List.{Contains, list_all, list_any, range_with_len}
use Rattle.board_base.specs.Board.{is_in}
use Rattle.board_base.specs.Rights.{Rights}
use Rattle.cage_rules.specs.Frozen.{is_held_home}
use Rattle.cage_rules.specs.Sets.{squares_that}
use Rattle.figures.specs.Figures.{Figure, Sketch, is_fixed_on}
use Rattle.past_account.specs.Frozen.{figure_enters}
use Rattle.sketch_grounds.specs.declared.frozen.Pin.{Pin}

-- what is told of a fixed figure
pub record IsPin (held : Rights) (f : Figure) (pin : Pin) : Type 0 where
  pub fixed : IsTrue (is_fixed_on pin.square f)
  pub held_is : pin.held ≡ is_held_home held pin.square
  pub entries_are : pin.entries ≡ squares_that (figure_enters f pin.square)

-- each of them is told of a figure of the sketch
pub record PinOf (held : Rights) (S : Sketch) (pin : Pin) : Type 0 where
  pub figure : Figure
  pub member : Contains S figure
  pub is : IsPin held figure pin

-- and each fixed figure is told of
pub record HasPin (held : Rights) (f : Figure) (pins : List Pin) (s : ℕ) : Type 0 where
  pub pin : Pin
  pub member : Contains pins pin
  pub is : IsPin held f pin
  pub square : pin.square ≡ s

pub record ArePins (held : Rights) (S : Sketch) (pins : List Pin) : Type 0 where
  pub told : (pin : Pin) → Contains pins pin → PinOf held S pin
  pub tells : (f : Figure) (s : ℕ) → Contains S f → IsTrue (is_fixed_on s f) → HasPin held f pins s
  pub whole : (f : Figure) → Contains S f → length f.squares ≡ 64

-- all of these squares are in the set
unfoldable pub covers : List Bool → List Bool → Bool
covers set squares = list_all (λ t. not (is_in squares t) || is_in set t) (range_with_len 0 64)

-- the fixed figure is on this square of the set, and can't have come there
abbrev pub stays : List Bool → ℕ → Pin → Bool
stays set s pin = (pin.square == s) && is_in set s && (pin.held || covers set pin.entries)

-- the squares of the set that have such a figure
unfoldable pub kept : List Pin → List Bool → List Bool
kept pins set = squares_that (λ s. list_any (stays set s) pins)
