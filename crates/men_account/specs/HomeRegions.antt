-- Regions in which the men who began on homes of officers stay, whatever they may be.
use Rattle.std.specs.Prelude.{ℕ, ◌≡◌, Bool, ◌&&◌, not, IsTrue, List, ◌++◌, ◌∷◌, Some}
use Rattle.std.specs.List.{list_all, range_with_len}
use Rattle.board_base.specs.Board.{Places, array_of, at, is_the, is_like}
use Rattle.board_base.specs.Attacks.{files_apart, one_ahead}
use Rattle.board_base.specs.Game.{board_after}
use Rattle.board_base.specs.declared.men.Colour.{Colour}
use Rattle.board_base.specs.declared.men.Kind.TheVariants.{Pawn}
use Rattle.board_base.specs.declared.moves.Move.{Move}
use Rattle.men_account.specs.Labels.{Labels, label_at, labels_after}
use Rattle.men_account.specs.Homes.{is_officer_of}

-- each man whose label is the home of an officer of this side stands in the home's region
abbrev pub StandInRegions : Places → Colour → (ℕ → ℕ → Bool) → Labels → Type 0
StandInRegions first c region labels = (s h : ℕ) → label_at labels s ≡ Some h → IsTrue (is_officer_of c (at first h)) → IsTrue (region h s)

-- no man of the colour and kind of the man who began on h stands in its region
unfoldable pub is_deserted : Places → Places → (ℕ → ℕ → Bool) → ℕ → Bool
is_deserted first board region h = list_all (λ t. not (region h t && is_like (at first h) (at board t))) (range_with_len 0 64)

-- Article 3.7: no move of the game takes a pawn of this side one rank ahead and one file aside into the region of h
abbrev pub IsOutOfReach : List Bool → List Move → Colour → (ℕ → ℕ → Bool) → ℕ → Type 0
IsOutOfReach o g c region h = (before : List Move) (m : Move) (after : List Move) → g ≡ before ++ m ∷ after → IsTrue (is_the c Pawn (at (board_after o before) m.from)) → IsTrue (one_ahead c m.from m.to) → files_apart m.from m.to ≡ 1 → IsTrue (region h m.to) → ⊥

-- at each moment of the game the men of this side stand in their regions
abbrev pub StayInRegions : List Bool → List Move → Colour → (ℕ → ℕ → Bool) → Type 0
StayInRegions o g c region = (before after : List Move) → g ≡ before ++ after → StandInRegions (array_of o) c region (labels_after o before)

-- a home of an officer of this side whose region has nobody like him, and that passes one more test
abbrev pub is_lost : Places → Places → Colour → (ℕ → ℕ → Bool) → (ℕ → Bool) → ℕ → Bool
is_lost first board c region shielded h = is_officer_of c (at first h) && is_deserted first board region h && shielded h
