-- Pawns who keep to their files, and the squares that they tread.
use Rattle.std.specs.Prelude.{ℕ, ◌≡◌, ◌==◌, Bool, cond, ◌&&◌, ◌||◌, IsTrue, List, [], ◌∷◌, ◌++◌, Some}
use Rattle.std.specs.List.{list_any, range_with_len, sum_by}
use Rattle.board_base.specs.Board.{array_of, at, is_a, is_the, rank}
use Rattle.board_base.specs.Game.{board_after}
use Rattle.board_base.specs.Legal.{last_rank}
use Rattle.board_base.specs.declared.men.Colour.{Colour}
use Rattle.board_base.specs.declared.men.Kind.TheVariants.{Pawn}
use Rattle.board_base.specs.declared.moves.Move.{Move}
use Rattle.men_account.specs.Captures.{taken_on}
use Rattle.men_account.specs.Labels.{Labels, label_at, labels_after}
use Rattle.men_fates.specs.Deeds.{is_label, way_of}
use Rattle.men_fates.specs.Ways.{is_straight, way_end}

-- a man on the board has this label
abbrev pub is_there : Labels → ℕ → Bool
is_there labels h = list_any (λ s. is_label (label_at labels s) h) (range_with_len 0 64)

-- A pawn of this side began on h, captured nowhere, and was not taken as a pawn: he is on the board, or has been promoted (article 3.7).
abbrev pub keeps_file : List Bool → List Move → Colour → ℕ → Bool
keeps_file o g c h =
    is_the c Pawn (at (array_of o) h) && is_straight h (way_of o g h) && (is_there (labels_after o g) h || (rank (way_end h (way_of o g h)) == last_rank c))

-- by some move of the game the man who began on h is taken as a pawn
abbrev pub IsTakenAsPawn : List Bool → List Move → ℕ → Type 0
IsTakenAsPawn o g h =
    (before : List Move) × (m : Move) × (after : List Move) × (g ≡ before ++ m ∷ after) × (label_at (labels_after o before) (taken_on (board_after o before) m) ≡ Some h) × IsTrue (is_a Pawn (at (board_after o before) (taken_on (board_after o before) m)))

-- the squares that he has trodden, h first, if he keeps to his file; else none
abbrev pub trodden : List Bool → List Move → Colour → ℕ → List ℕ
trodden o g c h = cond (keeps_file o g c h) (h ∷ way_of o g h) []

-- the gates on these squares
abbrev pub gates_passed : (ℕ → ℕ) → List Bool → List Move → Colour → ℕ → ℕ
gates_passed gate o g c h = sum_by gate (trodden o g c h)
