-- When a sketch fits a moment of a game: each of its figures stands for a man on the board.
use Rattle.std.specs.Prelude.{ℕ, ◌≡◌, Bool, cond, not, ◌<◌, IsTrue, List, Some}
use Rattle.board_base.specs.Board.{array_of, at, is_a, file, is_in, rank, same_kind}
use Rattle.board_base.specs.Game.{board_after}
use Rattle.board_base.specs.declared.men.Kind.TheVariants.{Pawn, King}
use Rattle.board_base.specs.declared.men.Man.{Man}
use Rattle.board_base.specs.declared.moves.Move.{Move}
use Rattle.men_account.specs.Labels.{label_at, labels_after}
use Rattle.men_fates.specs.Deeds.{way_of}
use Rattle.men_fates.specs.Ways.{is_straight}
use Rattle.past_sketches.specs.Figures.{Figure, Sketch, figure_at, may_be}

-- the man who began on l did so far as a mark says: as a pawn he never captured, as an officer he was never promoted (article 3.7)
abbrev pub is_plain : List Bool → List Move → ℕ → Man → Bool
is_plain o p l m = cond (same_kind Pawn m.kind) (is_straight l (way_of o p l)) (not (is_a Pawn (at (array_of o) l)))

-- after these moves the figure's man, who began on l, stands on s and is m
pub record IsManOf (o : List Bool) (p : List Move) (f : Figure) (l s : ℕ) (m : Man) : Type 0 where
  pub label : label_at (labels_after o p) s ≡ Some l
  pub there : at (board_after o p) s ≡ Some m
  pub colour : m.colour ≡ f.colour
  pub kind : IsTrue (may_be f m.kind)
  pub square : IsTrue (is_in f.squares s)
  pub mark : IsTrue f.marked → IsTrue (is_plain o p l m)

-- he stands on some square
abbrev pub Stands : List Bool → List Move → Figure → ℕ → Type 0
Stands o p f l = (s : ℕ) × (m : Man) × IsManOf o p f l s m

-- after these moves a pawn who began on l stands on s
pub record IsPawnOn (o : List Bool) (p : List Move) (l s : ℕ) : Type 0 where
  pub label : label_at (labels_after o p) s ≡ Some l
  pub pawn : IsTrue (is_a Pawn (at (board_after o p) s))

-- Each figure has a man on the board, by his label, and no two have the same; each king with which the game began is the man of a figure.
-- Of two pawns on one file the one on the lower rank has the lower place.
pub record Fits (o : List Bool) (p : List Move) (T : Sketch) : Type 0 where
  pub label : ℕ → ℕ
  pub stand : (i : ℕ) (f : Figure) → figure_at T i ≡ Some f → Stands o p f (label i)
  pub apart : (i j : ℕ) (f g : Figure) → figure_at T i ≡ Some f → figure_at T j ≡ Some g → label i ≡ label j → i ≡ j
  pub kings : (h : ℕ) → IsTrue (is_a King (at (array_of o) h)) → (i : ℕ) × (f : Figure) × (figure_at T i ≡ Some f) × (label i ≡ h)
  pub order : (i j : ℕ) (f g : Figure) (s t : ℕ) → figure_at T i ≡ Some f → figure_at T j ≡ Some g → IsPawnOn o p (label i) s → IsPawnOn o p (label j) t → file s ≡ file t → rank s < rank t → f.place < g.place

-- What a mark says is true of the man of the figure with this number.
abbrev pub MayBeMarked : (o : List Bool) (p : List Move) (T : Sketch) → Fits o p T → ℕ → Type 0
MayBeMarked o p T fits i = (f : Figure) (s : ℕ) (m : Man) → figure_at T i ≡ Some f → IsManOf o p f (fits.label i) s m → IsTrue (is_plain o p (fits.label i) m)
