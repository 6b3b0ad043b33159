-- Labelled men: each man carries the square on which he began, also after a promotion.
use Rattle.std.specs.Prelude.{ℕ, ◌≡◌, Bool, false, cond, List, [], ◌∷◌, map, slice_index_or, Option, Some, None, is_none, IsTrue}
use Rattle.std.specs.List.{range_with_len}
use Rattle.board_base.specs.Board.{Places, array_of, at, is_empty, is_of, is_a}
use Rattle.board_base.specs.Play.{play, moved, castling, goes_en_passant}
use Rattle.board_base.specs.Legal.{is_officer}
use Rattle.board_base.specs.declared.men.Kind.TheVariants.{Pawn}
use Rattle.board_base.specs.declared.men.Man.{Man}
use Rattle.board_base.specs.declared.moves.Move.{Move}

-- for each of the 64 squares the label of the man who stands there: the square on which he began
abbrev pub Labels : Type 0
Labels = List (Option ℕ)

-- the label on a square; none if it has none, or is off the board
abbrev pub label_at : Labels → ℕ → Option ℕ
label_at labels s = slice_index_or labels s None

-- a man who stands here has this square as his label
abbrev pub own_label : Places → ℕ → Option ℕ
own_label board s = cond (is_empty (at board s)) None (Some s)

-- Article 2.3: before the first move each man has his own square as his label
unfoldable pub first_labels : List Bool → Labels
first_labels o = map (own_label (array_of o)) (range_with_len 0 64)

-- Each label goes where the move takes its man, the rook's in castling too. The label of a captured man is gone.
unfoldable pub relabelled : Places → Labels → Move → Labels
relabelled board labels m = moved (λ label. label) m (castling board m) (goes_en_passant board m) labels

-- the labels after moves that begin on this board with these labels
abbrev pub labels_from : Places → Labels → List Move → Labels
labels_from board labels [] = labels
labels_from board labels (m ∷ g) = labels_from (play board m) (relabelled board labels m) g

-- the labels after these moves
abbrev pub labels_after : List Bool → List Move → Labels
labels_after o g = labels_from (array_of o) (first_labels o) g

-- a square has a label if and only if a man stands
abbrev pub LabelsEachMan : Places → Labels → Type 0
LabelsEachMan board labels = (s : ℕ) → is_none (label_at labels s) ≡ is_empty (at board s)

-- no two squares have the same label
abbrev pub AreApart : Labels → Type 0
AreApart labels = (s t l : ℕ) → label_at labels s ≡ Some l → label_at labels t ≡ Some l → s ≡ t

-- the fact holds of each man, with the square on which he stands and his label
abbrev pub HoldsOfEach : Places → Labels → (ℕ → ℕ → Man → Type 0) → Type 0
HoldsOfEach board labels P = (s l : ℕ) (m : Man) → label_at labels s ≡ Some l → at board s ≡ Some m → P s l m

-- on his label there stood a man of his colour on this first board
abbrev pub HasColourOf : Places → ℕ → ℕ → Man → Type 0
HasColourOf first s l m = IsTrue (is_of m.colour (at first l))

-- Article 3.7: if on his label there stood a man of another kind, it was a pawn, and he is now an officer
abbrev pub IsPromotedFrom : Places → ℕ → ℕ → Man → Type 0
IsPromotedFrom first s l m = is_a m.kind (at first l) ≡ false → IsTrue (is_officer m.kind) × IsTrue (is_a Pawn (at first l))

-- Article 3.7: if on his label there stood no pawn on this first board, he is the man who stood there
abbrev pub IsHimself : Places → ℕ → ℕ → Man → Type 0
IsHimself first s l m = is_a Pawn (at first l) ≡ false → at first l ≡ Some m
