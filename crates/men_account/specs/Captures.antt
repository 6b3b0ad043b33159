-- The men whom the pawns of a side took, by their labels, and how far the pawns have left their files.
use Rattle.std.specs.Prelude.{ℕ, ◌≡◌, ◌⊎◌, Bool, cond, IsTrue, List, [], ◌∷◌, ◌++◌, Option, Some, None}
use Rattle.std.specs.Option.{option_to_list}
use Rattle.std.specs.List.{sum_by, range_with_len}
use Rattle.board_base.specs.Board.{Places, array_of, at, is_a, is_the, opponent, file, rank}
use Rattle.board_base.specs.Attacks.{files_apart, one_ahead}
use Rattle.board_base.specs.Play.{play, goes_en_passant, en_passant_victim}
use Rattle.board_base.specs.Legal.{pawn_rank}
use Rattle.board_base.specs.Game.{board_after}
use Rattle.board_base.specs.declared.men.Colour.{Colour}
use Rattle.board_base.specs.declared.men.Kind.TheVariants.{Pawn, Bishop}
use Rattle.board_base.specs.declared.men.Man.{Man}
use Rattle.board_base.specs.declared.moves.Move.{Move}
use Rattle.pawn_assign.specs.PawnCosts.{can_come}
use Rattle.men_account.specs.Account.{is_light}
use Rattle.men_account.specs.Labels.{Labels, label_at, first_labels, relabelled, labels_after}

-- Article 3.7: where the man stands whom the move takes, if it takes one: on its target, or past it in a capture en passant
abbrev pub taken_on : Places → Move → ℕ
taken_on board m = cond (goes_en_passant board m) (en_passant_victim m) m.to

-- the label of the man whom a pawn of this side takes by the move; none if it isn't such a pawn's, or takes nobody
abbrev pub taken_by_pawn : Colour → Places → Labels → Move → List ℕ
taken_by_pawn c board labels m = cond (is_the c Pawn (at board m.from)) (option_to_list (label_at labels (taken_on board m))) []

-- the labels of the men whom pawns of this side take by moves that begin on this board with these labels
abbrev pub captured_from : Colour → Places → Labels → List Move → List ℕ
captured_from c board labels [] = []
captured_from c board labels (m ∷ g) = taken_by_pawn c board labels m ++ captured_from c (play board m) (relabelled board labels m) g

-- the labels of the men whom pawns of this side take by these moves, in order
abbrev pub captured_by_pawns : List Bool → List Move → Colour → List ℕ
captured_by_pawns o g c = captured_from c (array_of o) (first_labels o) g

-- Article 3.7: By this move, after these, a pawn of the side takes the man with this label. He goes one rank ahead and one file aside,
-- and the man stands on his target, or is a pawn whom he takes en passant, and who began as one.
pub record Takes (o : List Bool) (c : Colour) (l : ℕ) (before : List Move) (m : Move) : Type 0 where
  pub pawn : IsTrue (is_the c Pawn (at (board_after o before) m.from))
  pub ahead : IsTrue (one_ahead c m.from m.to)
  pub aside : files_apart m.from m.to ≡ 1
  pub label : label_at (labels_after o before) (taken_on (board_after o before) m) ≡ Some l
  pub target : (taken_on (board_after o before) m ≡ m.to) ⊎ (IsTrue (is_the (opponent c) Pawn (at (board_after o before) (taken_on (board_after o before) m))) × IsTrue (is_the (opponent c) Pawn (at (array_of o) l)))

-- some move of the game does so
abbrev pub IsTakenIn : List Bool → Colour → ℕ → List Move → Type 0
IsTakenIn o c l g = (before : List Move) × (m : Move) × (after : List Move) × (g ≡ before ++ m ∷ after) × Takes o c l before m

-- how many files a pawn of this side has left the file on which he began; 0 for any other man
abbrev pub files_left : Colour → Option Man → Option ℕ → ℕ → ℕ
files_left c place None s = 0
files_left c place (Some l) s = cond (is_the c Pawn place) (files_apart s l) 0

-- how many in all
unfoldable pub all_files_left : Colour → Places → Labels → ℕ
all_files_left c board labels = sum_by (λ s. files_left c (at board s) (label_at labels s) s) (range_with_len 0 64)

-- a pawn of this side stands where he can have come from his label, the home of such a pawn on this first board
abbrev pub IsPawnFrom : Places → Colour → ℕ → ℕ → Man → Type 0
IsPawnFrom first c s l m = IsTrue (is_the c Pawn (Some m)) → IsTrue (is_the c Pawn (at first l)) × (rank l ≡ pawn_rank c) × IsTrue (can_come c s (file l))

-- two pawns of this side have labels on different files
abbrev pub BeganOnOtherFiles : Colour → Places → Labels → Type 0
BeganOnOtherFiles c board labels = (s t k l : ℕ) → IsTrue (is_the c Pawn (at board s)) → IsTrue (is_the c Pawn (at board t)) → label_at labels s ≡ Some k → label_at labels t ≡ Some l → file k ≡ file l → s ≡ t

-- Article 3.2: a bishop whose label is a bishop's home on this first board stands on a square of that home's colour
abbrev pub KeepsColour : Places → ℕ → ℕ → Man → Type 0
KeepsColour first s l m = IsTrue (is_a Bishop (Some m)) → IsTrue (is_a Bishop (at first l)) → is_light s ≡ is_light l
