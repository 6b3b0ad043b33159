-- What holds of the men on a frozen set, and of those who began at home beside it, in every game that leads to the query.
use Rattle.std.specs.Prelude.{ℕ, ◌≡◌, Bool, false, IsTrue, List, ◌∷◌, ◌++◌, Some}
use Rattle.board_base.specs.Board.{array_of, at, is_a, is_in}
use Rattle.board_base.specs.declared.men.Kind.TheVariants.{Pawn}
use Rattle.board_base.specs.Game.{IsGame, board_after}
use Rattle.board_base.specs.declared.moves.Move.{Move}
use Rattle.query_base.specs.Asked.{Asked}
use Rattle.men_account.specs.Labels.{label_at, labels_after}
use Rattle.cage_rules.specs.Frozen.{IsFrozen}
use Rattle.cage_rules.specs.Regions.{beginner, is_struck, region}
use Rattle.cage_rules.specs.Reach.{LeadsTo}

-- the game leads to the query, in which the set is frozen
pub record Caged (o : List Bool) (g : List Move) (q : Asked) (set : List Bool) : Type 0 where
  pub leads : LeadsTo o g q
  pub frozen : IsFrozen q set

-- the first list of moves begins the second
abbrev pub Begins : List Move → List Move → Type 0
Begins before g = (after : List Move) × (g ≡ before ++ after)

-- after each of the game's beginnings each square of the set holds what it holds in the query
abbrev pub StoodSo : List Bool → List Move → Asked → List Bool → Type 0
StoodSo o g q set = (before : List Move) → Begins before g → (s : ℕ) → IsTrue (is_in set s) → at (board_after o before) s ≡ at q.board s

-- after each of the game's beginnings each man on the set is the one who began there
abbrev pub KeepLabels : List Bool → List Move → List Bool → Type 0
KeepLabels o g set = (before : List Move) → Begins before g → (s : ℕ) → IsTrue (is_in set s) → label_at (labels_after o before) s ≡ Some s

-- The men of the set stay: the game goes from the array without the men on the squares of o, and after each of its beginnings the man
-- on each square of the set is the one who began there.
pub record Walled (o : List Bool) (g : List Move) (set : List Bool) : Type 0 where
  pub game : IsGame o g
  pub labels : KeepLabels o g set

-- after each of the game's beginnings each square of the set holds the array's man
abbrev pub StandAsBegun : List Bool → List Move → List Bool → Type 0
StandAsBegun o g set = (before : List Move) → Begins before g → (s : ℕ) → IsTrue (is_in set s) → at (board_after o before) s ≡ at (array_of o) s

-- After each of the game's beginnings the man who began on h, if he is still on the board, stands in his region, and is of the kind
-- and colour with which he began.
abbrev pub StaysInRegion : List Bool → List Move → List Bool → ℕ → Type 0
StaysInRegion o g set h = (before : List Move) → Begins before g → (s : ℕ) → label_at (labels_after o before) s ≡ Some h → IsTrue (is_in (region set h) s) × (at (board_after o before) s ≡ beginner h)

-- nobody on the board began on h
abbrev pub IsGone : List Bool → List Move → ℕ → Type 0
IsGone o g h = (s : ℕ) → label_at (labels_after o g) s ≡ Some h → ⊥

-- the move follows these moves in the game
abbrev pub IsPlayedAfter : List Move → Move → List Move → Type 0
IsPlayedAfter before m g = (after : List Move) × (g ≡ before ++ m ∷ after)

-- no pawn stands where one of the enemies of the man who began on h captures into his region, when a move from there to there is made
abbrev pub IsSafeFromPawns : List Bool → List Move → List Bool → ℕ → Type 0
IsSafeFromPawns o g set h = (before : List Move) (m : Move) → IsPlayedAfter before m g → IsTrue (is_in (region set h) m.to) → IsTrue (is_struck (beginner h) m.to m.from) → is_a Pawn (at (board_after o before) m.from) ≡ false

-- no pawn captures the man who began on h
abbrev pub IsNotPawned : List Bool → List Move → ℕ → Type 0
IsNotPawned o g h = (before : List Move) (m : Move) → IsPlayedAfter before m g → label_at (labels_after o before) m.to ≡ Some h → is_a Pawn (at (board_after o before) m.from) ≡ false
