-- What the lines of a ledger say of a game.
use Rattle.std.specs.Prelude.{Option, None, not, ℕ, ◌≡◌, Bool, true, false, IsTrue, List, Some}
use Rattle.std.specs.List.{Contains}
use Rattle.board_base.specs.Board.{Places, array_of, at, is_a, is_in, opponent}
use Rattle.board_base.specs.declared.men.Kind.TheVariants.{Pawn}
use Rattle.board_base.specs.declared.men.Colour.{Colour}
use Rattle.board_base.specs.declared.moves.Move.{Move}
use Rattle.men_account.specs.Labels.{label_at, labels_after}
use Rattle.men_fates.specs.Deeds.{Strike, strikes, way_of}
use Rattle.men_fates.specs.Ways.{is_straight}
use Rattle.query_base.specs.Asked.{Asked}
use Rattle.ledger_facts.specs.Refuted.{IsRuledOut}
use Rattle.ledger_facts.specs.declared.suppositions.Supposition.TheVariants.{Began}

-- whoever stands on s began on one of these squares
abbrev pub BeganOn : List Bool → List Move → ℕ → List Bool → Type 0
BeganOn o g s homes = (h : ℕ) → label_at (labels_after o g) s ≡ Some h → IsTrue (is_in homes h)

-- prices refute of each square beside these that he began there
abbrev pub AreOthersRefuted : Asked → ℕ → List Bool → Type 0
AreOthersRefuted q s homes = (h : ℕ) → is_in homes h ≡ false → (others : List Bool) × IsTrue (is_in others h) × IsRuledOut (Began s others) q

-- whoever began as a pawn and stands on s has captured as a pawn
abbrev pub HasCaptured : List Bool → List Move → ℕ → Type 0
HasCaptured o g s = (h : ℕ) → label_at (labels_after o g) s ≡ Some h → is_straight h (way_of o g h) ≡ false

-- whoever began as a pawn and stands on s never captured as a pawn
abbrev pub KeptFile : List Bool → List Move → ℕ → Type 0
KeptFile o g s = (h : ℕ) → label_at (labels_after o g) s ≡ Some h → is_straight h (way_of o g h) ≡ true

-- some pawn of the other side took the man of this side who began on h
abbrev pub FellToPawn : List Bool → List Move → Colour → ℕ → Type 0
FellToPawn o g side h = (x : Strike) × Contains (strikes o g (opponent side)) x × (x.of ≡ h)

-- the label is the home of a man who is no pawn
abbrev pub is_of_piece : Places → Option ℕ → Bool
is_of_piece first None = false
is_of_piece first (Some h) = not (is_a Pawn (at first h))

-- the man on s began as no pawn
abbrev pub began_as_piece : List Bool → List Move → ℕ → Bool
began_as_piece o g s = is_of_piece (array_of o) (label_at (labels_after o g) s)
