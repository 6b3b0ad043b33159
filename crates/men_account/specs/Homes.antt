-- The homes of a side's men on a first board, and which of them count where some have nobody on the board any more.
use Rattle.std.specs.Prelude.{ℕ, ◌≡◌, Bool, false, ◌&&◌, IsTrue, List, Option, Some, None}
use Rattle.std.specs.List.{Contains, count_by, range_with_len}
use Rattle.board_base.specs.Board.{Places, at, is_of, same_colour}
use Rattle.board_base.specs.Legal.{is_officer}
use Rattle.board_base.specs.declared.men.Colour.{Colour}
use Rattle.board_base.specs.declared.men.Man.{Man}
use Rattle.men_account.specs.Labels.{Labels, label_at}

-- a queen, rook, bishop or knight of this side stands on the place
abbrev pub is_officer_of : Colour → Option Man → Bool
is_officer_of c None = false
is_officer_of c (Some m) = same_colour c m.colour && is_officer m.kind

-- each label on the board that is the home of an officer of this side passes the test
abbrev pub HasOfficersFrom : Places → Colour → (ℕ → Bool) → Labels → Type 0
HasOfficersFrom first c alive labels = (s l : ℕ) → label_at labels s ≡ Some l → IsTrue (is_officer_of c (at first l)) → IsTrue (alive l)

-- how many men of this colour stand on squares that pass the test
unfoldable pub men_of : Colour → (ℕ → Bool) → Places → ℕ
men_of c among board = count_by (λ s. is_of c (at board s) && among s) (range_with_len 0 64)

-- of a man of this colour whose home passes the test nobody on the board has the label, and none of these labels is his
abbrev pub AreGoneOtherwise : Places → Colour → (ℕ → Bool) → Labels → List ℕ → Type 0
AreGoneOtherwise first c dead labels taken = (h : ℕ) → IsTrue (is_of c (at first h)) → IsTrue (dead h) → ((s : ℕ) → label_at labels s ≡ Some h → ⊥) × (Contains taken h → ⊥)
