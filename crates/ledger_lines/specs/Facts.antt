-- What each fact says of a game.
use Rattle.std.specs.Prelude.{ℕ, ◌≡◌, ◌≤◌, ◌&&◌, Bool, true, false, IsTrue, List, length, Option, Some, None}
use Rattle.std.specs.List.{count_by, range_with_len}
use Rattle.board_base.specs.Board.{Places, array_of, at, is_a, is_in, is_of}
use Rattle.board_base.specs.declared.men.Colour.{Colour}
use Rattle.board_base.specs.declared.men.Kind.TheVariants.{Pawn}
use Rattle.board_base.specs.declared.moves.Move.{Move}
use Rattle.board_base.specs.Game.{board_after}
use Rattle.men_account.specs.Labels.{label_at, labels_after}
use Rattle.cage_rules.specs.Laws.{Begins, IsGone}
use Rattle.men_fates.specs.Deeds.{way_of}
use Rattle.men_fates.specs.Ways.{captures_on}
use Rattle.ledger_facts.specs.Lines.{BeganOn, FellToPawn, HasCaptured, KeptFile}
use Rattle.ledger_facts.specs.Supposed.{captures, is_last}
use Rattle.ledger_lines.specs.Losses.{losses_of}
use Rattle.ledger_lines.specs.Slants.{is_slant, slant}
use Rattle.ledger_lines.specs.declared.facts.Fact.{Fact}
use Rattle.ledger_lines.specs.declared.facts.Fact.TheVariants.{Began, Original, Promoted, Captured, Took, TookAtMost, Slanted, Straight, Fell, FellToPawn as ToPawn, EscapedPawns, Became, NeverBecame, Stayed, AtLeast, AtMost, Lacks, Among}

-- whoever stands on s began as a pawn, or as none
abbrev pub BeganAs : List Bool → List Move → ℕ → Bool → Type 0
BeganAs o g s pawn = (h : ℕ) → label_at (labels_after o g) s ≡ Some h → is_a Pawn (at (array_of o) h) ≡ pawn

-- Article 3.7: the way of the man of h ends on his last rank, or short of it, whichever side he is of
abbrev pub Ended : List Bool → List Move → ℕ → Bool → Type 0
Ended o g h promoted = (c : Colour) → IsTrue (is_of c (at (array_of o) h)) → is_last c h (way_of o g h) ≡ promoted

-- After each of the game's beginnings the man who began on h, if he is still on the board, stands on one of these squares; so if he was
-- taken, he was taken there.
abbrev pub StayedOn : List Bool → List Move → ℕ → List Bool → Type 0
StayedOn o g h squares = (before : List Move) → Begins before g → (s : ℕ) → label_at (labels_after o before) s ≡ Some h → IsTrue (is_in squares s)

-- the label is the home of a pawn
abbrev pub is_of_pawn : Places → Option ℕ → Bool
is_of_pawn first None = false
is_of_pawn first (Some h) = is_a Pawn (at first h)

-- how many of the men on these squares began as pawns
unfoldable pub began_as_pawns : List Bool → List Move → List Bool → ℕ
began_as_pawns o g set = count_by (λ s. is_in set s && is_of_pawn (array_of o) (label_at (labels_after o g) s)) (range_with_len 0 64)

-- the fact is true of a game from the array without the men on the squares of o
abbrev pub Says : Fact → List Bool → List Move → Type 0
Says (Began s homes) o g = BeganOn o g s homes
Says (Original s) o g = BeganAs o g s false
Says (Promoted s) o g = BeganAs o g s true
Says (Captured s) o g = HasCaptured o g s
Says (Took s n) o g = (h : ℕ) → label_at (labels_after o g) s ≡ Some h → n ≤ length (captures_on h (way_of o g h))
Says (TookAtMost s n) o g = (h : ℕ) → label_at (labels_after o g) s ≡ Some h → length (captures_on h (way_of o g h)) ≤ n
Says (Slanted s) o g = (h : ℕ) → label_at (labels_after o g) s ≡ Some h → IsTrue (is_slant h s) → captures_on h (way_of o g h) ≡ slant h s
Says (Straight s) o g = KeptFile o g s
Says (Fell h) o g = IsGone o g h
Says (ToPawn h) o g = (c : Colour) → IsTrue (is_of c (at (array_of o) h)) → FellToPawn o g c h
Says (EscapedPawns h) o g = (c : Colour) → IsTrue (is_of c (at (array_of o) h)) → FellToPawn o g c h → ⊥
Says (Became h) o g = Ended o g h true
Says (NeverBecame h) o g = Ended o g h false
Says (Stayed h squares) o g = StayedOn o g h squares
Says (AtLeast c squares n) o g = n ≤ captures o g c squares
Says (AtMost c squares n) o g = captures o g c squares ≤ n
Says (Lacks c losses) o g = losses ≡ losses_of c (array_of o) (board_after o g)
Says (Among set n) o g = n ≤ began_as_pawns o g set
