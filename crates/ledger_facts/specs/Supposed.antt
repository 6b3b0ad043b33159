-- What a supposition says of a game.
use Rattle.std.specs.Prelude.{ℕ, ◌≡◌, ◌≤◌, ◌%◌, ◌==◌, Bool, true, IsTrue, List, length, Some}
use Rattle.std.specs.List.{filter, list_any}
use Rattle.board_base.specs.Board.{array_of, at, is_a, is_in, is_of, opponent, rank}
use Rattle.board_base.specs.Game.{board_after}
use Rattle.board_base.specs.Legal.{last_rank}
use Rattle.board_base.specs.declared.men.Colour.{Colour}
use Rattle.board_base.specs.declared.men.Kind.TheVariants.{Pawn}
use Rattle.board_base.specs.declared.moves.Move.{Move}
use Rattle.men_account.specs.Labels.{label_at, labels_after}
use Rattle.cage_rules.specs.Laws.{IsGone}
use Rattle.men_fates.specs.Deeds.{strikes, way_of}
use Rattle.men_fates.specs.Ways.{is_straight, way_end}
use Rattle.capture_prices.specs.Prices.{class_of}
use Rattle.ledger_facts.specs.declared.suppositions.Squares.{Squares}
use Rattle.ledger_facts.specs.declared.suppositions.Squares.TheVariants.{All, Dark, Light, Class}
use Rattle.ledger_facts.specs.declared.suppositions.Supposition.{Supposition}
use Rattle.ledger_facts.specs.declared.suppositions.Supposition.TheVariants.{Began, Went, Stands, Gone, AtMost, AtLeast}

-- a class of squares is among these
abbrev pub has_class : Squares → ℕ → Bool
has_class All k = true
has_class Dark k = k % 2 == 0
has_class Light k = k % 2 == 1
has_class (Class n) k = k == n

-- how many captures this side's pawns made on these squares
abbrev pub captures : List Bool → List Move → Colour → Squares → ℕ
captures o g side squares = length (filter (λ x. has_class squares (class_of x.on)) (strikes o g side))

-- Article 3.7: a way from h ends on the last rank, so that the pawn was promoted
abbrev pub is_last : Colour → ℕ → List ℕ → Bool
is_last c h way = rank (way_end h way) == last_rank c

-- a pawn of the other side took the man of this side who began on h
abbrev pub was_struck : List Bool → List Move → Colour → ℕ → Bool
was_struck o g c h = list_any (λ x. x.of == h) (strikes o g (opponent c))

-- a man of this side who began on h stands on s, and was promoted or not
pub record IsStanding (o : List Bool) (g : List Move) (h : ℕ) (promoted : Bool) : Type 0 where
  pub side : Colour
  pub home : IsTrue (is_of side (at (array_of o) h))
  pub square : ℕ
  pub label : label_at (labels_after o g) square ≡ Some h
  pub became : is_last side h (way_of o g h) ≡ promoted

-- a man of this side who began on h is on the board no more; he was promoted or not, and a pawn took him or none
pub record IsLost (o : List Bool) (g : List Move) (h : ℕ) (promoted struck : Bool) : Type 0 where
  pub side : Colour
  pub home : IsTrue (is_of side (at (array_of o) h))
  pub gone : IsGone o g h
  pub became : is_last side h (way_of o g h) ≡ promoted
  pub fell : was_struck o g side h ≡ struck

-- the supposition is true of a game
abbrev pub IsSupposed : Supposition → List Bool → List Move → Type 0
IsSupposed (Began t homes) o g = (h : ℕ) × (label_at (labels_after o g) t ≡ Some h) × IsTrue (is_in homes h)
IsSupposed (Went t straight) o g = (h : ℕ) × (label_at (labels_after o g) t ≡ Some h) × IsTrue (is_a Pawn (at (board_after o g) t)) × (is_straight h (way_of o g h) ≡ straight)
IsSupposed (Stands k promoted) o g = IsStanding o g k promoted
IsSupposed (Gone k promoted struck) o g = IsLost o g k promoted struck
IsSupposed (AtMost side squares n) o g = captures o g side squares ≤ n
IsSupposed (AtLeast side squares n) o g = n ≤ captures o g side squares
