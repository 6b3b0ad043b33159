-- What a ledger asks of each square, and which answers are ruled out.
use Rattle.std.specs.Prelude.{ℕ, ◌<◌, Bool, true, false, IsTrue, List, Option, Some, None, slice_set}
use Rattle.board_base.specs.Board.{Places, array_of, at, is_a, is_in, is_of}
use Rattle.board_base.specs.Squares.{squares_of}
use Rattle.board_base.specs.declared.men.Kind.TheVariants.{Pawn}
use Rattle.board_base.specs.declared.men.Man.{Man}
use Rattle.query_base.specs.Asked.{Asked}
use Rattle.capture_prices.specs.Prices.{PriceList}
use Rattle.price_search.specs.FlatPrices.{flat_prices}
use Rattle.price_search.specs.declared.payers.Payers.{Payers}
use Rattle.ledger_facts.specs.Refuted.{IsRefuted, IsRuledOut}
use Rattle.ledger_facts.specs.declared.suppositions.Supposition.{Supposition}
use Rattle.ledger_facts.specs.declared.suppositions.Supposition.TheVariants.{Began, Went, Stands, Gone}
use Rattle.ledger_search.specs.declared.questions.Question.{Question}
use Rattle.ledger_search.specs.declared.questions.Question.TheVariants.{Home, Way, Stay, Loss}

-- some flat prices refute the supposition beside the set: 24 for each capture by a pawn, or for each by a pawn of one side
abbrev pub IsFlatlyRefuted : Supposition → Asked → List Bool → Type 0
IsFlatlyRefuted x q set = (payers : Payers) × IsRefuted x q set (flat_prices payers)

-- the set of one square
abbrev pub only : ℕ → List Bool
only s = slice_set (squares_of 0) s true

-- what is supposed if the answer of a square is yes
abbrev pub about : Question → ℕ → Supposition
about (Home t) s = Began t (only s)
about (Way straight) s = Went s straight
about (Stay promoted) s = Stands s promoted
about (Loss promoted struck) s = Gone s promoted struck

-- the place has a man
abbrev pub is_man : Option Man → Bool
is_man None = false
is_man (Some m) = true

-- men of one side stand on the places
abbrev pub shares_side : Option Man → Option Man → Bool
shares_side None second = false
shares_side (Some m) second = is_of m.colour second

-- of which squares a question is asked: a man's homes are those of his side, ways are those of the pawns on the board, and fates those of the
-- men of the array
abbrev pub is_asked : Question → Places → Places → ℕ → Bool
is_asked (Home t) board first s = shares_side (at board t) (at first s)
is_asked (Way straight) board first s = is_a Pawn (at board s)
is_asked (Stay promoted) board first s = is_man (at first s)
is_asked (Loss promoted struck) board first s = is_man (at first s)

-- of each square in the set the question is asked, and some prices rule out that the answer is yes
abbrev pub AreDenied : Question → Asked → List Bool → Type 0
AreDenied question q found = (s : ℕ) → s < 64 → IsTrue (is_in found s) → IsTrue (is_asked question q.board (array_of q.odds) s) × IsRuledOut (about question s) q

-- the set has each square of which the question is asked, if these prices beside the other set refute that the answer is yes
abbrev pub HasRefuted : Question → Asked → List Bool → PriceList → List Bool → Type 0
HasRefuted question q set p found = (s : ℕ) → s < 64 → IsTrue (is_asked question q.board (array_of q.odds) s) → IsRefuted (about question s) q set p → IsTrue (is_in found s)
