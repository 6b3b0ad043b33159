-- Inner: no public clause cites this file.
-- What an account adds to a ledger.
use Rattle.std.specs.Prelude.{ℕ, ◌<◌, ◌≤◌, Bool, true, false, IsTrue, List, [], slice_index, slice_index_or}
use Rattle.board_base.specs.Board.{is_in}
use Rattle.board_base.specs.declared.men.Colour.{Colour}
use Rattle.board_base.specs.declared.men.Colour.TheVariants.{White, Black}
use Rattle.capture_prices.specs.Prices.{PriceList}
use Rattle.query_base.specs.Asked.{Asked}
use Rattle.ledger_facts.specs.declared.suppositions.Squares.{Squares}
use Rattle.ledger_facts.specs.declared.suppositions.Squares.TheVariants.{All, Dark, Light, Class}
use Rattle.ledger_search.specs.Ledgers.{HasAll, IsAbove, IsBelow, IsLeast, IsLedger, IsMost}
use Rattle.ledger_search.specs.Questions.{AreDenied, HasRefuted}
use Rattle.ledger_search.specs.declared.counts.Counts.{Counts}
use Rattle.ledger_search.specs.declared.counts.Range.{Range}
use Rattle.ledger_search.specs.declared.ledgers.Fates.{Fates}
use Rattle.ledger_search.specs.declared.ledgers.Ledger.{Ledger}
use Rattle.ledger_search.specs.declared.questions.Question.{Question}
use Rattle.ledger_search.specs.declared.questions.Question.TheVariants.{Home, Way, Stay, Loss}

-- the new set has the squares of the old one and all that these prices refute, and no others that aren't ruled out
pub record Finds (question : Question) (q : Asked) (set : List Bool) (p : PriceList) (old new : List Bool) : Type 0 where
  pub sound : AreDenied question q old → AreDenied question q new
  pub stays : (s : ℕ) → s < 64 → IsTrue (is_in old s) → IsTrue (is_in new s)
  pub has : HasRefuted question q set p new

-- the same of the least number of captures, which grows, and of the greatest
pub record Raises (side : Colour) (squares : Squares) (q : Asked) (set : List Bool) (p : PriceList) (old new : ℕ) : Type 0 where
  pub sound : IsLeast side squares q old → IsLeast side squares q new
  pub stays : old ≤ new
  pub has : IsAbove side squares q set p new

pub record Lowers (side : Colour) (squares : Squares) (q : Asked) (set : List Bool) (p : PriceList) (old new : ℕ) : Type 0 where
  pub sound : IsMost side squares q old → IsMost side squares q new
  pub stays : new ≤ old
  pub has : IsBelow side squares q set p new

pub record Narrows (side : Colour) (squares : Squares) (q : Asked) (set : List Bool) (p : PriceList) (old new : Range) : Type 0 where
  pub least : Raises side squares q set p old.least new.least
  pub most : Lowers side squares q set p old.most new.most

pub record CountsOn (side : Colour) (q : Asked) (set : List Bool) (p : PriceList) (old new : Counts) : Type 0 where
  pub all : Narrows side All q set p old.all new.all
  pub dark : Narrows side Dark q set p old.dark new.dark
  pub light : Narrows side Light q set p old.light new.light
  pub least_on : (k : ℕ) → k < 16 → Raises side (Class k) q set p (slice_index old.least_on k) (slice_index new.least_on k)

pub record FindsFates (q : Asked) (set : List Bool) (p : PriceList) (old new : Fates) : Type 0 where
  pub stands : Finds (Stay false) q set p old.stands new.stands
  pub stands_promoted : Finds (Stay true) q set p old.stands_promoted new.stands_promoted
  pub taken : Finds (Loss false false) q set p old.taken new.taken
  pub struck : Finds (Loss false true) q set p old.struck new.struck
  pub taken_promoted : Finds (Loss true false) q set p old.taken_promoted new.taken_promoted
  pub struck_promoted : Finds (Loss true true) q set p old.struck_promoted new.struck_promoted

-- for each square
abbrev pub FindsHomes : Asked → List Bool → PriceList → List (List Bool) → List (List Bool) → Type 0
FindsHomes q set p old new = (s : ℕ) → s < 64 → Finds (Home s) q set p (slice_index_or old s []) (slice_index_or new s [])

-- the new ledger says what the old one does and all that these prices refute, and nothing else that isn't ruled out
pub record Learns (q : Asked) (set : List Bool) (p : PriceList) (old new : Ledger) : Type 0 where
  pub homes : FindsHomes q set p old.homes new.homes
  pub captured : Finds (Way true) q set p old.captured new.captured
  pub straight : Finds (Way false) q set p old.straight new.straight
  pub fates : FindsFates q set p old.fates new.fates
  pub white : CountsOn White q set p old.white new.white
  pub black : CountsOn Black q set p old.black new.black

-- what the new ledger says is ruled out if that of the old one is, and it has all that the old one has
pub record Grows (q : Asked) (old new : Ledger) : Type 0 where
  pub sound : IsLedger q old → IsLedger q new
  pub stays : (set : List Bool) (p : PriceList) → HasAll q set p old → HasAll q set p new
