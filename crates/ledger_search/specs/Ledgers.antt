-- What a ledger says: all of it is ruled out in every game, and it has all that flat prices refute.
use Rattle.std.specs.Prelude.{ℕ, ◌<◌, ◌≤◌, Bool, true, false, List, [], slice_index, slice_index_or}
use Rattle.board_base.specs.declared.men.Colour.{Colour}
use Rattle.board_base.specs.declared.men.Colour.TheVariants.{White, Black}
use Rattle.cage_rules.specs.Frozen.{IsAsArray, IsFrozen}
use Rattle.capture_prices.specs.Prices.{PriceList}
use Rattle.play_rules.specs.Reach.{IsWithin}
use Rattle.query_base.specs.Asked.{Asked}
use Rattle.price_search.specs.FlatPrices.{flat_prices}
use Rattle.price_search.specs.declared.payers.Payers.{Payers}
use Rattle.ledger_facts.specs.Refuted.{IsRefuted, IsRuledOut}
use Rattle.ledger_facts.specs.declared.suppositions.Squares.{Squares}
use Rattle.ledger_facts.specs.declared.suppositions.Squares.TheVariants.{All, Dark, Light, Class}
use Rattle.ledger_facts.specs.declared.suppositions.Supposition.TheVariants.{AtMost, AtLeast}
use Rattle.ledger_search.specs.Questions.{AreDenied, HasRefuted}
use Rattle.ledger_search.specs.declared.counts.Counts.{Counts}
use Rattle.ledger_search.specs.declared.counts.Range.{Range}
use Rattle.ledger_search.specs.declared.ledgers.Fates.{Fates}
use Rattle.ledger_search.specs.declared.ledgers.Ledger.{Ledger}
use Rattle.ledger_search.specs.declared.questions.Question.TheVariants.{Home, Way, Stay, Loss}

-- it is ruled out of each smaller number that a side's pawns made at most so many captures
pub record IsLeast (side : Colour) (squares : Squares) (q : Asked) (n : ℕ) : Type 0 where
  pub few : n ≤ 16
  pub refuted : (m : ℕ) → m < n → IsRuledOut (AtMost side squares m) q

-- it is ruled out of each greater number up to 16 that they made at least so many
pub record IsMost (side : Colour) (squares : Squares) (q : Asked) (n : ℕ) : Type 0 where
  pub few : n ≤ 16
  pub refuted : (m : ℕ) → n < m → m ≤ 16 → IsRuledOut (AtLeast side squares m) q

-- both of these
pub record IsRange (side : Colour) (squares : Squares) (q : Asked) (range : Range) : Type 0 where
  pub least : IsLeast side squares q range.least
  pub most : IsMost side squares q range.most

-- in all, on dark and on light squares, and the least on each class
pub record AreCounts (side : Colour) (q : Asked) (counts : Counts) : Type 0 where
  pub all : IsRange side All q counts.all
  pub dark : IsRange side Dark q counts.dark
  pub light : IsRange side Light q counts.light
  pub least_on : (k : ℕ) → k < 16 → IsLeast side (Class k) q (slice_index counts.least_on k)

-- for each square, the homes on which the man there didn't begin
abbrev pub AreHomes : Asked → List (List Bool) → Type 0
AreHomes q homes = (s : ℕ) → s < 64 → AreDenied (Home s) q (slice_index_or homes s [])

-- of each fate the homes whose men didn't meet it
pub record AreFates (q : Asked) (fates : Fates) : Type 0 where
  pub stands : AreDenied (Stay false) q fates.stands
  pub stands_promoted : AreDenied (Stay true) q fates.stands_promoted
  pub taken : AreDenied (Loss false false) q fates.taken
  pub struck : AreDenied (Loss false true) q fates.struck
  pub taken_promoted : AreDenied (Loss true false) q fates.taken_promoted
  pub struck_promoted : AreDenied (Loss true true) q fates.struck_promoted

-- all that the ledger says is ruled out by some prices
pub record IsLedger (q : Asked) (l : Ledger) : Type 0 where
  pub homes : AreHomes q l.homes
  pub captured : AreDenied (Way true) q l.captured
  pub straight : AreDenied (Way false) q l.straight
  pub fates : AreFates q l.fates
  pub white : AreCounts White q l.white
  pub black : AreCounts Black q l.black

-- the number is greater than each below 16 of which these prices refute that the captures were at most so many
abbrev pub IsAbove : Colour → Squares → Asked → List Bool → PriceList → ℕ → Type 0
IsAbove side squares q set p n = (m : ℕ) → m < 16 → IsRefuted (AtMost side squares m) q set p → m < n

-- it is smaller than each from 1 to 16 of which they refute that the captures were at least so many
abbrev pub IsBelow : Colour → Squares → Asked → List Bool → PriceList → ℕ → Type 0
IsBelow side squares q set p n = (m : ℕ) → 0 < m → m ≤ 16 → IsRefuted (AtLeast side squares m) q set p → n < m

-- both of these
pub record HasRange (side : Colour) (squares : Squares) (q : Asked) (set : List Bool) (p : PriceList) (range : Range) : Type 0 where
  pub least : IsAbove side squares q set p range.least
  pub most : IsBelow side squares q set p range.most

-- so in all, on dark and on light squares, and the least on each class
pub record HasCounts (side : Colour) (q : Asked) (set : List Bool) (p : PriceList) (counts : Counts) : Type 0 where
  pub all : HasRange side All q set p counts.all
  pub dark : HasRange side Dark q set p counts.dark
  pub light : HasRange side Light q set p counts.light
  pub least_on : (k : ℕ) → k < 16 → IsAbove side (Class k) q set p (slice_index counts.least_on k)

-- of each fate the homes that they refute
pub record HasFates (q : Asked) (set : List Bool) (p : PriceList) (fates : Fates) : Type 0 where
  pub stands : HasRefuted (Stay false) q set p fates.stands
  pub stands_promoted : HasRefuted (Stay true) q set p fates.stands_promoted
  pub taken : HasRefuted (Loss false false) q set p fates.taken
  pub struck : HasRefuted (Loss false true) q set p fates.struck
  pub taken_promoted : HasRefuted (Loss true false) q set p fates.taken_promoted
  pub struck_promoted : HasRefuted (Loss true true) q set p fates.struck_promoted

-- the ledger says all that these prices refute beside the set
pub record HasAll (q : Asked) (set : List Bool) (p : PriceList) (l : Ledger) : Type 0 where
  pub homes : (s : ℕ) → s < 64 → HasRefuted (Home s) q set p (slice_index_or l.homes s [])
  pub captured : HasRefuted (Way true) q set p l.captured
  pub straight : HasRefuted (Way false) q set p l.straight
  pub fates : HasFates q set p l.fates
  pub white : HasCounts White q set p l.white
  pub black : HasCounts Black q set p l.black

-- All that the ledger says is ruled out, and it says all that flat prices refute beside the greatest frozen set that is as in the array at
-- the query's odds.
pub record IsLedgerOf (q : Asked) (l : Ledger) : Type 0 where
  pub set : List Bool
  pub frozen : IsFrozen q set
  pub as_array : IsAsArray q.odds q.board set
  pub greatest : (other : List Bool) → IsFrozen q other → IsAsArray q.odds q.board other → IsWithin other set
  pub ledger : IsLedger q l
  pub flat : (payers : Payers) → HasAll q set (flat_prices payers) l
