-- When what a ledger says can't be true of any game.
use Rattle.std.specs.Prelude.{ℕ, ◌<◌, ◌&&◌, ◌||◌, ◌⊎◌, Bool, IsTrue, List, [], nat_lt, slice_index_or}
use Rattle.board_base.specs.Board.{array_of, at, is_in}
use Rattle.query_base.specs.Asked.{Asked}
use Rattle.ledger_search.specs.Questions.{is_asked, is_man}
use Rattle.ledger_search.specs.declared.counts.Counts.{Counts}
use Rattle.ledger_search.specs.declared.counts.Range.{Range}
use Rattle.ledger_search.specs.declared.ledgers.Fates.{Fates}
use Rattle.ledger_search.specs.declared.ledgers.Ledger.{Ledger}
use Rattle.ledger_search.specs.declared.questions.Question.{Question}
use Rattle.ledger_search.specs.declared.questions.Question.TheVariants.{Home}

-- each square of which the question is asked is in the set
abbrev pub AreAllDenied : Question → Asked → List Bool → Type 0
AreAllDenied question q found = (h : ℕ) → h < 64 → IsTrue (is_asked question q.board (array_of q.odds) h) → IsTrue (is_in found h)

-- a man stands on s, and no home is left for him
abbrev pub IsHomeless : Asked → Ledger → ℕ → Type 0
IsHomeless q l s = IsTrue (is_man (at q.board s)) × AreAllDenied (Home s) q (slice_index_or l.homes s [])

-- the pawn on s can neither have captured nor have not
abbrev pub is_torn : Ledger → ℕ → Bool
is_torn l s = is_in l.captured s && is_in l.straight s

-- no fate is left for the man who began on h
abbrev pub has_no_fate : Asked → Fates → ℕ → Bool
has_no_fate q f h = is_man (at (array_of q.odds) h) && is_in f.stands h && is_in f.stands_promoted h && is_in f.taken h && is_in f.struck h && is_in f.taken_promoted h && is_in f.struck_promoted h

-- so it is on this square
abbrev pub IsContradictedAt : Asked → Ledger → ℕ → Type 0
IsContradictedAt q l s = IsHomeless q l s ⊎ IsTrue (is_torn l s || has_no_fate q l.fates s)

-- more captures were made at least than at most
abbrev pub is_void : Range → Bool
is_void r = nat_lt r.most r.least

-- so it is in all, on dark or on light squares
abbrev pub are_void : Counts → Bool
are_void c = is_void c.all || is_void c.dark || is_void c.light

-- the ledger contradicts itself
abbrev pub IsContradictory : Asked → Ledger → Type 0
IsContradictory q l = ((s : ℕ) × (s < 64) × IsContradictedAt q l s) ⊎ IsTrue (are_void l.white || are_void l.black)
