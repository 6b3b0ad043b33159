-- Which facts a ledger knows.
use Rattle.std.specs.Prelude.{ℕ, ◌≡◌, ◌+◌, ◌-◌, ◌%◌, ◌==◌, ◌<◌, ◌≤◌, ◌&&◌, ◌||◌, ◌⊎◌, Bool, true, false, not, IsTrue, List, [], length, nat_le, nat_lt, Option, Some, None, slice_index, slice_index_or}
use Rattle.std.specs.Bool.{beq}
use Rattle.std.specs.List.{count_by, filter, list_all, list_any, range_with_len, sum_by}
use Rattle.board_base.specs.Board.{Places, array_of, at, is_a, is_in, is_the, opponent}
use Rattle.board_base.specs.Attacks.{files_apart, ranks_apart}
use Rattle.board_base.specs.declared.men.Colour.{Colour}
use Rattle.board_base.specs.declared.men.Colour.TheVariants.{White, Black}
use Rattle.board_base.specs.declared.men.Kind.TheVariants.{Pawn}
use Rattle.board_base.specs.declared.men.Man.{Man}
use Rattle.men_account.specs.Account.{is_any}
use Rattle.men_account.specs.Homes.{men_of}
use Rattle.query_base.specs.Asked.{Asked}
use Rattle.cage_rules.specs.Frozen.{IsFrozen}
use Rattle.cage_rules.specs.Regions.{is_officer_home, region}
use Rattle.ledger_facts.specs.declared.suppositions.Squares.{Squares}
use Rattle.ledger_facts.specs.declared.suppositions.Squares.TheVariants.{All, Dark, Light, Class}
use Rattle.ledger_search.specs.Questions.{is_asked, is_man}
use Rattle.ledger_search.specs.declared.counts.Counts.{Counts}
use Rattle.ledger_search.specs.declared.counts.Range.{Range}
use Rattle.ledger_search.specs.declared.ledgers.Fates.{Fates}
use Rattle.ledger_search.specs.declared.ledgers.Ledger.{Ledger}
use Rattle.ledger_search.specs.declared.questions.Question.TheVariants.{Home}
use Rattle.ledger_lines.specs.Losses.{losses_of}
use Rattle.ledger_lines.specs.declared.facts.Fact.{Fact}
use Rattle.ledger_lines.specs.declared.facts.Fact.TheVariants.{Began, Original, Promoted, Captured, Took, TookAtMost, Slanted, Straight, Fell, FellToPawn, EscapedPawns, Became, NeverBecame, Stayed, AtLeast, AtMost, Lacks, Among}

-- a man stands on s, and each home of his side that passes the test is ruled out for him
abbrev pub AreRuledOut : Asked → Ledger → ℕ → (ℕ → Bool) → Type 0
AreRuledOut q l s test = IsTrue (is_man (at q.board s)) × ((h : ℕ) → h < 64 → IsTrue (is_asked (Home s) q.board (array_of q.odds) h) → test h ≡ true → IsTrue (is_in (slice_index_or l.homes s []) h))

-- a home of his side is left for the man on s: it isn't ruled out for him
abbrev pub is_left : Asked → Ledger → ℕ → ℕ → Bool
is_left q l s h = is_asked (Home s) q.board (array_of q.odds) h && not (is_in (slice_index_or l.homes s []) h)

-- such a home is fewer than so many files away
abbrev pub is_nearer : Asked → Ledger → ℕ → ℕ → ℕ → Bool
is_nearer q l s n h = is_left q l s h && nat_lt (files_apart h s) n

-- none is
unfoldable pub is_far : Asked → Ledger → ℕ → ℕ → Bool
is_far q l s n = list_all (λ h. not (is_nearer q l s n h)) (range_with_len 0 64)

-- Article 3.7: the pawn on s is known to have made at least so many captures, one for each file that he has gone to the side; or one, as it is
-- ruled out that he made none
abbrev pub has_taken : Asked → Ledger → ℕ → ℕ → Bool
has_taken q l s n = is_far q l s n || (nat_le n 1 && is_in l.captured s)

-- how many captures, up to 7, he is known to have made at least: as many as there are numbers from 1 to 7 of which that is known
unfoldable pub least_taken : Asked → Ledger → ℕ → ℕ
least_taken q l s = count_by (λ n. has_taken q l s (n + 1)) (range_with_len 0 7)

-- another pawn of this side than the one on s stands on t
abbrev pub is_other_pawn : Asked → Colour → ℕ → ℕ → Bool
is_other_pawn q c s t = is_the c Pawn (at q.board t) && not (t == s)

-- how many captures the other pawns of this side are known to have made at least, each for himself
unfoldable pub taken_by_others : Asked → Ledger → Colour → ℕ → ℕ
taken_by_others q l c s = sum_by (least_taken q l) (filter (is_other_pawn q c s) (range_with_len 0 64))

-- Article 3.7: from h to s a pawn makes at most so many captures: one a rank, or one fewer if so many don't lead to the file of s
abbrev pub most_aside : ℕ → ℕ → ℕ
most_aside h s = ranks_apart h s - (ranks_apart h s + files_apart h s) % 2

-- a man began on h, and he doesn't stand
abbrev pub is_fallen : Places → Fates → ℕ → Bool
is_fallen first f h = is_man (at first h) && is_in f.stands h && is_in f.stands_promoted h

-- then the fates without a pawn who takes him are ruled out, or those with one
abbrev pub is_struck : Places → Fates → ℕ → Bool
is_struck first f h = is_fallen first f h && is_in f.taken h && is_in f.taken_promoted h

-- those with a pawn who takes him are
abbrev pub is_unstruck : Places → Fates → ℕ → Bool
is_unstruck first f h = is_man (at first h) && is_in f.struck h && is_in f.struck_promoted h

-- those without a promotion are, or those with one
abbrev pub is_promoted : Places → Fates → ℕ → Bool
is_promoted first f h = is_man (at first h) && is_in f.stands h && is_in f.taken h && is_in f.struck h

-- those with a promotion are
abbrev pub is_unpromoted : Places → Fates → ℕ → Bool
is_unpromoted first f h = is_man (at first h) && is_in f.stands_promoted h && is_in f.taken_promoted h && is_in f.struck_promoted h

-- the numbers of captures of a side
abbrev pub counts_of : Ledger → Colour → Counts
counts_of l White = l.white
counts_of l Black = l.black

-- how many they made on some squares at least
abbrev pub least_of : Counts → Squares → ℕ
least_of c All = c.all.least
least_of c Dark = c.dark.least
least_of c Light = c.light.least
least_of c (Class k) = slice_index c.least_on k

-- at most so many are known: 16 in a range says nothing
abbrev pub is_few : Range → ℕ → Bool
is_few r n = nat_le r.most n && nat_lt r.most 16

-- so it is on these squares; of a class no more is known than of all
abbrev pub is_few_on : Counts → Squares → ℕ → Bool
is_few_on c All n = is_few c.all n
is_few_on c Dark n = is_few c.dark n
is_few_on c Light n = is_few c.light n
is_few_on c (Class k) n = is_few c.all n

-- so it is on these or on all squares
abbrev pub is_most : Counts → Squares → ℕ → Bool
is_most c squares n = is_few_on c squares n || is_few c.all n

-- how many men fewer a side has than it began with
abbrev pub lacking : Asked → Colour → ℕ
lacking q c = men_of c is_any (array_of q.odds) - men_of c is_any q.board

-- the other side lacks at most so many men, whom this side's pawns can have taken
abbrev pub are_lacking : Asked → Colour → ℕ → Bool
are_lacking q c n = nat_le (lacking q (opponent c)) n

-- this side's pawns are known to have made at most so many captures on some squares
abbrev pub have_few : Asked → Ledger → Colour → Squares → ℕ → Bool
have_few q l c squares n = is_most (counts_of l c) squares n || are_lacking q c n

-- those of the side of the man on s are known to have made at most so many in all, besides the captures of its other pawns
abbrev pub has_few : Asked → Ledger → ℕ → Option Man → ℕ → Bool
has_few q l s None n = false
has_few q l s (Some m) n = have_few q l m.colour All (n + taken_by_others q l m.colour s)

-- how many squares are in the set
unfoldable pub number_in : List Bool → ℕ
number_in set = count_by (is_in set) (range_with_len 0 64)

-- the man on s may have begun on h, and as no pawn: this home is left for him
abbrev pub is_piece_home : Asked → Ledger → ℕ → ℕ → Bool
is_piece_home q l s h = is_left q l s h && not (is_a Pawn (at (array_of q.odds) h))

-- so it is of some man on the set
unfoldable pub is_piece_home_of : Asked → Ledger → List Bool → ℕ → Bool
is_piece_home_of q l set h = list_any (λ s. is_in set s && is_piece_home q l s h) (range_with_len 0 64)

-- how many such homes there are
unfoldable pub piece_homes : Asked → Ledger → List Bool → ℕ
piece_homes q l set = count_by (is_piece_home_of q l set) (range_with_len 0 64)

-- a man stands on each square of the set
abbrev pub AreMen : Asked → List Bool → Type 0
AreMen q set = (s : ℕ) → s < 64 → IsTrue (is_in set s) → IsTrue (is_man (at q.board s))

-- Article 2.3: a queen, a rook, a bishop or a knight begins on h, and isn't left out
abbrev pub has_officer : Asked → ℕ → Bool
has_officer q h = is_officer_home h && not (is_in q.odds h)

-- each square of the first set is one of the second
abbrev pub AreWithin : List Bool → List Bool → Type 0
AreWithin inner outer = (s : ℕ) → s < 64 → IsTrue (is_in inner s) → IsTrue (is_in outer s)

-- The array's man on h can't have left these squares while the men of some frozen set stood: his region has no other.
pub record IsKept (q : Asked) (h : ℕ) (squares : List Bool) : Type 0 where
  pub set : List Bool
  pub whole : length set ≡ 64
  pub frozen : IsFrozen q set
  pub within : AreWithin (region set h) squares

-- an officer began on h, and can't have left these squares
abbrev pub HasStayed : Asked → ℕ → List Bool → Type 0
HasStayed q h squares = IsTrue (has_officer q h) × IsKept q h squares

-- the ledger of a query knows the fact
abbrev pub IsKnown : Fact → Asked → Ledger → Type 0
IsKnown (Began s homes) q l = AreRuledOut q l s (λ h. not (is_in homes h))
IsKnown (Original s) q l = AreRuledOut q l s (λ h. not (beq false (is_a Pawn (at (array_of q.odds) h))))
IsKnown (Promoted s) q l = AreRuledOut q l s (λ h. not (beq true (is_a Pawn (at (array_of q.odds) h))))
IsKnown (Captured s) q l = IsTrue (is_in l.captured s)
IsKnown (Took s n) q l = IsTrue (is_a Pawn (at q.board s)) × IsTrue (has_taken q l s n)
IsKnown (TookAtMost s n) q l = IsTrue (is_a Pawn (at q.board s)) × (AreRuledOut q l s (λ h. nat_lt n (most_aside h s)) ⊎ IsTrue (has_few q l s (at q.board s) n))
IsKnown (Slanted s) q l = IsTrue (is_a Pawn (at q.board s))
IsKnown (Straight s) q l = IsTrue (is_in l.straight s)
IsKnown (Fell h) q l = IsTrue (is_fallen (array_of q.odds) l.fates h)
IsKnown (FellToPawn h) q l = IsTrue (is_struck (array_of q.odds) l.fates h)
IsKnown (EscapedPawns h) q l = IsTrue (is_unstruck (array_of q.odds) l.fates h)
IsKnown (Became h) q l = IsTrue (is_promoted (array_of q.odds) l.fates h)
IsKnown (NeverBecame h) q l = IsTrue (is_unpromoted (array_of q.odds) l.fates h)
IsKnown (Stayed h squares) q l = HasStayed q h squares
IsKnown (AtLeast c squares n) q l = IsTrue (nat_le n (least_of (counts_of l c) squares))
IsKnown (AtMost c squares n) q l = IsTrue (have_few q l c squares n)
IsKnown (Lacks c losses) q l = losses ≡ losses_of c (array_of q.odds) q.board
IsKnown (Among set n) q l = AreMen q set × (n + piece_homes q l set ≤ number_in set)

-- the square of which the fact speaks is one of the board, and the class one of sixteen
abbrev pub is_class : Squares → Bool
is_class All = true
is_class Dark = true
is_class Light = true
is_class (Class k) = nat_lt k 16

abbrev pub IsOnBoard : Fact → Type 0
IsOnBoard (Began s homes) = s < 64
IsOnBoard (Original s) = s < 64
IsOnBoard (Promoted s) = s < 64
IsOnBoard (Captured s) = s < 64
IsOnBoard (Took s n) = s < 64
IsOnBoard (TookAtMost s n) = s < 64
IsOnBoard (Slanted s) = s < 64
IsOnBoard (Straight s) = s < 64
IsOnBoard (Fell h) = h < 64
IsOnBoard (FellToPawn h) = h < 64
IsOnBoard (EscapedPawns h) = h < 64
IsOnBoard (Became h) = h < 64
IsOnBoard (NeverBecame h) = h < 64
IsOnBoard (Stayed h squares) = h < 64
IsOnBoard (AtLeast c squares n) = IsTrue (is_class squares)
IsOnBoard (AtMost c squares n) = IsTrue (is_class squares)
IsOnBoard (Lacks c losses) = Unit {0}
IsOnBoard (Among set n) = Unit {0}
