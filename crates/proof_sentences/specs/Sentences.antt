-- The sentences that tell why no game reaches a query: what each says, and its words.
use Rattle.std.specs.Prelude.{ℕ, ◌≡◌, ◌≤◌, ◌+◌, ◌-◌, ◌*◌, ◌<◌, nat_lt, nat_le, ◌==◌, Bool, cond, ◌&&◌, IsTrue, length, List, [], ◌++◌, codes, drop, replicate, slice_index}
use Rattle.std.specs.List.{flat_map, range_with_len}
use Rattle.std.specs.Fmt.{decimal}
use Rattle.board_base.specs.Board.{array_of, at, is_a, is_in, is_of, is_the, opponent}
use Rattle.board_base.specs.Attacks.{attacks}
use Rattle.board_base.specs.Game.{lacks_home}
use Rattle.board_base.specs.Potentials.{Duals}
use Rattle.board_base.specs.Texts.{square_text}
use Rattle.board_base.specs.declared.castles.Castle.{Castle}
use Rattle.board_base.specs.declared.men.Colour.{Colour}
use Rattle.board_base.specs.declared.men.Colour.TheVariants.{White, Black}
use Rattle.board_base.specs.declared.men.Kind.TheVariants.{King, Pawn}
use Rattle.assignment.specs.Assignments.{IsInjection, assignment_cost, least_cost}
use Rattle.assignment.specs.Tables.{cost_at}
use Rattle.balance_prose.specs.AccountWords.{best_words}
use Rattle.balance_prose.specs.Accounts.{CountTooMany, HasNoMore}
use Rattle.balance_prose.specs.Counted.{OneTreads, is_plain}
use Rattle.balance_prose.specs.CountWords.{count_words as counting_words}
use Rattle.balance_prose.specs.Pricing.{around, priced_words}
use Rattle.balance_prose.specs.declared.numbers.Numbers.{Numbers}
use Rattle.balance_prose.specs.declared.numbers.Numbers.TheVariants.{Exact, Enough}
use Rattle.balance_rule.specs.Balance.{men_on, most_cost, side_cost}
use Rattle.balance_rule.specs.Costs.{never}
use Rattle.capture_prices.specs.Prices.{PriceList, all_gates, priced}
use Rattle.pawn_assign.specs.PawnCosts.{pawn_costs, pawn_home, pawn_squares}
use Rattle.men_account.specs.Account.{accounts_for, allowance_of, counts_of, excess_of, is_any, men}
use Rattle.men_account.specs.Homes.{men_of}
use Rattle.play_rules.specs.Kings.{HasOneKingEach}
use Rattle.play_rules.specs.Laws.{is_end}
use Rattle.query_base.specs.Asked.{Asked}
use Rattle.query_base.specs.Targets.{Covers}
use Rattle.cage_rules.specs.Frozen.{IsAsArray, IsFrozen, is_held_home}
use Rattle.cage_rules.specs.Refuted.{HasTooMany, NeedTooMany, is_spent}
use Rattle.cage_rules.specs.Regions.{is_dead, is_officer_home}
use Rattle.unmove_gen.specs.Listed.{unmoves}
use Rattle.retraction_bars.specs.Lines.{bars_text}
use Rattle.retraction_bars.specs.Told.{NobodyMoved}
use Rattle.prose_words.specs.Words.{man_words, side_word, squares_words}
use Rattle.proof_sentences.specs.Firsts.{is_astray}
use Rattle.proof_sentences.specs.Phrases.{unmoved_words}
use Rattle.proof_sentences.specs.declared.sentences.BalanceFact.{BalanceFact}
use Rattle.proof_sentences.specs.declared.sentences.BalanceFact.TheVariants.{Priced, Balanced, Counted, Best, Homeless}
use Rattle.proof_sentences.specs.declared.sentences.PawnFact.{PawnFact}
use Rattle.proof_sentences.specs.declared.sentences.PawnFact.TheVariants.{Count, Gone, Promoted, Way, AtLeast, Lacks}
use Rattle.proof_sentences.specs.declared.sentences.Sentence.{Sentence}
use Rattle.proof_sentences.specs.declared.sentences.Sentence.TheVariants.{Kings, Ranks, Check, Rights, Caged, Changed, Settled, OnPawns, OnBalance, Back, Still, Moved}

-- an officer's home of this side, on which somebody began of whom nobody is left
abbrev pub is_gone : Asked → Colour → List Bool → ℕ → Bool
is_gone q c set h = is_of c (at (array_of q.odds) h) && is_officer_home h && is_dead q.board set h

-- a home of this side, on which somebody began whom some man other than a pawn captured
abbrev pub is_safe : Asked → Colour → List Bool → ℕ → Bool
is_safe q c set h = is_of c (at (array_of q.odds) h) && is_spent q.board set h

-- the men on the set shut each other in and are as in the array: they never moved
abbrev pub NeverMoved : Asked → List Bool → Type 0
NeverMoved q set = IsFrozen q set × IsAsArray q.odds q.board set

-- no captures cost anything, and nothing is paid for squares
abbrev pub free : PriceList
free = priced (replicate 16 0) (replicate 16 0) []

-- Where nothing has a price, the men of a side cost 96 each with homes of their own, and more than anything costs where some man can't
-- have a home. Then they can't all have homes at any prices.
abbrev pub is_homeless : Asked → List Bool → Colour → Bool
is_homeless q set c = nat_le never (side_cost q.odds q.board free set c)

-- so many captures by the side's pawns are more than the men of the other side who are gone, without those whom no pawn took
abbrev pub AreTooMany : ℕ → Asked → List Bool → Colour → Type 0
AreTooMany captures q set c =
    men_of (opponent c) is_any (array_of q.odds) < captures + (men_of (opponent c) is_any q.board + men_of (opponent c) (is_spent q.board set) (array_of q.odds))

-- What is said of a side's pawns, or of the men whom it lacks. The side has so many pawns, with the men who must have been promoted so
-- many, and began with so many, which is fewer. The men on the set never moved; meanwhile nobody is left of those who began on the homes
-- that are named; so the side has more pawns and promoted men than it had pawns. Its pawns have made at least so many captures, as many as
-- where they began on these files; or so many, which is more than the men whom the enemy lacks and who may have been taken by pawns. The
-- side lacks so many men, of whom no pawn took those of the homes that are named, and the enemy's pawns need more than the others.
abbrev pub PawnsSay : PawnFact → Asked → Type 0
PawnsSay (Count c pawns together began first) q =
    (pawns ≡ men c Pawn is_any q.board) × (together ≡ excess_of (counts_of c q.board) (allowance_of c is_any (array_of q.odds))) × (began ≡ men c Pawn is_any (array_of q.odds)) × (IsTrue (accounts_for q.odds q.board c) → ⊥)
PawnsSay (Gone c set) q = NeverMoved q set
PawnsSay (Promoted c set pawns began first) q =
    (pawns ≡ men c Pawn is_any q.board) × (began ≡ men c Pawn is_any (array_of q.odds)) × HasTooMany q.odds q set c
PawnsSay (Way c captures files) q =
    (length (pawn_squares c q.board) ≤ 8) × IsInjection 8 (length (pawn_squares c q.board)) files.items × (captures ≡ assignment_cost (pawn_costs q.odds c q.board) files.items) × (captures ≡ least_cost 8 (pawn_costs q.odds c q.board))
PawnsSay (AtLeast c set captures) q =
    NeverMoved q set × (length (pawn_squares c q.board) ≤ 8) × (captures ≤ least_cost 8 (pawn_costs q.odds c q.board)) × AreTooMany captures q set c
PawnsSay (Lacks c set missing first) q =
    NeverMoved q set × (missing ≡ men_of c is_any (array_of q.odds) - men_of c is_any q.board) × ((p : Duals) × NeedTooMany q.odds q set (opponent c) p.u p.v)

-- What is said of a balance of captures. Captures have these prices, and at these prices the men of both sides cost so much at least, which
-- is more than the gates make up for. Captures count as these plain prices say, and of the two pawns of a file who keep to it at most one
-- treads each square, in every game; with these homes, at which both sides cost the least, the men count more than they and the gates make
-- up for. The men of a side can't all have begun on homes of their own.
abbrev pub BalanceSays : BalanceFact → Asked → Type 0
BalanceSays (Priced set p) q = NeverMoved q set
BalanceSays (Balanced set p white black numbers) q =
    NeverMoved q set × (white ≡ side_cost q.odds q.board p set White) × (black ≡ side_cost q.odds q.board p set Black) × (most_cost q.odds p < white + black) × HasNoMore q White × HasNoMore q Black
BalanceSays (Counted set p) q = NeverMoved q set × IsTrue (is_plain p) × ((s : ℕ) → OneTreads q.odds s)
BalanceSays (Best set p white black first numbers) q = NeverMoved q set × CountTooMany q p set white.items black.items
BalanceSays (Homeless c set) q = NeverMoved q set × HasNoMore q c × IsTrue (is_homeless q set c)

-- What a sentence says of a query. Not each side has one king; a pawn stands on this square of rank 1 or 8; a king of the side that isn't
-- to move stands on this square in check; this right is held, and its king or its rook was left out or isn't at home. The men on the set
-- shut each other in; this square of the set doesn't hold what it held in the array; the men on the set never moved. Something of pawns, or
-- of a balance. The query above, which speaks of the position so many half-moves later, has the same position and asks no more. The side
-- that isn't to move has no retraction, and what is told of its men is so; or it has some.
abbrev pub Says : Sentence → Asked → Type 0
Says Kings q = HasOneKingEach q.board → ⊥
Says (Ranks s) q = IsTrue (is_end s && is_a Pawn (at q.board s))
Says (Check c s) q = (c ≡ opponent q.turn) × IsTrue (is_the c King (at q.board s) && attacks q.board s (opponent c))
Says (Rights x) q = IsTrue (is_astray q x)
Says (Caged set) q = IsFrozen q set
Says (Changed set s) q = IsTrue (is_in set s) × (at q.board s ≡ at (array_of q.odds) s → ⊥)
Says (Settled set) q = NeverMoved q set
Says (OnPawns fact) q = PawnsSay fact q
Says (OnBalance fact) q = BalanceSays fact q
Says (Back k above) q = Covers above q
Says (Still first) q = NobodyMoved q
Says (Moved first) q = 0 < length (unmoves q)

-- a number of things, with the word for one or for several
abbrev pub counted : ℕ → List ℕ → List ℕ → List ℕ
counted n one several = decimal n ++ cond (n == 1) one several

-- where a pawn came from, if it moved, and where it stands
abbrev pub way_words : ℕ → ℕ → List ℕ
way_words home s = cond (home == s) (square_text s) (square_text home ++ codes "-" ++ square_text s)

-- after a comma, the way of a pawn with how many captures it made, if it made any
abbrev pub pawn_words : ℕ → ℕ → ℕ → List ℕ
pawn_words home s cost = cond (cost == 0) [] (codes ", " ++ way_words home s ++ codes " " ++ decimal cost)

-- the way of one pawn of the side among those who began on these files
abbrev pub nth_way : Asked → Colour → List ℕ → ℕ → List ℕ
nth_way q c files k =
    pawn_words (pawn_home c (slice_index files k)) (slice_index (pawn_squares c q.board) k) (cost_at (pawn_costs q.odds c q.board) k (slice_index files k))

-- the ways of all of them, of those who captured
unfoldable pub ways_words : Asked → Colour → List ℕ → List ℕ
ways_words q c files = flat_map (nth_way q c files) (range_with_len 0 (length (pawn_squares c q.board)))

-- What a side does now, or did then: of the first query that is told it is said as of now, and of each other as of before the move that
-- leads to it, since other men stand there than in the diagram.
abbrev pub at_time : Bool → Colour → List ℕ → List ℕ → List ℕ
at_time first c now before = cond first [] (codes "Before this move ") ++ side_word c ++ cond first now before

-- that a side has so many promoted men too, and began with so many pawns
abbrev pub promoted_words : ℕ → ℕ → List ℕ
promoted_words promoted began =
    codes " and at least " ++ counted promoted (codes " promoted man") (codes " promoted men") ++ codes ", but began with " ++ counted began (codes " pawn") (codes " pawns")

-- the same behind the number of its pawns, where promoted men are named only if there are any
abbrev pub began_words : ℕ → ℕ → List ℕ
began_words promoted began = cond (promoted == 0) (codes ", but began with " ++ decimal began) (promoted_words promoted began)

-- that a side has pawns and promoted men, and began with so many pawns
abbrev pub count_words : Bool → Colour → ℕ → ℕ → ℕ → List ℕ
count_words first c pawns promoted began =
    at_time first c (codes " has ") (codes " had ") ++ counted pawns (codes " pawn") (codes " pawns") ++ began_words promoted began ++ codes "."

-- that a pawn stands on a square
abbrev pub end_words : ℕ → List ℕ
end_words s = codes "A pawn stands on " ++ square_text s ++ codes "."

-- that the king of a side stands in check on a square, and the other side is to move
abbrev pub check_words : Colour → ℕ → List ℕ
check_words c s = side_word c ++ codes "'s king on " ++ square_text s ++ codes " stands in check with " ++ side_word (opponent c) ++ codes " to move."

-- why the king and the rook of a castling can't have stayed
abbrev pub rights_words : List Bool → Castle → List ℕ
rights_words odds x =
    codes "It can't be that " ++ unmoved_words x ++ cond (lacks_home odds x) (codes ": the game began without the rook.") (codes ": they don't both stand there.")

-- a square of the set is a home of a right that is held
abbrev pub is_kept : Asked → List Bool → ℕ → Bool
is_kept q set s = is_in set s && is_held_home q.held s

-- of whom it is so since a right to castle is held
abbrev pub by_right : List ℕ → List ℕ
by_right kept = around (codes " (by the right to castle:") kept (codes ")")

-- that the man on one square is shut in
abbrev pub one_shut : List ℕ → List ℕ → List ℕ
one_shut list kept = codes "The man on" ++ list ++ codes " can't have come there" ++ by_right kept ++ codes ". So he stood there from the beginning. "

-- that these men shut each other in
abbrev pub many_shut : List ℕ → List ℕ → List ℕ
many_shut list kept =
    codes "The men on" ++ list ++ codes " shut each other in: none of them can have come to his square while the others stood" ++ by_right kept ++ codes ". So they stood there from the beginning. "

-- that these men shut each other in, or that the one on one square is shut in, and for which of them this is by a right to castle
abbrev pub shut_words : List ℕ → List ℕ → List ℕ
shut_words list kept = cond (length list == 3) (one_shut list kept) (cond (length list == 0) [] (many_shut list kept))

-- the same of the men on a set
abbrev pub caged_words : Asked → List Bool → List ℕ
caged_words q set = shut_words (squares_words (is_in set)) (squares_words (is_kept q set))

-- who stood on a square at the beginning
abbrev pub stood_words : List Bool → ℕ → List ℕ
stood_words odds s = codes "But at the beginning " ++ man_words (at (array_of odds) s) ++ codes " stood on " ++ square_text s ++ codes "."

-- that these men never moved, or the one on one square
abbrev pub unmoved_men : List ℕ → List ℕ
unmoved_men list =
    cond (length list == 3) (around (codes "The man on") list (codes " never moved. ")) (around (codes "The men on") list (codes " never moved. "))

-- the same of the men on a set
abbrev pub settled_words : List Bool → List ℕ
settled_words set = unmoved_men (squares_words (is_in set))

-- that the men of some homes were captured
abbrev pub gone_words : Asked → Colour → List Bool → List ℕ
gone_words q c set = around (codes "Whoever began on") (squares_words (is_gone q c set)) (codes " was captured. ")

-- how many captures the side's pawns made at least, and how they may have made them
abbrev pub some_words : Asked → Colour → ℕ → List ℕ → List ℕ
some_words q c captures files =
    codes "'s pawns have made at least " ++ counted captures (codes " capture") (codes " captures") ++ codes ". A cheapest way:" ++ drop 1 (ways_words q c files) ++ codes ". "

-- that the side's pawns can have come without a capture
abbrev pub no_captures : List ℕ
no_captures = codes "'s pawns needn't have made any captures. "

-- how many captures, one or more, the side's pawns made at least
abbrev pub more_words : ℕ → List ℕ
more_words captures = codes "'s pawns have made at least " ++ counted captures (codes " capture") (codes " captures") ++ codes ". "

-- how many captures the side's pawns made at least
abbrev pub least_words : ℕ → List ℕ
least_words captures = cond (captures == 0) no_captures (more_words captures)

-- with how many captures the side's pawns came, where the least number is this one, and where they began on these files
abbrev pub captures_words : Asked → Colour → ℕ → List ℕ → List ℕ
captures_words q c captures files =
    cond (captures == 0) no_captures (cond (nat_lt captures 64) (some_words q c captures files) (codes "'s pawns can't have come to these squares from different files, however much they captured."))

-- the side has at most eight pawns, who can have come to their squares from different files
abbrev pub can_come : Asked → Colour → Bool
can_come q c = nat_le (length (pawn_squares c q.board)) 8 && nat_lt (least_cost 8 (pawn_costs q.odds c q.board)) 64

-- how many men a side lacks
abbrev pub missing_words : Bool → Colour → ℕ → List ℕ
missing_words first c missing = at_time first c (codes " lacks ") (codes " lacked ") ++ cond (missing == 0) (codes "no men") (counted missing (codes " man") (codes " men"))

-- how many men a side lacks, and whom no pawn took
abbrev pub lacks_words : Bool → Asked → Colour → List Bool → ℕ → List ℕ
lacks_words first q c set missing =
    missing_words first c missing ++ around (codes ", but no pawn can have taken whoever began on") (squares_words (is_safe q c set)) [] ++ codes "."

-- the same, if it matters: if the enemy's pawns can have come at all
abbrev pub missed_words : Bool → Asked → Colour → List Bool → ℕ → List ℕ
missed_words first q c set missing = cond (can_come q (opponent c)) (lacks_words first q c set missing) []

-- what men pay more than they earn, or the other way round
abbrev pub difference_words : ℕ → ℕ → List ℕ
difference_words cost own =
    cond (nat_le own cost) (codes "'s men pay at least " ++ decimal (cost - own) ++ codes " more than they earn") (codes "'s men earn at most " ++ decimal (own - cost) ++ codes " more than they pay")

-- what the men of a side cost, of whom so many began
abbrev pub net_words : Colour → ℕ → ℕ → List ℕ
net_words c cost began = side_word c ++ difference_words cost (96 * began)

-- that the men of a side can't all have homes
abbrev pub homeless_words : Colour → List ℕ
homeless_words c = side_word c ++ codes "'s men, with those who are gone, can't all have begun on homes of their own."

-- why they can't pay more than they earn, or only what they pay for squares
abbrev pub most_words : ℕ → List ℕ
most_words gates =
    cond (gates == 0) (codes ". But what is paid is what is earned.") (codes ". But what is paid for captures is what is earned, and for squares at most " ++ decimal gates ++ codes " is paid.")

-- what the men of both sides cost, who have homes: those of each side; or a number that is enough for both
abbrev pub account_words : Numbers → List Bool → ℕ → ℕ → ℕ → List ℕ
account_words Exact odds gates white black =
    net_words White white (men_on White (array_of odds)) ++ codes ", and " ++ net_words Black black (men_on Black (array_of odds)) ++ most_words gates
account_words Enough odds gates white black =
    codes "All men together pay at least " ++ decimal (gates + 1) ++ codes " more than they earn" ++ most_words gates

-- that the position stands later in the game too
abbrev pub back_words : ℕ → List ℕ
back_words k =
    codes "The same position stands " ++ counted k (codes " half-move") (codes " half-moves") ++ codes " later, with no more demands; a shortest game doesn't come to it twice."

-- that a side can't have moved last
abbrev pub still_words : Colour → Bool → List ℕ
still_words c first = side_word c ++ cond first (codes " moved last, but no man can have.") (codes " has no move before it.")

-- the same, and why
abbrev pub barred_words : Asked → Bool → List ℕ
barred_words q first = still_words (opponent q.turn) first ++ bars_text q

-- that the moves with which it can have moved last follow
abbrev pub moved_words : Colour → Bool → List ℕ
moved_words c first = side_word c ++ cond first (codes "'s last move was one of these:") (codes "'s move before it was one of these:")

-- the words of what is said of pawns
unfoldable pub pawn_fact_words : PawnFact → Asked → List ℕ
pawn_fact_words (Count c pawns together began first) q = count_words first c pawns (together - pawns) began
pawn_fact_words (Gone c set) q = gone_words q c set
pawn_fact_words (Promoted c set pawns began first) q = count_words first c pawns (began + 1 - pawns) began
pawn_fact_words (Way c captures files) q = side_word c ++ captures_words q c captures files.items
pawn_fact_words (AtLeast c set captures) q = side_word c ++ least_words captures
pawn_fact_words (Lacks c set missing first) q = missed_words first q c set missing

-- the words of what is said of a balance
unfoldable pub balance_fact_words : BalanceFact → Asked → List ℕ
balance_fact_words (Priced set p) q = priced_words p
balance_fact_words (Balanced set p white black numbers) q = account_words numbers q.odds (all_gates p) white black
balance_fact_words (Counted set p) q = counting_words p
balance_fact_words (Best set p white black first numbers) q = best_words numbers first q p set white.items black.items
balance_fact_words (Homeless c set) q = homeless_words c

-- the words of a sentence; after each but the last of a reason comes a space
unfoldable pub words_of : Sentence → Asked → List ℕ
words_of Kings q = codes "A side has no king, or more than one."
words_of (Ranks s) q = end_words s
words_of (Check c s) q = check_words c s
words_of (Rights x) q = rights_words q.odds x
words_of (Caged set) q = caged_words q set
words_of (Changed set s) q = stood_words q.odds s
words_of (Settled set) q = settled_words set
words_of (OnPawns fact) q = pawn_fact_words fact q
words_of (OnBalance fact) q = balance_fact_words fact q
words_of (Back k above) q = back_words k
words_of (Still first) q = barred_words q first
words_of (Moved first) q = moved_words (opponent q.turn) first
