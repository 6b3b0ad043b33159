-- Which lines of a ledger are told: those that say more than the board and the lines before them do.
use Rattle.std.specs.Prelude.{ℕ, ◌≡◌, ◌+◌, ◌-◌, ◌*◌, ◌<◌, ◌==◌, ◌&&◌, ◌||◌, ◌↔◌, Bool, false, cond, not, slice_index, IsTrue, List, map, nat_le, nat_lt, Option, Some, None}
use Rattle.std.specs.List.{list_any, range_with_len}
use Rattle.board_base.specs.Board.{Places, array_of, at, file, is_a, is_in, is_like, is_of, is_the, opponent, rank}
use Rattle.board_base.specs.Squares.{squares_of}
use Rattle.board_base.specs.declared.men.Colour.{Colour}
use Rattle.board_base.specs.declared.men.Kind.TheVariants.{Pawn, Knight, Bishop, Rook, Queen, King}
use Rattle.board_base.specs.declared.men.Man.{Man}
use Rattle.men_account.specs.Account.{counts_of, is_dark, is_light}
use Rattle.query_base.specs.Asked.{Asked}
use Rattle.cage_rules.specs.Regions.{region}
use Rattle.cage_rules.specs.Sets.{squares_that}
use Rattle.ledger_search.specs.Questions.{only}
use Rattle.ledger_search.specs.declared.counts.Range.{Range}
use Rattle.ledger_search.specs.declared.ledgers.Fates.{Fates}
use Rattle.ledger_search.specs.declared.ledgers.Ledger.{Ledger}
use Rattle.ledger_lines.specs.Known.{IsKnown, counts_of as captures_of, has_officer, is_fallen, is_left, is_promoted, is_struck, is_unpromoted, is_unstruck, lacking, number_in, piece_homes}
use Rattle.ledger_lines.specs.Losses.{losses_of}
use Rattle.ledger_lines.specs.Slants.{tells_class}
use Rattle.ledger_lines.specs.declared.losses.Losses.{Losses}
use Rattle.ledger_lines.specs.declared.facts.Fact.TheVariants.{Took, TookAtMost, Began, Original as BeganOriginal, Promoted as BeganPawn}
use Rattle.ledger_lines.specs.declared.lines.Line.{Line}
use Rattle.ledger_lines.specs.declared.lines.Line.TheVariants.{Unmoved as UnmovedLine, Lacks as LacksLine, Captures as CapturesLine, Pawn as PawnLine, Man as ManLine, Ahead as AheadLine, Original as OriginalLine, Promoted as PromotedLine, Among as AmongLine, Fell, Became}
use Rattle.ledger_lines.specs.declared.lines.Takings.{Takings}
use Rattle.ledger_lines.specs.declared.lines.Taker.{Taker}
use Rattle.ledger_lines.specs.declared.lines.Taker.TheVariants as taker
use Rattle.ledger_lines.specs.declared.lines.Manner.{Manner}
use Rattle.ledger_lines.specs.declared.lines.Manner.TheVariants as manner
use Rattle.ledger_told.specs.declared.topics.Breed.{Breed}
use Rattle.ledger_told.specs.declared.topics.Breed.TheVariants.{Queens, Rooks, DarkBishops, LightBishops, Knights}
use Rattle.ledger_told.specs.declared.topics.Group.{Group}
use Rattle.ledger_told.specs.declared.topics.Group.TheVariants.{Ahead, Original}
use Rattle.ledger_told.specs.declared.topics.Whole.{Whole}
use Rattle.ledger_told.specs.declared.topics.Whole.TheVariants.{Unmoved, Lacks, Captures, Those, Among}
use Rattle.ledger_told.specs.declared.topics.Topic.{Topic}
use Rattle.ledger_told.specs.declared.topics.Topic.TheVariants.{Pawns, Men, Officers, Falls, Promotions}

-- who stands on the set, some men at least, never moved
abbrev pub IsUnmovedLine : List Bool → Option Line → Type 0
IsUnmovedLine set None = (s : ℕ) → s < 64 → is_in set s ≡ false
IsUnmovedLine set (Some x) = (x ≡ UnmovedLine set) × ((s : ℕ) × (s < 64) × IsTrue (is_in set s))

-- somebody is lacking
abbrev pub is_somebody : Losses → Bool
is_somebody x = nat_lt 0 x.queens || nat_lt 0 x.rooks || nat_lt 0 x.dark_bishops || nat_lt 0 x.light_bishops || nat_lt 0 x.knights || nat_lt 0 x.pawns

-- the men whom a side lacks, if it lacks somebody
abbrev pub lacks_line : Asked → Colour → Option Line
lacks_line q c =
    cond (is_somebody (losses_of c (array_of q.odds) q.board)) (Some (LacksLine c (losses_of c (array_of q.odds) q.board))) None

-- how many captures a side's pawns made at most: as many as the other side lacks men if no less is known
abbrev pub most_made : Asked → Ledger → Colour → ℕ
most_made q l c = cond (nat_lt (captures_of l c).all.most (lacking q (opponent c)) && nat_lt (captures_of l c).all.most 16) (captures_of l c).all.most (lacking q (opponent c))

-- how many they made on dark squares at most: as many as in all if no less is known
abbrev pub most_dark : Asked → Ledger → Colour → ℕ
most_dark q l c = cond (nat_lt (captures_of l c).dark.most (most_made q l c) && nat_lt (captures_of l c).dark.most 16) (captures_of l c).dark.most (most_made q l c)

-- those on dark squares are told if they made some in all, and if they made some there, or fewer than they may have made in all
abbrev pub told_dark : Asked → Ledger → Colour → Option Range
told_dark q l c =
    cond (nat_lt 0 (captures_of l c).all.least && (nat_lt 0 (captures_of l c).dark.least || nat_lt (most_dark q l c) (most_made q l c))) (Some (record { least = (captures_of l c).dark.least; most = most_dark q l c })) None

-- the homes that are left for the man on s
abbrev pub homes_left : Asked → Ledger → ℕ → List Bool
homes_left q l s = squares_that (is_left q l s)

-- on s stands a pawn of this side of whom it isn't known that he never left his file
abbrev pub is_moving : Asked → Ledger → Colour → ℕ → Bool
is_moving q l c s = is_the c Pawn (at q.board s) && not (is_in l.straight s)

-- the line of that pawn tells his way, with a capture on this class
abbrev pub tells_class_at : Asked → Ledger → Colour → ℕ → ℕ → Bool
tells_class_at q l c class s = is_moving q l c s && tells_class class (homes_left q l s) s

-- the line of some pawn of this side does
unfoldable pub is_class_told : Asked → Ledger → Colour → ℕ → Bool
is_class_told q l c class = list_any (tells_class_at q l c class) (range_with_len 0 64)

-- how many captures on a class are told: at least so many as it is known, or none if the line of a pawn tells one
abbrev pub told_on : Asked → Ledger → Colour → ℕ → ℕ
told_on q l c class = cond (is_class_told q l c class) 0 (slice_index (captures_of l c).least_on class)

-- what is told of their captures
abbrev pub takings : Asked → Ledger → Colour → Takings
takings q l c = record {
  all = record { least = (captures_of l c).all.least; most = most_made q l c };
  lacking = lacking q (opponent c);
  dark = told_dark q l c;
  least_on = map (told_on q l c) (range_with_len 0 16);
}

-- that is told if they made some, or fewer than the other side lacks
abbrev pub captures_line : Asked → Ledger → Colour → Option Line
captures_line q l c = cond (nat_lt 0 (captures_of l c).all.least || nat_lt (most_made q l c) (lacking q (opponent c))) (Some (CapturesLine c (takings q l c))) None

-- the pawn on s has left the square on which he began, and never his file
abbrev pub is_ahead : Asked → Ledger → ℕ → Bool
is_ahead q l s = is_in l.straight s && not (is_like (at q.board s) (at (array_of q.odds) s))

-- a man who may have been promoted: no pawn or king, of a side that has fewer than eight pawns on the board
abbrev pub is_promotable : Asked → Option Man → Bool
is_promotable q None = false
is_promotable q (Some m) = not (is_a Pawn (Some m)) && not (is_a King (Some m)) && nat_lt (counts_of m.colour q.board).pawns 8

-- the man on s is one of the group; it is not said of those who never moved that they are the men of the array
abbrev pub IsChosen : Group → Asked → Ledger → List Bool → ℕ → Type 0
IsChosen Ahead q l set s = IsTrue (is_ahead q l s)
IsChosen Original q l set s = IsTrue (is_promotable q (at q.board s) && not (is_in set s)) × IsKnown (BeganOriginal s) q l

-- the line that names them
abbrev pub of_group : Group → List Bool → Line
of_group Ahead set = AheadLine set
of_group Original set = OriginalLine set

-- all of the group are named, if there are some
abbrev pub IsGroupLine : Group → Asked → Ledger → List Bool → Option Line → Type 0
IsGroupLine group q l set None = (s : ℕ) → s < 64 → IsChosen group q l set s → ⊥
IsGroupLine group q l set (Some x) =
    (named : List Bool) × (x ≡ of_group group named) × ((s : ℕ) → s < 64 → IsTrue (is_in named s) ↔ IsChosen group q l set s) × ((s : ℕ) × (s < 64) × IsChosen group q l set s)

-- a man of this side and kind stands on s; bishops are told apart by the colour of their squares
abbrev pub is_of_breed : Colour → Breed → Places → ℕ → Bool
is_of_breed c Queens board s = is_the c Queen (at board s)
is_of_breed c Rooks board s = is_the c Rook (at board s)
is_of_breed c DarkBishops board s = is_the c Bishop (at board s) && is_dark s
is_of_breed c LightBishops board s = is_the c Bishop (at board s) && is_light s
is_of_breed c Knights board s = is_the c Knight (at board s)

-- and it isn't known of him that he began as a pawn
abbrev pub IsUnsure : Asked → Ledger → Colour → Breed → ℕ → Type 0
IsUnsure q l c breed s = IsTrue (is_of_breed c breed q.board s) × (IsKnown (BeganPawn s) q l → ⊥)

-- those of this side and kind of whom that isn't known are more than the homes that are left for them as pieces; so many of them began as pawns
abbrev pub IsAmongLine : Asked → Ledger → Colour → Breed → Option Line → Type 0
IsAmongLine q l c breed line =
    (set : List Bool) × ((s : ℕ) → s < 64 → IsTrue (is_in set s) ↔ IsUnsure q l c breed s) × (line ≡ cond (nat_lt (piece_homes q l set) (number_in set)) (Some (AmongLine (number_in set - piece_homes q l set) set)) None)

-- what is told by one line, or that none is due
abbrev pub IsWhole : Whole → Asked → Ledger → List Bool → Option Line → Type 0
IsWhole Unmoved q l set line = IsUnmovedLine set line
IsWhole (Lacks c) q l set line = line ≡ lacks_line q c
IsWhole (Captures c) q l set line = line ≡ captures_line q l c
IsWhole (Those group) q l set line = IsGroupLine group q l set line
IsWhole (Among c breed) q l set line = IsAmongLine q l c breed line

-- on s stands a rook or a knight of this side, who began on another square h and nowhere else
abbrev pub is_moved_man : Asked → Colour → ℕ → ℕ → Bool
is_moved_man q c s h = (is_the c Rook (at q.board s) || is_the c Knight (at q.board s)) && is_of c (at (array_of q.odds) h) && not (h == s)

-- and that is known
abbrev pub IsManLine : Asked → Ledger → Colour → ℕ → ℕ → Type 0
IsManLine q l c s h = IsTrue (is_moved_man q c s h) × IsKnown (Began s (only h)) q l

-- where he began says more than the board: on one home, and not where he stands; or on one of two or three, and he captured
abbrev pub is_pawn_news : List Bool → ℕ → ℕ → Bool
is_pawn_news homes s n = ((number_in homes == 1) && not (is_in homes s)) || (nat_lt 1 (number_in homes) && nat_lt (number_in homes) 4 && nat_lt 0 n)

-- the homes that are left for him, the greatest number, up to 7, of captures that he is known to have made at least, and whether he is known to
-- have made no more
pub record TellsPawn (q : Asked) (l : Ledger) (s : ℕ) (line : Option Line) : Type 0 where
  pub number : ℕ
  pub took : IsKnown (Took s number) q l
  pub most : number < 7 → IsKnown (Took s (number + 1)) q l → ⊥
  pub exact : Bool
  pub exact_is : IsTrue exact ↔ IsKnown (TookAtMost s number) q l
  pub line_is : line ≡ cond (is_pawn_news (homes_left q l s) s number) (Some (PawnLine s (homes_left q l s) number exact)) None

-- on s stands a man of this side, no pawn, who is known to have begun as one
abbrev pub IsPromotedMan : Asked → Ledger → Colour → ℕ → Type 0
IsPromotedMan q l c s = IsTrue (is_of c (at q.board s) && not (is_a Pawn (at q.board s))) × IsKnown (BeganPawn s) q l

-- who took the man of h, as far as it is known
abbrev pub taker_of : Places → Fates → ℕ → Taker
taker_of first f h = cond (is_struck first f h) taker.Pawn (cond (is_unstruck first f h) taker.Officer taker.Anyone)

-- as what he fell, as far as it is known
abbrev pub manner_of : Places → Fates → ℕ → Manner
manner_of first f h = cond (is_unpromoted first f h) manner.AsPawn (cond (is_promoted first f h) manner.AsPromoted manner.Anyhow)

-- this side's pawns took all whom the other side lacks
abbrev pub are_all_taken : Asked → Ledger → Colour → Bool
are_all_taken q l c = nat_le (lacking q (opponent c)) (captures_of l c).all.least

-- who took the man of h says more than the numbers of captures: that a pawn did, where not all fell to pawns, or that none did, where some
-- may have
abbrev pub tells_taker : Asked → Ledger → Option Man → ℕ → Bool
tells_taker q l None h = false
tells_taker q l (Some m) h =
    (is_struck (array_of q.odds) l.fates h && not (are_all_taken q l (opponent m.colour))) || (is_unstruck (array_of q.odds) l.fates h && nat_lt 0 (most_made q l (opponent m.colour)))

-- so does as what he fell, if he began as a pawn
abbrev pub tells_manner : Places → Fates → ℕ → Bool
tells_manner first f h = is_a Pawn (at first h) && (is_unpromoted first f h || is_promoted first f h)

-- the square on the other wing
abbrev pub mirrored : ℕ → ℕ
mirrored h = 8 * rank h + (7 - file h)

-- that he fell says more if he is one of two rooks or knights and the other may stand
abbrev pub is_one_of_two : Places → Fates → ℕ → Bool
is_one_of_two first f h = (is_a Rook (at first h) || is_a Knight (at first h)) && not (is_fallen first f (mirrored h))

-- where he fell says more if he is an officer who can't have left three squares at most beside the men of the set
abbrev pub tells_within : Asked → List Bool → ℕ → Bool
tells_within q set h = has_officer q h && nat_le (number_in (region set h)) 3

-- then these squares are told, and none otherwise
abbrev pub told_within : Asked → List Bool → ℕ → List Bool
told_within q set h = cond (tells_within q set h) (region set h) (squares_of 0)

-- some of these say more
abbrev pub is_news : Asked → Ledger → List Bool → ℕ → Bool
is_news q l set h = tells_taker q l (at (array_of q.odds) h) h || tells_manner (array_of q.odds) l.fates h || is_one_of_two (array_of q.odds) l.fates h || tells_within q set h

-- only of a pawn is it told as what he fell
abbrev pub told_manner : Places → Fates → ℕ → Manner
told_manner first f h = cond (is_a Pawn (at first h)) (manner_of first f h) manner.Anyhow

-- he fell, and that is told if it is news
abbrev pub fall_line : Asked → Ledger → List Bool → ℕ → Option Line
fall_line q l set h =
    cond (is_fallen (array_of q.odds) l.fates h && is_news q l set h) (Some (Fell h (taker_of (array_of q.odds) l.fates h) (told_manner (array_of q.odds) l.fates h) (told_within q set h))) None

-- he was promoted, and that is told of a pawn
abbrev pub promotion_line : Asked → Ledger → ℕ → Option Line
promotion_line q l h = cond (is_promoted (array_of q.odds) l.fates h && is_a Pawn (at (array_of q.odds) h)) (Some (Became h)) None

-- what is told of a square
abbrev pub IsSquareLine : Topic → Asked → Ledger → ℕ → Option Line → Type 0
IsSquareLine (Pawns c) q l s line = (IsTrue (is_moving q l c s) → TellsPawn q l s line) × (is_moving q l c s ≡ false → line ≡ None)
IsSquareLine (Men c) q l s None = (h : ℕ) → h < 64 → IsManLine q l c s h → ⊥
IsSquareLine (Men c) q l s (Some x) = (h : ℕ) × (h < 64) × (x ≡ ManLine s h) × IsManLine q l c s h
IsSquareLine (Officers c) q l s None = IsPromotedMan q l c s → ⊥
IsSquareLine (Officers c) q l s (Some x) = IsPromotedMan q l c s × (x ≡ PromotedLine s (homes_left q l s))
IsSquareLine (Falls set) q l s line = line ≡ fall_line q l set s
IsSquareLine Promotions q l s line = line ≡ promotion_line q l s
