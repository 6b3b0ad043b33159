-- The sentences of a ledger's paragraph, and the lines on which each rests.
use Rattle.std.specs.Prelude.{ℕ, ◌==◌, ◌&&◌, ◌||◌, Bool, true, false, cond, not, List, [], ◌∷◌, ◌++◌, length, nat_le, nat_lt, Some, None}
use Rattle.std.specs.Bool.{beq}
use Rattle.std.specs.List.{All, Contains, count_by, filter, flat_map, list_all, list_any, range_with_len}
use Rattle.board_base.specs.Board.{array_of, at, is_a, is_in, is_of, is_the, opponent, same_colour}
use Rattle.board_base.specs.Play.{king_home, rook_home}
use Rattle.board_base.specs.Rights.{Rights, holds}
use Rattle.board_base.specs.declared.castles.Castle.{Castle}
use Rattle.board_base.specs.declared.castles.Castle.TheVariants.{WhiteShort, WhiteLong, BlackShort, BlackLong}
use Rattle.board_base.specs.declared.men.Colour.{Colour}
use Rattle.board_base.specs.declared.men.Colour.TheVariants.{White, Black}
use Rattle.board_base.specs.declared.men.Kind.TheVariants.{Pawn as APawn}
use Rattle.query_base.specs.Asked.{Asked}
use Rattle.ledger_lines.specs.declared.lines.Line.{Line}
use Rattle.ledger_lines.specs.declared.lines.Line.TheVariants as line
use Rattle.ledger_lines.specs.declared.lines.Taker.{Taker}
use Rattle.ledger_lines.specs.declared.lines.Taker.TheVariants.{Anyone, Pawn as ByPawn, Officer}
use Rattle.ledger_lines.specs.declared.lines.Manner.{Manner}
use Rattle.ledger_lines.specs.declared.lines.Manner.TheVariants.{Anyhow, AsPawn, AsPromoted}
use Rattle.ledger_prose.specs.declared.parts.Group.{Group}
use Rattle.ledger_prose.specs.declared.parts.Group.TheVariants.{Captors, Pawns, Officers, AtHome, Promoted, Original, Unmoved}
use Rattle.ledger_prose.specs.declared.parts.Part.{Part}
use Rattle.ledger_prose.specs.declared.parts.Part.TheVariants.{Captured, Each, Together}
use Rattle.ledger_prose.specs.declared.parts.Topic.{Topic}
use Rattle.ledger_prose.specs.declared.parts.Topic.TheVariants.{Lacking, Taken, Spare, Changed, Origins}

-- What a sentence tells: whom a side lacks; how many of them the other side's pawns took, and which of these pawns captured, each by its line;
-- which of a side's pawns captured, each by its line; that no capture is to spare, by two lines of captures; what a line says of a man or of some
-- men; what several lines say of all their men.
pub data Sentence : Type 0 where
  lacks : Line → Sentence
  took : Line → List Line → Sentence
  captured : Colour → List Line → Sentence
  needed : Line → List Line → Sentence
  alone : Line → Sentence
  together : Group → List Line → Sentence

-- the lines on which it rests
abbrev pub lines_of : Sentence → List Line
lines_of (lacks x) = x ∷ []
lines_of (took x ways) = x ∷ ways
lines_of (captured c ways) = ways
lines_of (needed x others) = x ∷ others
lines_of (alone x) = x ∷ []
lines_of (together group xs) = xs

-- all of them are among these
abbrev pub RestsOn : List Line → Sentence → Type 0
RestsOn lines sentence = All (Contains lines) (lines_of sentence)

-- the line says whom this side lacks
abbrev pub is_lacking : Colour → Line → Bool
is_lacking c (line.Lacks side losses) = same_colour c side
is_lacking c _ = false

-- the line says that this side's pawns made some captures, or fewer than the other side lacks men
abbrev pub is_taken : Colour → Line → Bool
is_taken c (line.Captures side x) = same_colour c side && nat_lt 0 x.lacking && (nat_lt 0 x.all.least || nat_lt x.all.most x.lacking)
is_taken c _ = false

-- it says that they took all whom the other side lacks
abbrev pub are_all_taken : Colour → Line → Bool
are_all_taken c (line.Captures side x) = same_colour c side && nat_lt 0 x.lacking && nat_le x.lacking x.all.least
are_all_taken c _ = false

-- one of the lines does
abbrev pub has_taken_all : Colour → List Line → Bool
has_taken_all c lines = list_any (are_all_taken c) lines

-- the line says of the man who began on h that he was promoted and then taken
abbrev pub is_later_fall : ℕ → Line → Bool
is_later_fall h (line.Fell k taker AsPromoted within) = k == h
is_later_fall h _ = false

-- the king's or the rook's home of a castling that is held
abbrev pub is_home_of : Rights → Castle → ℕ → Bool
is_home_of held x s = holds held x && ((king_home x == s) || (rook_home x == s))

-- of whoever stands on s it is given that he never moved
abbrev pub is_given : Rights → ℕ → Bool
is_given held s = is_home_of held WhiteShort s || is_home_of held WhiteLong s || is_home_of held BlackShort s || is_home_of held BlackLong s

-- a king or an officer stands there
abbrev pub is_no_pawn : Asked → ℕ → Bool
is_no_pawn q s = elim (at q.board s) [ None ↦ false | Some m ↦ not (is_a APawn (Some m)) ]

-- The squares that are named of a line's: those of men, their homes, or those of men who never moved, but for pawns and for those of whom that
-- is given.
abbrev pub names_square : Asked → ℕ → Line → Bool
names_square q s (line.Unmoved set) = is_in set s && is_no_pawn q s && not (is_given q.held s)
names_square q s (line.Pawn t homes n exact) = is_in homes s
names_square q s (line.Original set) = is_in set s
names_square q s (line.Promoted t homes) = is_in homes s
names_square q s (line.Among n set) = is_in set s
names_square q s (line.Fell h taker manner within) = h == s
names_square q s (line.Became h) = h == s
names_square q s _ = false

-- one of the lines names the square
abbrev pub is_named : Asked → List Line → ℕ → Bool
is_named q xs s = list_any (names_square q s) xs

-- how many squares they name
unfoldable pub number_named : Asked → List Line → ℕ
number_named q xs = count_by (is_named q xs) (range_with_len 0 64)

-- one takes the other's place
abbrev pub same_taker : Taker → Taker → Bool
same_taker Anyone Anyone = true
same_taker ByPawn ByPawn = true
same_taker Officer Officer = true
same_taker _ _ = false

-- the manners are equal
abbrev pub same_manner : Manner → Manner → Bool
same_manner Anyhow Anyhow = true
same_manner AsPawn AsPawn = true
same_manner AsPromoted AsPromoted = true
same_manner _ _ = false

-- that a pawn took a man isn't said of him if pawns took all
abbrev pub told_taker : Bool → Taker → Taker
told_taker all Anyone = Anyone
told_taker all ByPawn = cond all Anyone ByPawn
told_taker all Officer = Officer

-- the man of h, whom this side lacks, fell to this taker as far as that is told
abbrev pub fell_to : Colour → Taker → List Line → Taker → Bool
fell_to c told lines taker = same_taker told (told_taker (has_taken_all (opponent c) lines) taker)

-- the line is that of a pawn of this side who captured
abbrev pub is_captor : Colour → Asked → Line → Bool
is_captor c q (line.Pawn s homes n exact) = is_the c APawn (at q.board s) && nat_lt 0 n
is_captor c q _ = false

-- it is that of a pawn, or of an officer, of this side who fell so
abbrev pub is_pawn_fall : Colour → Taker → Manner → Asked → List Line → Line → Bool
is_pawn_fall c told manner q lines (line.Fell h taker how within) = is_the c APawn (at (array_of q.odds) h) && same_manner manner how && fell_to c told lines taker
is_pawn_fall c told manner q lines _ = false

-- the set has no other square
unfoldable pub is_alone : ℕ → List Bool → Bool
is_alone h set = list_all (λ s. not (is_in set s && not (s == h))) (range_with_len 0 64)

-- it is told of whoever began on h that he was taken there
abbrev pub is_at_home : ℕ → List Bool → Bool
is_at_home h within = is_in within h && is_alone h within

-- the line says of a man of c who began as no pawn that he was taken, by this taker as far as it is told; and it tells that he was at home, or it does not
abbrev pub is_officer_fall : Colour → Taker → Bool → Asked → List Line → Line → Bool
is_officer_fall c told home q lines (line.Fell h taker how within) =
    is_of c (at (array_of q.odds) h) && not (is_a APawn (at (array_of q.odds) h)) && fell_to c told lines taker && beq home (is_at_home h within)
is_officer_fall c told home q lines _ = false

-- it is that of a promoted pawn of whom no line says that he was taken then
abbrev pub is_promotion : Colour → Asked → List Line → Line → Bool
is_promotion c q lines (line.Became h) = is_the c APawn (at (array_of q.odds) h) && not (list_any (is_later_fall h) lines)
is_promotion c q lines _ = false

-- it is that of men who began as no pawns, or of men who never moved
abbrev pub is_original : Line → Bool
is_original (line.Original set) = true
is_original _ = false

-- the line is that of men who never moved
abbrev pub is_unmoved : Line → Bool
is_unmoved (line.Unmoved set) = true
is_unmoved _ = false

-- the line is one of the group
abbrev pub is_of_group : Group → Asked → List Line → Line → Bool
is_of_group (Captors c) q lines x = is_captor c q x
is_of_group (Pawns c told manner) q lines x = is_pawn_fall c told manner q lines x
is_of_group (Officers c told) q lines x = is_officer_fall c told false q lines x
is_of_group (AtHome c told) q lines x = is_officer_fall c told true q lines x
is_of_group (Promoted c) q lines x = is_promotion c q lines x
is_of_group Original q lines x = is_original x
is_of_group Unmoved q lines x = is_unmoved x

-- the lines of the group
abbrev pub group_lines : Group → Asked → List Line → List Line
group_lines group q lines = filter (is_of_group group q lines) lines

-- a sentence, if it is due
abbrev pub one_if : Bool → Sentence → List Sentence
one_if due sentence = cond due (sentence ∷ []) []

-- the sentence of a group's lines, if they name somebody
abbrev pub named_sentences : Group → Asked → List Line → List Sentence
named_sentences group q xs = one_if (nat_lt 0 (number_named q xs)) (together group xs)

-- the sentence of the lines of a group, if they name anybody
abbrev pub group_sentences : Group → Asked → List Line → List Sentence
group_sentences group q lines = named_sentences group q (group_lines group q lines)

-- the line is that of a promoted man, or of men of whom some are
abbrev pub is_change : Line → Bool
is_change (line.Promoted s homes) = true
is_change (line.Among n set) = true
is_change _ = false

-- it is that of a man who stands where he didn't begin
abbrev pub is_origin : Line → Bool
is_origin (line.Man s h) = true
is_origin _ = false

-- the sentence of one line under a topic, if it is due
abbrev pub line_sentences : Topic → Asked → List Line → Line → List Sentence
line_sentences (Lacking c) q lines x = one_if (is_lacking c x) (lacks x)
line_sentences (Taken c) q lines x = one_if (is_taken c x) (took x (group_lines (Captors c) q lines))
line_sentences Spare q lines x = one_if (are_all_taken White x && has_taken_all Black lines) (needed x (filter (are_all_taken Black) lines))
line_sentences Changed q lines x = one_if (is_change x) (alone x)
line_sentences Origins q lines x = one_if (is_origin x) (alone x)

-- there are such lines of a side's pawns, and no line says how many men that side's pawns took
abbrev pub are_untold : Colour → List Line → List Line → Bool
are_untold c lines ways = nat_lt 0 (length ways) && not (list_any (is_taken c) lines)

-- the sentence of these lines of a side's pawns, if no other sentence tells of them
abbrev pub untold_sentences : Colour → List Line → List Line → List Sentence
untold_sentences c lines ways = one_if (are_untold c lines ways) (captured c ways)

-- the sentence of a side's pawns who captured, if there are any, and no other sentence tells of them
abbrev pub captured_sentences : Colour → Asked → List Line → List Sentence
captured_sentences c q lines = untold_sentences c lines (group_lines (Captors c) q lines)

-- those of all lines, in their order
unfoldable pub topic_sentences : Topic → Asked → List Line → List Sentence
topic_sentences topic q lines = flat_map (line_sentences topic q lines) lines

-- the sentences of a part of the paragraph
abbrev pub part_sentences : Part → Asked → List Line → List Sentence
part_sentences (Each topic) q lines = topic_sentences topic q lines
part_sentences (Captured c) q lines = captured_sentences c q lines
part_sentences (Together group) q lines = group_sentences group q lines

-- the groups of a side's men who fell
abbrev pub falls : Colour → List Part
falls c =
    Together (Pawns c Anyone AsPawn) ∷ Together (Pawns c ByPawn AsPawn) ∷ Together (Pawns c Officer AsPawn) ∷ Together (Pawns c Anyone AsPromoted) ∷ Together (Pawns c ByPawn AsPromoted) ∷ Together (Pawns c Officer AsPromoted) ∷ Together (Pawns c Anyone Anyhow) ∷ Together (Pawns c ByPawn Anyhow) ∷ Together (Pawns c Officer Anyhow) ∷ Together (Officers c Anyone) ∷ Together (Officers c ByPawn) ∷ Together (Officers c Officer) ∷ Together (AtHome c Anyone) ∷ Together (AtHome c ByPawn) ∷ Together (AtHome c Officer) ∷ []

-- The parts of the paragraph, in order: whom White lacks, whom of them Black's pawns took and which of these captured, the same of Black, whether a
-- capture is to spare, who fell and how, who was promoted, who wasn't, whose homes are known, and who never moved.
abbrev pub opening : List Part
opening = Each (Lacking White) ∷ Each (Taken Black) ∷ Captured Black ∷ Each (Lacking Black) ∷ Each (Taken White) ∷ Captured White ∷ Each Spare ∷ []

-- the parts after those who fell: promoted pawns, promoted men, men who weren't promoted, where men began, men who never moved
abbrev pub closing : List Part
closing = Together (Promoted White) ∷ Together (Promoted Black) ∷ Each Changed ∷ Together Original ∷ Each Origins ∷ Together Unmoved ∷ []

-- the sentences of some parts
unfoldable pub sentences_in : List Part → Asked → List Line → List Sentence
sentences_in parts q lines = flat_map (λ part. part_sentences part q lines) parts

-- the sentences of the paragraph
abbrev pub sentences_of : Asked → List Line → List Sentence
sentences_of q lines = sentences_in opening q lines ++ sentences_in (falls White) q lines ++ sentences_in (falls Black) q lines ++ sentences_in closing q lines
