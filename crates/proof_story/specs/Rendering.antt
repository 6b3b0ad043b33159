-- The text of a story.
use Rattle.std.specs.Prelude.{ℕ, ◌==◌, Bool, true, false, ◌&&◌, ◌||◌, not, cond, List, [], ◌∷◌, ◌++◌, codes, length, map, Option, Some, None, slice_get, is_some}
use Rattle.std.specs.Fmt.{decimal}
use Rattle.std.specs.List.{flat_map}
use Rattle.board_base.specs.Board.{Places, at}
use Rattle.board_base.specs.Legal.{same_promo}
use Rattle.board_base.specs.Texts.{square_text}
use Rattle.board_base.specs.declared.men.Kind.{Kind}
use Rattle.board_base.specs.declared.men.Kind.TheVariants.{Pawn, Knight, Bishop, Rook, Queen}
use Rattle.castle_history.specs.TakenBack.{castling_back}
use Rattle.prose_words.specs.Words.{kind_word}
use Rattle.proof_story.specs.Movers.{became, mover_initial}
use Rattle.proof_story.specs.Rows.{rows_of}
use Rattle.proof_story.specs.Story.{below}
use Rattle.proof_story.specs.declared.stories.Bundle.{Bundle}
use Rattle.proof_story.specs.declared.stories.Paragraph.{Paragraph}
use Rattle.proof_story.specs.declared.stories.Said.{Said}
use Rattle.proof_story.specs.declared.stories.Said.TheVariants.{Words, As}
use Rattle.proof_story.specs.declared.stories.Way.{Way}

-- texts behind another, each after these letters
abbrev pub behind : List ℕ → List (List ℕ) → List ℕ
behind sign texts = flat_map (λ text. sign ++ text) texts

-- texts with these letters between them
abbrev pub parted : List ℕ → List (List ℕ) → List ℕ
parted sign [] = []
parted sign (text ∷ texts) = text ++ behind sign texts

-- a number of parts, as in `1.2`
abbrev pub number_text : List ℕ → List ℕ
number_text number = parted (codes ".") (map decimal number)

-- where the men came from, as in `f1/e2`
abbrev pub origins_text : List ℕ → List ℕ
origins_text origins = parted (codes "/") (map square_text origins)

-- the king castled, if he came from this square
abbrev pub castles_from : Places → Way → ℕ → Bool
castles_from board w s = is_some (castling_back board (record { from = s; to = w.to; promo = w.promo }))

-- the king castled
abbrev pub is_castling : Places → Way → Bool
is_castling board w = elim (slice_get w.origins.items 0) [ None ↦ false | Some s ↦ castles_from board w s ]

-- the squares of a castling
abbrev pub castles_text : Way → List ℕ
castles_text w = origins_text w.origins.items ++ codes "-" ++ square_text w.to ++ codes " castles"

-- other moves to one square, with a cross where they captured
abbrev pub goes_text : Places → ℕ → Way → List ℕ
goes_text board sign w = mover_initial (at board w.to) w.promo ++ origins_text w.origins.items ++ sign ∷ square_text w.to ++ became w.promo

-- moves to one square
abbrev pub way_text : Places → ℕ → Way → List ℕ
way_text board sign w = cond (is_castling board w) (castles_text w) (goes_text board sign w)

-- several of them
abbrev pub ways_text : Places → ℕ → List Way → List ℕ
ways_text board sign ways = parted (codes ", ") (map (way_text board sign) ways)

-- what stands before a kind that so many others follow
abbrev pub before_kind : ℕ → List ℕ
before_kind after = cond (after == 0) (codes " or ") (codes ", ")

-- kinds behind another
abbrev pub other_kinds : List Kind → List ℕ
other_kinds [] = []
other_kinds (k ∷ ks) = before_kind (length ks) ++ kind_word k ++ other_kinds ks

-- the kind at this place is this one
abbrev pub is_at : List Kind → ℕ → Kind → Bool
is_at kinds i k = same_promo (slice_get kinds i) (Some k)

-- these are the kinds of officers: knight, bishop, rook and queen
abbrev pub are_officers : List Kind → Bool
are_officers kinds = (length kinds == 4) && is_at kinds 0 Knight && is_at kinds 1 Bishop && is_at kinds 2 Rook && is_at kinds 3 Queen

-- these are the kinds of all men who can be captured
abbrev pub are_all_kinds : List Kind → Bool
are_all_kinds [] = false
are_all_kinds (k ∷ ks) = same_promo (Some k) (Some Pawn) && are_officers ks

-- one of these kinds
abbrev pub kinds_text : List Kind → List ℕ
kinds_text [] = []
kinds_text (k ∷ ks) = cond (are_officers (k ∷ ks)) (codes "n officer") (32 ∷ kind_word k ++ other_kinds ks)

-- what stands before the man whom a move captured, or before him whom each of several did
abbrev pub capturing : Bool → List ℕ
capturing single = cond single (codes ", capturing a") (codes ", each capturing a")

-- whom a move captured, or each of several
abbrev pub taken_by : Bool → List Kind → List ℕ
taken_by single kinds = cond (length kinds == 0) [] (cond (are_all_kinds kinds) (codes ", whoever fell") (capturing single ++ kinds_text kinds))

-- it is one move
abbrev pub is_single : List Way → Bool
is_single [] = false
is_single (w ∷ []) = length w.origins.items == 1
is_single (w ∷ v ∷ ws) = false

-- whom the moves of a bundle captured
abbrev pub taken_text : Bundle → List ℕ
taken_text b = cond b.passing (codes " en passant") (taken_by (is_single b.ways.items) b.taken.items)

-- the sign between the squares
abbrev pub sign_of : Bundle → ℕ
sign_of b = cond (b.passing || not (length b.taken.items == 0)) 120 45

-- moves that captured one of the same men
abbrev pub bundle_text : Places → Bundle → List ℕ
bundle_text board b = ways_text board (sign_of b) b.ways.items ++ taken_text b

-- the moves of several bundles
abbrev pub bundles_text : Places → List Bundle → List ℕ
bundles_text board bundles = parted (codes "; ") (map (bundle_text board) bundles)

-- the retractions of a paragraph
abbrev pub labels_text : Paragraph → List ℕ
labels_text p = cond p.is_rest (codes "Every other move") (bundles_text p.whence.board p.bundles.items)

-- what a paragraph begins with; the first has neither a number nor retractions
abbrev pub heading_text : Paragraph → List ℕ
heading_text p = cond (length p.number.items == 0) [] (number_text p.number.items ++ codes " " ++ labels_text p ++ codes ". ")

-- the number of a paragraph
abbrev pub number_at : List Paragraph → ℕ → List ℕ
number_at story i = elim (slice_get story i) [ None ↦ [] | Some p ↦ p.number.items ]

-- what stands behind a reference, before so many paragraphs that differ
abbrev pub but_text : ℕ → List ℕ
but_text n = cond (n == 0) (codes ".") (cond (n == 1) (codes ", but for this:") (codes ", but for these:"))

-- what a paragraph says, with so many paragraphs below it
abbrev pub saying_text : List Paragraph → ℕ → Said → List ℕ
saying_text story n (Words w) = w
saying_text story n (As j) = codes "As in " ++ number_text (number_at story j) ++ but_text n

-- the line of a paragraph
abbrev pub line_text : List Paragraph → Paragraph → List ℕ
line_text story p = heading_text p ++ saying_text story (length p.below.items) p.said

-- The rows of this line and of paragraphs behind it: each goes on in the line of the one before, behind a blank, or has a line of its own.
abbrev pub rows_from : List Paragraph → List ℕ → List Paragraph → List ℕ
rows_from story line [] = rows_of line
rows_from story line (p ∷ ps) =
    cond p.is_joined (rows_from story (line ++ 32 ∷ line_text story p) ps) (rows_of line ++ rows_from story (line_text story p) ps)

-- the rows of these paragraphs
abbrev pub rows_text : List Paragraph → List Paragraph → List ℕ
rows_text story [] = []
rows_text story (p ∷ ps) = rows_from story (line_text story p) ps

-- the text of a story
abbrev pub story_text : List Paragraph → List ℕ
story_text story = rows_text story story
