-- What is counted, in words.
use Rattle.std.specs.Prelude.{ℕ, ◌+◌, ◌==◌, Bool, cond, List, [], ◌∷◌, ◌++◌, codes, length}
use Rattle.std.specs.List.{flat_map, range_with_len}
use Rattle.std.specs.Fmt.{decimal}
use Rattle.std.specs.Str.{bytes_eq}
use Rattle.board_base.specs.Board.{file}
use Rattle.board_base.specs.Texts.{square_text}
use Rattle.board_base.specs.declared.men.Colour.{Colour}
use Rattle.board_base.specs.declared.men.Colour.TheVariants.{White, Black}
use Rattle.capture_prices.specs.Prices.{PriceList}
use Rattle.capture_prices.specs.declared.prices.Gate.{Gate}
use Rattle.prose_words.specs.Words.{side_word}
use Rattle.balance_prose.specs.Counted.{is_counted, is_shade_counted, times_on}

-- a file after a space, where captures on it count so often
abbrev pub file_if : List ℕ → ℕ → ℕ → List ℕ
file_if takes times f = cond (times_on takes f == times) (32 ∷ (97 + f) ∷ []) []

-- the files on which captures count so often
unfoldable pub files_words : List ℕ → ℕ → List ℕ
files_words takes times = flat_map (file_if takes times) (range_with_len 0 8)

-- what stands around one file or several, and nothing if there is none
abbrev pub on_files : List ℕ → List ℕ → List ℕ → List ℕ → List ℕ → List ℕ
on_files list one one_end several several_end =
    cond (length list == 0) [] (cond (length list == 2) (one ++ list ++ one_end) (several ++ list ++ several_end))

-- on which squares captures count, if on those of one shade alone
abbrev pub shade_words : List ℕ → List ℕ
shade_words takes =
    cond (is_shade_counted takes 0) (cond (is_shade_counted takes 1) [] (codes " on dark squares")) (codes " on light squares")

-- on which squares a side's captures count
abbrev pub where_words : List ℕ → List ℕ
where_words takes =
    shade_words takes ++ on_files (files_words takes 0) (codes " but not on the") (codes "-file") (codes " but not on files") []

-- the captures of a side's pawns that count, on these squares
abbrev pub side_counts : Colour → List ℕ → List ℕ
side_counts c on = side_word c ++ codes "'s pawns" ++ on

-- those of both sides, on these squares of White's and on these of Black's
abbrev pub both_count : List ℕ → List ℕ → List ℕ
both_count white black =
    cond (bytes_eq white black) (codes "pawns" ++ white) (cond (length white == 0) (codes "pawns, those by Black's" ++ black) (cond (length black == 0) (codes "pawns, those by White's" ++ white) ((codes "White's pawns" ++ white) ++ (codes ", and by Black's" ++ black))))

-- whose captures count, on these squares
abbrev pub who_of : Bool → Bool → List ℕ → List ℕ → List ℕ
who_of white_counts black_counts white black =
    cond white_counts (cond black_counts (both_count white black) (side_counts White white)) (side_counts Black black)

-- whose captures count
abbrev pub who_counts : List ℕ → List ℕ → List ℕ
who_counts white black = who_of (is_counted white) (is_counted black) (where_words white) (where_words black)

-- what stands before the file on which a side's captures count twice
abbrev pub twice_front : Colour → List ℕ
twice_front White = codes "Those by White's pawns on the"
twice_front Black = codes "Those by Black's pawns on the"

-- the same before several
abbrev pub twice_fronts : Colour → List ℕ
twice_fronts White = codes "Those by White's pawns on files"
twice_fronts Black = codes "Those by Black's pawns on files"

-- which captures of a side count twice
abbrev pub twice_words : Colour → List ℕ → List ℕ
twice_words c takes =
    on_files (files_words takes 2) (twice_front c) (codes "-file count twice. ") (twice_fronts c) (codes " count twice. ")

-- what is added for a gate, and why it is added once at most
abbrev pub gate_words : Gate → List ℕ
gate_words g =
    codes "Add " ++ decimal g.toll ++ codes " if a pawn that neither captured nor was taken as a pawn stood on " ++ square_text g.square ++ codes " or crossed it: of those of " ++ square_text (8 + file g.square) ++ codes " and " ++ square_text (48 + file g.square) ++ codes " only one can have. "

-- what is counted at plain prices
abbrev pub count_words : PriceList → List ℕ
count_words p =
    codes "Count the captures by " ++ who_counts p.white p.black ++ codes ". " ++ twice_words White p.white ++ twice_words Black p.black ++ flat_map gate_words p.gates
