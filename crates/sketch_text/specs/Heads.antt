-- The line that begins a sketch, without its end.
use Rattle.std.specs.Prelude.{ℕ, ◌+◌, ◌-◌, Bool, true, cond, ◌&&◌, nat_eq, nat_le, List, [], ◌∷◌, ◌++◌, drop, map, codes, Option, Some, None}
use Rattle.std.specs.Fmt.{decimal}
use Rattle.std.specs.List.{starts_with}
use Rattle.std.specs.Option.{option_map}
use Rattle.fen_text.specs.Parts.{parted}
use Rattle.sketch_text.specs.Nodes.{number_within}

-- the line that begins a sketch: how many lines of prices follow, and the numbers of the exact files, counted from 0
pub record Head : Type 0 where
  pub prices : ℕ
  pub files : List ℕ

-- the files of these letters, ascending, from the least to h
abbrev pub letters_from : ℕ → List ℕ → Option (List ℕ)
letters_from least [] = Some []
letters_from least (b ∷ text) = cond (nat_le least b && nat_le b 104) (option_map (λ more. (b - 97) ∷ more) (letters_from (b + 1) text)) None

-- of at least one letter
abbrev pub some_letters : List ℕ → Option (List ℕ)
some_letters [] = None
some_letters (b ∷ text) = letters_from 97 (b ∷ text)

-- behind the number of lines of prices: `files`, and the letters of the exact files
unfoldable pub files_of : List ℕ → Option (List ℕ)
files_of text = cond (starts_with nat_eq text (codes "files ")) (some_letters (drop 6 text)) None

-- what the first line says, with so many lines of prices and this text of the files
abbrev pub head_with : ℕ → List ℕ → Option Head
head_with P text = option_map (λ files. record { prices = P; files = files }) (files_of text)

-- behind `sketch`: a number of lines of prices, and the exact files, if there are some
unfoldable pub head_of : List ℕ → Option Head
head_of text = parted 32 (number_within 0 64) (λ P. Some (record { prices = P; files = [] })) head_with text

-- the line that begins a sketch: `sketch`, how many lines of prices follow, from 0 to 64, and the exact files, if there are some
unfoldable pub head_line : List ℕ → Option Head
head_line text = cond (starts_with nat_eq text (codes "sketch ")) (head_of (drop 7 text)) None

-- texts

abbrev pub files_text : List ℕ → List ℕ
files_text [] = []
files_text (f ∷ files) = codes " files " ++ map (λ x. 97 + x) (f ∷ files)

-- the one text of the line
unfoldable pub head_text : Head → List ℕ
head_text h = codes "sketch " ++ decimal h.prices ++ files_text h.files

-- these files ascend from the least to 7
abbrev pub are_files : ℕ → List ℕ → Bool
are_files least [] = true
are_files least (f ∷ files) = nat_le least f && nat_le f 7 && are_files (f + 1) files

-- what is known of each such line
abbrev pub is_head : Head → Bool
is_head h = nat_le h.prices 64 && are_files 0 h.files
