-- The lines that begin sketches, and their texts.
use Rattle.std.proofs.Common.{◌≡◌, ℕ, suc, ◌+◌, ◌-◌, ◌<◌, ◌≤◌, Bool, true, false, cond, ◌&&◌, List, [], ◌∷◌, ◌++◌, length, drop, get_or, map, Option, Some, None, inl, inr, refl, sym, ap, ◌∙◌, arith, append-nil, append_assoc, length-append, drop-cons, nat_eq, nat_le}
use Rattle.std.specs.Prelude.{codes}
use Rattle.std.proofs.lemmas.Bool.{and_parts, and_from, cond-true, cond-false, cond_both, leb-true, le-leb}
use Rattle.std.proofs.lemmas.List.{drop_all}
use Rattle.std.proofs.lemmas.List.Elements.{All-cons}
use Rattle.std.proofs.lemmas.Option.{same_Some}
use Rattle.std.specs.Fmt.{decimal}
use Rattle.std.specs.List.{All, starts_with}
use Rattle.std.specs.Option.{option_map}
use Rattle.board_base.specs.Texts.{◌>>=◌}
use Rattle.board_base.proofs.TextLemmas.{mapped_some}
use Rattle.fen_text.proofs.Begun.{begun}
use Rattle.fen_text.proofs.PartLemmas.{parted_end, parted_known, parted_next}
use Rattle.sketch_text.specs.Heads.{Head, are_files, files_of, files_text, head_line, head_of, head_text, head_with, is_head, letters_from, some_letters}
use Rattle.sketch_text.specs.Nodes.{number_within}
use Rattle.sketch_text.proofs.InRange.{Only, decimal_free, within_back, within_read}
use Rattle.sketch_text.proofs.FiguresRead.{no_more}

abbrev letters : List ℕ → List ℕ
letters files = map (λ x. 97 + x) files

letters_back : (least : ℕ) (files : List ℕ) → are_files least files ≡ true → letters_from (97 + least) (letters files) ≡ Some files
letters_back least [] known = refl
letters_back least (f ∷ files) known =
    let last = and_parts (nat_le least f && nat_le f 7) (are_files (f + 1) files) known in
    let both = and_parts (nat_le least f) (nat_le f 7) last.0 in
    let from = leb-true least f both.0 in
    let to = leb-true f 7 both.1 in
    let next : (97 + f) + 1 ≡ 97 + (f + 1) = omega arith in
    let back : (97 + f) - 97 ≡ f = omega arith in
    cond-true (nat_le (97 + least) (97 + f) && nat_le (97 + f) 104) (option_map (λ (more : List ℕ). ((97 + f) - 97) ∷ more) (letters_from ((97 + f) + 1) (letters files))) None (and_from _ _ (le-leb (97 + least) (97 + f) (omega arith)) (le-leb (97 + f) 104 (omega arith)))
    ∙ ap (λ (k : ℕ). option_map (λ (more : List ℕ). k ∷ more) (letters_from ((97 + f) + 1) (letters files))) back
    ∙ ap (λ (k : ℕ). option_map (λ (more : List ℕ). f ∷ more) (letters_from k (letters files))) next
    ∙ ap (option_map (λ (more : List ℕ). f ∷ more)) (letters_back (f + 1) files last.1)

-- a text has the letters of files
record AreLetters (least : ℕ) (text files : List ℕ) : Type 0 where
  text_is : text ≡ letters files
  known : are_files (least - 97) files ≡ true

letters_read : (least : ℕ) (text : List ℕ) → 97 ≤ least → Only (AreLetters least text) (letters_from least text)
letters_read least [] low files e = let one : [] ≡ files = same_Some [] files e in record { text_is = ap letters one; known = ap (are_files (least - 97)) (sym one) }
letters_read least (b ∷ text) low files e =
    let in_range = cond_some_map (nat_le least b && nat_le b 104) (letters_from (b + 1) text) (b - 97) files e in
    let both = and_parts (nat_le least b) (nat_le b 104) in_range.0 in
    let from = leb-true least b both.0 in
    let to = leb-true b 104 both.1 in
    let m = mapped_some (λ (more : List ℕ). (b - 97) ∷ more) (letters_from (b + 1) text) files in_range.1 in
    let rest = letters_read (b + 1) text (omega arith) m.0 m.1 in
    let same : b ≡ 97 + (b - 97) = omega arith in
    let next : (b + 1) - 97 ≡ (b - 97) + 1 = omega arith in
    record {
      text_is = ap (λ (l : List ℕ). b ∷ l) rest.text_is ∙ ap (λ (k : ℕ). k ∷ letters m.0) same ∙ ap letters m.2;
      known = ap (are_files (least - 97)) (sym m.2) ∙ and_from _ _ (and_from _ _ (le-leb (least - 97) (b - 97) (omega arith)) (le-leb (b - 97) 7 (omega arith))) (ap (λ (k : ℕ). are_files k m.0) (sym next) ∙ rest.known);
    }
  where
    cond_some_map : (t : Bool) (o : Option (List ℕ)) (x : ℕ) (files : List ℕ) → cond t (option_map (λ (more : List ℕ). x ∷ more) o) None ≡ Some files → (t ≡ true) × (option_map (λ (more : List ℕ). x ∷ more) o ≡ Some files)
    cond_some_map true o x files e = (refl, e)
    cond_some_map false o x files e = absurd cc

-- what stands behind the number

files_back : (f : ℕ) (files : List ℕ) → are_files 0 (f ∷ files) ≡ true → files_of (codes "files " ++ letters (f ∷ files)) ≡ Some (f ∷ files)
unfolding files_of
files_back f files known = letters_back 0 (f ∷ files) known

-- a text has the files of a sketch
record AreFilesText (text files : List ℕ) : Type 0 where
  text_is : text ≡ codes "files " ++ letters files
  some : files_text files ≡ codes " files " ++ letters files
  known : are_files 0 files ≡ true

some_read : (text : List ℕ) → Only (λ files. (text ≡ letters files) × (files_text files ≡ codes " files " ++ letters files) × (are_files 0 files ≡ true)) (some_letters text)
some_read [] files e = absurd cc
some_read (b ∷ text) [] e = let none = (letters_read 97 (b ∷ text) (omega arith) [] e).text_is in absurd cc
some_read (b ∷ text) (f ∷ files) e = let read = letters_read 97 (b ∷ text) (omega arith) (f ∷ files) e in (read.text_is, refl, read.known)

files_read : (text : List ℕ) → Only (AreFilesText text) (files_of text)
unfolding files_of
files_read text =
    cond_both (starts_with nat_eq text (codes "files ")) _ _ (Only (AreFilesText text)) (λ t files e.
    let read = some_read (drop 6 text) files e in
    record { text_is = begun text (codes "files ") t ∙ ap (λ (l : List ℕ). codes "files " ++ l) read.0; some = read.1; known = read.2 }) (λ f files e. absurd cc)

-- the head of so many lines of prices alone, and with files
abbrev alone : ℕ → Option Head
alone P = Some (record { prices = P; files = [] })

head_behind : (P : ℕ) (files : List ℕ) → P ≤ 64 → are_files 0 files ≡ true → head_of (decimal P ++ files_text files) ≡ Some (record { prices = P; files = files })
unfolding head_of
head_behind P [] few known =
    ap (λ (l : List ℕ). head_of l) (append-nil (decimal P)) ∙ parted_end 32 (number_within 0 64) alone head_with (decimal P) (decimal_free 32 P (omega arith) (omega arith))
    ∙ ap (λ (o : Option ℕ). o >>= alone) (within_back 0 64 P (le-leb 0 P (omega arith)) (le-leb P 64 few) (omega arith))
head_behind P (f ∷ files) few known =
    parted_next 32 (number_within 0 64) alone head_with (decimal P) (codes "files " ++ letters (f ∷ files)) (decimal_free 32 P (omega arith) (omega arith))
    ∙ ap (λ (o : Option ℕ). o >>= (λ (n : ℕ). head_with n (codes "files " ++ letters (f ∷ files)))) (within_back 0 64 P (le-leb 0 P (omega arith)) (le-leb P 64 few) (omega arith))
    ∙ ap (option_map (λ (l : List ℕ). let h : Head = record { prices = P; files = l } in h)) (files_back f files known)

-- the text of a head stands for it
pub head_stands : (h : Head) → is_head h ≡ true → head_line (head_text h) ≡ Some h
unfolding head_line head_text
head_stands h known =
    let parts = and_parts (nat_le h.prices 64) (are_files 0 h.files) known in
    head_behind h.prices h.files (leb-true h.prices 64 parts.0) parts.1

-- a text is that of a head
pub record IsHeadText (text : List ℕ) (h : Head) : Type 0 where
  pub text_is : text ≡ head_text h
  pub known : is_head h ≡ true

behind_read : (text whole : List ℕ) → whole ≡ codes "sketch " ++ text → Only (IsHeadText whole) (head_of text)
unfolding head_of head_text
behind_read text whole is h e = elim (parted_known 32 (number_within 0 64) alone head_with text h e) [
  | inl one ↦
      let P = within_read 0 64 text one.value one.good in
      let same : record { prices = one.value; files = [] } ≡ h = same_Some _ _ one.ends in
      record {
        text_is = is ∙ ap (λ (l : List ℕ). codes "sketch " ++ l) (P.text_is ∙ sym (append-nil (decimal one.value))) ∙ ap head_text same;
        known = ap is_head (sym same) ∙ and_from _ _ P.to refl;
      }
  | inr more ↦
      let P = within_read 0 64 more.front more.value more.good in
      let m = mapped_some (λ (l : List ℕ). let x : Head = record { prices = more.value; files = l } in x) (files_of more.rest) h more.goes_on in
      let files = files_read more.rest m.0 m.1 in
      record {
        text_is = is ∙ ap (λ (l : List ℕ). codes "sketch " ++ l) (more.whole ∙ ap (λ (l : List ℕ). l ++ 32 ∷ more.rest) P.text_is ∙ ap (λ (l : List ℕ). decimal more.value ++ 32 ∷ l) files.text_is ∙ ap (λ (l : List ℕ). decimal more.value ++ l) (sym files.some)) ∙ ap head_text m.2;
        known = ap is_head (sym m.2) ∙ and_from _ _ P.to files.known;
      }
]

pub head_read : (text : List ℕ) → Only (IsHeadText text) (head_line text)
unfolding head_line
head_read text =
    cond_both (starts_with nat_eq text (codes "sketch ")) _ _ (Only (IsHeadText text)) (λ t. behind_read (drop 7 text) text (begun text (codes "sketch ") t)) (λ f h e. absurd cc)

-- files are below 8
pub files_low : (least : ℕ) (files : List ℕ) → are_files least files ≡ true → All (λ f. f < 8) files
files_low least [] known = λ k d h. absurd (omega arith)
files_low least (f ∷ files) known =
    let last = and_parts (nat_le least f && nat_le f 7) (are_files (f + 1) files) known in
    let to = leb-true f 7 (and_parts (nat_le least f) (nat_le f 7) last.0).1 in
    All-cons (λ f. f < 8) f files (omega arith) (files_low (f + 1) files last.1)

-- how far letters were read
pub record LettersSoFar (text : List ℕ) (i least : ℕ) (files : List ℕ) : Type 0 where
  pub few : length files + 97 ≤ least
  pub low : least ≤ 105
  pub read : letters_from 97 text ≡ option_map (λ (others : List ℕ). files ++ others) (letters_from least (drop i text))

pub letters_begun : (text : List ℕ) → LettersSoFar text 0 97 []
letters_begun text = record { few = omega arith; low = omega arith; read = no_more (letters_from 97 text) }

letters_rest : (text : List ℕ) (i least : ℕ) (files rest : List ℕ) → drop i text ≡ rest → LettersSoFar text i least files → letters_from 97 text ≡ option_map (λ (others : List ℕ). files ++ others) (letters_from least rest)
letters_rest text i least files rest here s = s.read ∙ ap (λ (l : List ℕ). option_map (λ (others : List ℕ). files ++ others) (letters_from least l)) here

pub letters_done : (text : List ℕ) (i least : ℕ) (files : List ℕ) → length text ≤ i → LettersSoFar text i least files → letters_from 97 text ≡ Some files
letters_done text i least files end s = letters_rest text i least files [] (drop_all i text end) s ∙ ap (λ (l : List ℕ). Some l) (append-nil files)

next_letter : (text : List ℕ) (i b : ℕ) → i < length text → b ≡ get_or text i 0 → drop i text ≡ b ∷ drop (i + 1) text
next_letter text i b inside here =
    let one : suc i ≡ i + 1 = omega arith in
    drop-cons text i 0 inside ∙ ap (λ (k : ℕ). get_or text i 0 ∷ drop k text) one ∙ ap (λ (k : ℕ). k ∷ drop (i + 1) text) (sym here)

pub letters_bad : (text : List ℕ) (i least b : ℕ) (files : List ℕ) → i < length text → b ≡ get_or text i 0 → (nat_le least b && nat_le b 104) ≡ false → LettersSoFar text i least files → letters_from 97 text ≡ None
letters_bad text i least b files inside here bad s =
    letters_rest text i least files (b ∷ drop (i + 1) text) (next_letter text i b inside here) s
    ∙ ap (option_map (λ (others : List ℕ). files ++ others)) (cond-false (nat_le least b && nat_le b 104) (option_map (λ (more : List ℕ). (b - 97) ∷ more) (letters_from (b + 1) (drop (i + 1) text))) None bad)

letters_more : (files : List ℕ) (f : ℕ) (o : Option (List ℕ)) → option_map (λ (others : List ℕ). files ++ others) (option_map (λ (l : List ℕ). f ∷ l) o) ≡ option_map (λ (others : List ℕ). (files ++ f ∷ []) ++ others) o
letters_more files f None = refl
letters_more files f (Some l) = ap (λ (x : List ℕ). Some x) (sym (append_assoc files (f ∷ []) l))

pub letters_next : (text : List ℕ) (i least b : ℕ) (files : List ℕ) → i < length text → b ≡ get_or text i 0 → least ≤ b → b ≤ 104 → LettersSoFar text i least files → LettersSoFar text (i + 1) (b + 1) (files ++ (b - 97) ∷ [])
letters_next text i least b files inside here from to s =
    let few = s.few in
    let longer = length-append files ((b - 97) ∷ []) in
    record {
      few = omega arith;
      low = omega arith;
      read = letters_rest text i least files (b ∷ drop (i + 1) text) (next_letter text i b inside here) s
          ∙ ap (option_map (λ (others : List ℕ). files ++ others)) (cond-true (nat_le least b && nat_le b 104) (option_map (λ (more : List ℕ). (b - 97) ∷ more) (letters_from (b + 1) (drop (i + 1) text))) None (and_from _ _ (le-leb least b from) (le-leb b 104 to)))
          ∙ letters_more files (b - 97) (letters_from (b + 1) (drop (i + 1) text));
    }
