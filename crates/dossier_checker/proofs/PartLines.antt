-- The lines that count the bytes of parts.
use Rattle.std.proofs.Common.{◌≡◌, ℕ, ◌<◌, ◌≤◌, List, [], ◌∷◌, ◌++◌, length, sym, ap, ◌∙◌, subst, arith, true≢false, append_assoc, length-append}
use Rattle.std.specs.Prelude.{codes}
use Rattle.std.specs.Fmt.{decimal}
use Rattle.std.proofs.lemmas.Fmt.{length-decimal-le}
use Rattle.std.proofs.lemmas.Option.{same_Some}
use Rattle.fen_text.specs.Parts.{Free, cut_at}
use Rattle.fen_text.proofs.PartLemmas.{cut_next, free_parts}
use Rattle.cert_text.specs.Lines.{ended}
use Rattle.dossier_text.specs.Dossiers.{BeginsWithPart, HasNoPart, count_line}
use Rattle.dossier_text.proofs.CountTexts.{count_free, one_count}
use Rattle.dossier_checker.proofs.Fronts.{front_of}

-- the line without its end
abbrev count_text : ℕ → List ℕ
count_text n = codes "part " ++ decimal n

count_short : (n : ℕ) → n ≤ 67108864 → length (count_text n) ≤ 13
count_short n few = omega (arith, length-append (codes "part ") (decimal n), length-decimal-le 8 n (omega arith) (omega arith) (omega arith))

count_one : (m n : ℕ) → m ≤ 67108864 → n ≤ 67108864 → count_text m ≡ count_text n → m ≡ n
count_one m n few fewer e =
    let same : decimal m ≡ decimal n = cc in
    one_count m n few fewer same

opened : (l part rest : List ℕ) → ((l ++ 10 ∷ []) ++ part) ++ rest ≡ l ++ 10 ∷ (part ++ rest)
opened l part rest = append_assoc (l ++ 10 ∷ []) part rest ∙ append_assoc l (10 ∷ []) (part ++ rest)

-- the line of a part comes first
line_first : (bytes part rest : List ℕ) → BeginsWithPart bytes part rest → bytes ≡ count_text (length part) ++ 10 ∷ (part ++ rest)
line_first bytes part rest b = b.parts ∙ opened (count_text (length part)) part rest

-- bytes have one first line
same_line : (a b r s : List ℕ) → Free 10 a → Free 10 b → a ++ 10 ∷ r ≡ b ++ 10 ∷ s → (a ≡ b) × (r ≡ s)
same_line a b r s free plain e =
    let both = same_Some (a, r) (b, s) (sym (cut_next 10 a r free) ∙ ap (cut_at 10) e ∙ cut_next 10 b s plain) in
    (ap (λ (p : List ℕ × List ℕ). p.0) both, ap (λ (p : List ℕ × List ℕ). p.1) both)

-- bytes without a line end hold no whole line
cut_off : (g others l rest : List ℕ) → g ++ others ≡ l ++ 10 ∷ rest → length l < length g → Free 10 g → ⊥
cut_off g others l rest e long free =
    let front = front_of (l ++ 10 ∷ []) rest g others (e ∙ sym (append_assoc l (10 ∷ []) rest)) (omega (arith, length-append l (10 ∷ []))) in
    let line = free_parts 10 (l ++ 10 ∷ []) front.0 (subst (Free 10) front.1 free) in
    true≢false (sym (free_parts 10 l (10 ∷ []) line.0).1)

pub too_long : (g others : List ℕ) → Free 10 g → 13 < length g → HasNoPart (g ++ others)
too_long g others free long part rest b =
    cut_off g others (count_text (length part)) (part ++ rest) (line_first (g ++ others) part rest b) (omega (arith, count_short (length part) b.few)) free

pub unended : (g : List ℕ) → Free 10 g → HasNoPart (g ++ [])
unended g free part rest b =
    let l = count_text (length part) in
    let e = line_first (g ++ []) part rest b in
    cut_off g [] l (part ++ rest) e (omega (arith, ap length e, length-append g [], length-append l (10 ∷ (part ++ rest)))) free

-- a line that counts nothing
pub uncounted : (g line others : List ℕ) → line ≡ g ++ 10 ∷ [] → Free 10 g → ((n : ℕ) → 1 ≤ n → n ≤ 67108864 → line ≡ count_line n → ⊥) → HasNoPart (g ++ 10 ∷ others)
uncounted g line others is free none part rest b =
    let same = same_line g (count_text (length part)) others (part ++ rest) free (count_free (length part) b.few) (line_first (g ++ 10 ∷ others) part rest b) in
    none (length part) b.some b.few (is ∙ ap ended same.0)

-- what is gathered up to the end of a line that counts n bytes
pub gathered_line : (g line : List ℕ) (n : ℕ) → n ≤ 67108864 → line ≡ g ++ 10 ∷ [] → line ≡ count_line n → Free 10 g → g ≡ count_text n
gathered_line g line n few is counts free = (same_line g (count_text n) [] [] free (count_free n few) (sym is ∙ counts)).0

-- a line that counts more bytes than follow
pub short_part : (g others : List ℕ) (n : ℕ) → n ≤ 67108864 → g ≡ count_text n → Free 10 g → length others < n → HasNoPart (g ++ 10 ∷ others)
short_part g others n few is free short part rest b =
    let same = same_line g (count_text (length part)) others (part ++ rest) free (count_free (length part) b.few) (line_first (g ++ 10 ∷ others) part rest b) in
    let size : n ≡ length part = count_one n (length part) few b.few (sym is ∙ same.0) in
    absurd (omega (arith, size, short, ap length same.1, length-append part rest))

-- a line that counts the bytes of a part
pub whole_part : (g others part rest : List ℕ) (n : ℕ) → 1 ≤ n → n ≤ 67108864 → g ≡ count_text n → length part ≡ n → others ≡ part ++ rest → BeginsWithPart (g ++ 10 ∷ others) part rest
whole_part g others part rest n some few is size whole = record {
  parts = ap (λ (l : List ℕ). l ++ 10 ∷ others) (is ∙ ap count_text (sym size)) ∙ ap (λ (l : List ℕ). count_text (length part) ++ 10 ∷ l) whole ∙ sym (opened (count_text (length part)) part rest);
  some = omega (arith, size);
  few = omega (arith, size);
}
