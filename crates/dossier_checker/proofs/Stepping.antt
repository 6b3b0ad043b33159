-- What the steps of a check of the parts leave to be answered.
use Rattle.std.proofs.Common.{◌≡◌, ℕ, zero, suc, ◌+◌, ◌<◌, ◌≤◌, inl, inr, List, [], ◌∷◌, ◌++◌, length, refl, sym, ap, ◌∙◌, subst, false, add-one, arith, append_assoc, length-append}
use Rattle.std.specs.Prelude.{MatchOption, None, Option, Some, is_some}
use Rattle.std.proofs.lemmas.Option.{same_Some}
use Rattle.query_base.specs.Asked.{Asked}
use Rattle.query_base.specs.declared.claims.Claim.{Claim}
use Rattle.fen_text.specs.Parts.{Free}
use Rattle.cert_checker.specs.Answers.{Answer, accepted, bad_text, fault}
use Rattle.cert_checker.specs.Remains.{Checking, Remains, StandsFor}
use Rattle.line_claims.specs.declared.claims.LineClaim.{LineClaim}
use Rattle.dossier_text.specs.Dossiers.{HasNoPart, count_line}
use Rattle.dossier_checker.specs.DossierAnswers.{DossierAnswer, AnswersPart, AnswersParts, no_part}
use Rattle.dossier_checker.specs.Remaining.{InPart, Parting, PartsRemain, PartsRemainAt, with_first}
use Rattle.dossier_checker.proofs.PartLines.{gathered_line, short_part, too_long, uncounted, whole_part}

-- between parts
at_line : (k : Parting) (bytes : List ℕ) (a : DossierAnswer) → k.left ≡ 0 → AnswersParts k.claim k.query k.due k.number (k.line ++ bytes) a → PartsRemain k bytes a
at_line k bytes a none answers = subst (λ (n : ℕ). PartsRemainAt n k bytes a) (sym none) answers

from_line : (k : Parting) (bytes : List ℕ) (a : DossierAnswer) → k.left ≡ 0 → PartsRemain k bytes a → AnswersParts k.claim k.query k.due k.number (k.line ++ bytes) a
from_line k bytes a none rest = subst (λ (n : ℕ). PartsRemainAt n k bytes a) none rest

-- in the midst of a part
in_at : (n : ℕ) (k : Parting) (bytes : List ℕ) (a : DossierAnswer) → 0 < n → InPart k.due k bytes a → PartsRemainAt n k bytes a
in_at zero k bytes a some rest = absurd (omega arith)
in_at (suc n) k bytes a some rest = rest

at_part : (k : Parting) (bytes : List ℕ) (a : DossierAnswer) → 0 < k.left → InPart k.due k bytes a → PartsRemain k bytes a
at_part k bytes a some rest = in_at k.left k bytes a some rest

in_from : (n : ℕ) (k : Parting) (bytes : List ℕ) (a : DossierAnswer) → 0 < n → PartsRemainAt n k bytes a → InPart k.due k bytes a
in_from zero k bytes a some rest = absurd (omega arith)
in_from (suc n) k bytes a some rest = rest

from_part : (k : Parting) (bytes : List ℕ) (a : DossierAnswer) → 0 < k.left → PartsRemain k bytes a → InPart k.due k bytes a
from_part k bytes a some rest = in_from k.left k bytes a some rest

-- where no part begins
none_begins : (claim : LineClaim) (q : Asked) (due : List (Claim × Asked)) (p : ℕ) (bytes : List ℕ) (a : DossierAnswer) → (bytes ≡ [] → ⊥) → HasNoPart bytes → Some (no_part p) ≡ Some a → AnswersParts claim q due p bytes a
none_begins claim q [] p bytes a some none e = inr (some, sym (same_Some _ _ e))
none_begins claim q (d ∷ due) p bytes a some none e = inl (none, sym (same_Some _ _ e))

not_empty : (g : List ℕ) (b : ℕ) (rest : List ℕ) → g ++ b ∷ rest ≡ [] → ⊥
not_empty [] b rest e = cc
not_empty (c ∷ g) b rest e = cc

-- a line that counts bytes came
counted : (due : List (Claim × Asked)) (k : Parting) (g line bytes : List ℕ) (n : ℕ) (a : DossierAnswer) → Free 10 g → line ≡ g ++ 10 ∷ [] → line ≡ count_line n → 1 ≤ n → n ≤ 67108864 → k.left ≡ n → StandsFor k.checking [] → InPart due k bytes a → AnswersParts k.claim k.query due k.number (g ++ 10 ∷ bytes) a
counted [] k g line bytes n a free is counts some few size stands e = inr (not_empty g 10 bytes, e)
counted (d ∷ due) k g line bytes n a free is counts some few size stands (inl (short, e)) =
    inl (short_part g bytes n few (gathered_line g line n few is counts free) free (omega (arith, size)), e)
counted (d ∷ due) k g line bytes n a free is counts some few size stands (inr (part, rest, said, whole, long, remains, on)) =
    inr (part, rest, said, whole_part g bytes part rest n some few (gathered_line g line n few is counts free) (long ∙ size) whole, stands.answers part said remains, on)

-- bytes of the part came
fed_part : (due : List (Claim × Asked)) (k : Parting) (checking : Checking) (left : ℕ) (line piece bytes : List ℕ) (a : DossierAnswer) → left + length piece ≡ k.left → ((others : List ℕ) (said : Answer) → Remains checking others said → Remains k.checking (piece ++ others) said) → InPart due (record k { line = line; left = left; checking = checking }) bytes a → InPart due k (piece ++ bytes) a
fed_part [] k checking left line piece bytes a size fed e = e
fed_part (d ∷ due) k checking left line piece bytes a size fed (inl (short, e)) = inl (omega (arith, size, short, length-append piece bytes), e)
fed_part (d ∷ due) k checking left line piece bytes a size fed (inr (part, rest, said, whole, long, remains, on)) =
    inr (piece ++ part, rest, said, ap (λ (l : List ℕ). piece ++ l) whole ∙ sym (append_assoc piece part rest), omega (arith, size, long, length-append piece part), fed part said remains, on)

-- what is said of a part whose certificate isn't what is due, whatever follows
pub unless_due : (due : Claim × Asked) (p : ℕ) (said : Answer) (Next : DossierAnswer → Type 0) (a : DossierAnswer) → AnswersPart due p said (λ b. ⊥) a → AnswersPart due p said Next a
unless_due due p (bad_text n) Next a e = e
unless_due due p (fault n f) Next a e = e
unless_due due p (accepted claim q) Next a (inl (same, none)) = absurd none
unless_due due p (accepted claim q) Next a (inr other) = inr other

-- all bytes of the part came
part_came : (due : Claim × Asked) (others : List (Claim × Asked)) (k : Parting) (bytes : List ℕ) (said : Answer) (a : DossierAnswer) → k.left ≡ 0 → Remains k.checking [] said → AnswersPart due k.number said (AnswersParts k.claim k.query others (suc k.number) bytes) a → InPart (due ∷ others) k bytes a
part_came due others k bytes said a none remains on = inr ([], bytes, said, refl, sym none, remains, on)

-- and it is what is due
as_due : (due : Claim × Asked) (p : ℕ) (said : Answer) (Next : DossierAnswer → Type 0) (a : DossierAnswer) → said ≡ accepted due.0 due.1 → Next a → AnswersPart due p said Next a
as_due due p said Next a is next = subst (λ (s : Answer). AnswersPart due p s Next a) (sym is) (inl (refl, next))

-- no part is due, and a byte came
pub none_due : (k : Parting) (byte : ℕ) (bytes : List ℕ) (a : DossierAnswer) → k.left ≡ 0 → k.due ≡ [] → Some (no_part k.number) ≡ Some a → PartsRemain k (byte ∷ bytes) a
none_due k byte bytes a none done e =
    at_line k (byte ∷ bytes) a none (subst (λ (ds : List (Claim × Asked)). AnswersParts k.claim k.query ds k.number (k.line ++ byte ∷ bytes) a) (sym done) (inr (not_empty k.line byte bytes, sym (same_Some _ _ e))))

pub none_first : (first : Option (Claim × Asked)) (others : List (Claim × Asked)) → is_some first ≡ false → with_first first others ≡ []
none_first None others e = refl
none_first (Some d) others e = absurd cc

-- a line is too long to count bytes
pub overlong : (k : Parting) (byte : ℕ) (bytes : List ℕ) (a : DossierAnswer) → k.left ≡ 0 → Free 10 k.line → 13 < length k.line → Some (no_part k.number) ≡ Some a → PartsRemain k (byte ∷ bytes) a
overlong k byte bytes a none free long e =
    at_line k (byte ∷ bytes) a none (none_begins k.claim k.query k.due k.number (k.line ++ byte ∷ bytes) a (not_empty k.line byte bytes) (too_long k.line (byte ∷ bytes) free long) e)

-- a line counts no bytes
pub no_count : (k : Parting) (byte : ℕ) (line bytes : List ℕ) (a : DossierAnswer) → k.left ≡ 0 → Free 10 k.line → byte ≡ 10 → line ≡ k.line ++ byte ∷ [] → ((n : ℕ) → 1 ≤ n → n ≤ 67108864 → line ≡ count_line n → ⊥) → Some (no_part k.number) ≡ Some a → PartsRemain k (byte ∷ bytes) a
no_count k byte line bytes a none free ends is uncounts e =
    let nothing = uncounted k.line line bytes (is ∙ ap (λ (b : ℕ). k.line ++ b ∷ []) ends) free uncounts in
    subst (λ (b : ℕ). PartsRemain k (b ∷ bytes) a) (sym ends) (at_line k (10 ∷ bytes) a none (none_begins k.claim k.query k.due k.number (k.line ++ 10 ∷ bytes) a (not_empty k.line 10 bytes) nothing e))

-- a line counts bytes
pub count_came : (k : Parting) (checking : Checking) (byte n : ℕ) (line after bytes : List ℕ) (a : DossierAnswer) → k.left ≡ 0 → Free 10 k.line → byte ≡ 10 → line ≡ k.line ++ byte ∷ [] → line ≡ count_line n → 1 ≤ n → n ≤ 67108864 → StandsFor checking [] → PartsRemain (record k { line = after; left = n; checking = checking }) bytes a → PartsRemain k (byte ∷ bytes) a
count_came k checking byte n line after bytes a none free ends is counts some few stands rest =
    let new : Parting = record k { line = after; left = n; checking = checking } in
    let here : InPart k.due new bytes a = from_part new bytes a (omega arith) rest in
    subst (λ (b : ℕ). PartsRemain k (b ∷ bytes) a) (sym ends) (at_line k (10 ∷ bytes) a none (counted k.due new k.line line bytes n a free (is ∙ ap (λ (b : ℕ). k.line ++ b ∷ []) ends) counts some few refl stands here))

-- a piece of the part came, and all of it did
pub last_piece : (k : Parting) (checking : Checking) (left : ℕ) (line piece bytes : List ℕ) (a : DossierAnswer) → 0 < k.left → left + length piece ≡ k.left → ((others : List ℕ) (said : Answer) → Remains checking others said → Remains k.checking (piece ++ others) said) → InPart k.due (record k { line = line; left = left; checking = checking }) bytes a → PartsRemain k (piece ++ bytes) a
last_piece k checking left line piece bytes a some size fed here = at_part k (piece ++ bytes) a some (fed_part k.due k checking left line piece bytes a size fed here)

-- a piece of the part came, and more of it are to come
pub piece_came : (k : Parting) (checking : Checking) (left : ℕ) (piece bytes : List ℕ) (a : DossierAnswer) → 0 < left → left + length piece ≡ k.left → ((others : List ℕ) (said : Answer) → Remains checking others said → Remains k.checking (piece ++ others) said) → PartsRemain (record k { left = left; checking = checking }) bytes a → PartsRemain k (piece ++ bytes) a
piece_came k checking left piece bytes a some size fed rest =
    last_piece k checking left k.line piece bytes a (omega (arith, size)) size fed (from_part (record k { left = left; checking = checking }) bytes a some rest)

-- a part isn't what is due
pub refused_part : (k : Parting) (due : Claim × Asked) (others : List (Claim × Asked)) (said : Answer) (bytes : List ℕ) (a : DossierAnswer) → k.due ≡ due ∷ others → k.left ≡ 0 → Remains k.checking [] said → AnswersPart due k.number said (λ b. ⊥) a → InPart k.due k bytes a
refused_part k due others said bytes a is none remains on =
    subst (λ (ds : List (Claim × Asked)). InPart ds k bytes a) (sym is) (part_came due others k bytes said a none remains (unless_due due k.number said (AnswersParts k.claim k.query others (suc k.number) bytes) a on))

-- a part is what is due
pub next_part : (k : Parting) (due : Claim × Asked) (others later : List (Claim × Asked)) (said : Answer) (bytes : List ℕ) (a : DossierAnswer) → k.due ≡ due ∷ others → later ≡ others → k.left ≡ 0 → k.line ≡ [] → Remains k.checking [] said → said ≡ accepted due.0 due.1 → PartsRemain (record k { due = later; number = k.number + 1 }) bytes a → InPart k.due k bytes a
next_part k due others later said bytes a is next none empty remains accepts rest =
    let answers : AnswersParts k.claim k.query later (k.number + 1) (k.line ++ bytes) a = from_line (record k { due = later; number = k.number + 1 }) bytes a none rest in
    let on-bytes : AnswersParts k.claim k.query later (k.number + 1) bytes a = subst (λ (l : List ℕ). AnswersParts k.claim k.query later (k.number + 1) (l ++ bytes) a) empty answers in
    let on-due : AnswersParts k.claim k.query others (k.number + 1) bytes a = subst (λ (ds : List (Claim × Asked)). AnswersParts k.claim k.query ds (k.number + 1) bytes a) next on-bytes in
    let here : AnswersParts k.claim k.query others (suc k.number) bytes a = subst (λ (p : ℕ). AnswersParts k.claim k.query others p bytes a) (add-one k.number) on-due in
    subst (λ (ds : List (Claim × Asked)). InPart ds k bytes a) (sym is) (part_came due others k bytes said a none remains (as_due due k.number said (AnswersParts k.claim k.query others (suc k.number) bytes) a accepts here))

-- the parts after one that is taken off
pub taken_first : (first : Option (Claim × Asked)) (old new : List (Claim × Asked)) → MatchOption first ((old ≡ []) × (new ≡ [])) (λ part. old ≡ part ∷ new) → with_first first new ≡ old
taken_first None old new e = sym e.0
taken_first (Some d) old new e = sym e
