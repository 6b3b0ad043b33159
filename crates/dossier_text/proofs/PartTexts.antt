-- Bytes begin with one part at most.
use Rattle.std.proofs.Common.{◌≡◌, ℕ, List, [], ◌∷◌, ◌++◌, length, refl, sym, ap, ◌∙◌, arith, append_assoc}
use Rattle.std.specs.Prelude.{codes}
use Rattle.std.specs.Fmt.{decimal}
use Rattle.std.proofs.lemmas.List.{append_cancel_left, append_cancel_right}
use Rattle.general_lemmas.proofs.Lists.{same_first, same_rest}
use Rattle.cert_text.specs.Lines.{cut}
use Rattle.dossier_text.specs.Dossiers.{BeginsWithPart, count_line}
use Rattle.dossier_text.proofs.CountTexts.{count_free, one_count}
use Rattle.cert_text.proofs.TreeTexts.{cut_line}

-- two fronts of one length that begin the same bytes
same_parts : (a b r s : List ℕ) → length a ≡ length b → a ++ r ≡ b ++ s → (a ≡ b) × (r ≡ s)
same_parts [] [] r s size e = (refl, e)
same_parts [] (y ∷ b) r s size e = absurd (omega arith)
same_parts (x ∷ a) [] r s size e = absurd (omega arith)
same_parts (x ∷ a) (y ∷ b) r s size e =
    let rest = same_parts a b r s (omega arith) (same_rest e) in
    (ap (λ (n : ℕ). n ∷ a) (same_first e) ∙ ap (λ (l : List ℕ). y ∷ l) rest.0, rest.1)

-- the line of the size comes first
sized : (bytes part rest : List ℕ) → BeginsWithPart bytes part rest → bytes ≡ count_line (length part) ++ (part ++ rest)
sized bytes part rest p = p.parts ∙ append_assoc (count_line (length part)) part rest

pub first_line : (bytes part rest : List ℕ) → BeginsWithPart bytes part rest → cut bytes ≡ count_line (length part) ∷ cut (part ++ rest)
first_line bytes part rest p = ap cut (sized bytes part rest p) ∙ cut_line (codes "part " ++ decimal (length part)) (part ++ rest) (count_free (length part) p.few)

same_size : (bytes a b r s : List ℕ) → BeginsWithPart bytes a r → BeginsWithPart bytes b s → length a ≡ length b
same_size bytes a b r s p q =
    let line : count_line (length a) ≡ count_line (length b) = same_first (sym (first_line bytes a r p) ∙ first_line bytes b s q) in
    let text : codes "part " ++ decimal (length a) ≡ codes "part " ++ decimal (length b) = append_cancel_right (codes "part " ++ decimal (length a)) (codes "part " ++ decimal (length b)) (10 ∷ []) line in
    one_count (length a) (length b) p.few q.few (append_cancel_left (codes "part ") (decimal (length a)) (decimal (length b)) text)

pub one_part : (bytes a b r s : List ℕ) → BeginsWithPart bytes a r → BeginsWithPart bytes b s → (a ≡ b) × (r ≡ s)
one_part bytes a b r s p q =
    let size = same_size bytes a b r s p q in
    let whole : count_line (length b) ++ (a ++ r) ≡ count_line (length b) ++ (b ++ s) = ap (λ (n : ℕ). count_line n ++ (a ++ r)) (sym size) ∙ sym (sized bytes a r p) ∙ sized bytes b s q in
    same_parts a b r s size (append_cancel_left (count_line (length b)) (a ++ r) (b ++ s) whole)
