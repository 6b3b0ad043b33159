-- The part that begins bytes which are held whole.
use Rattle.std.proofs.Common.{◌≡◌, ℕ, ◌<◌, ◌≤◌, List, [], ◌∷◌, ◌++◌, length, take, drop, sym, ap, ◌∙◌, arith, append_assoc, length-append}
use Rattle.std.specs.Prelude.{codes}
use Rattle.std.specs.Fmt.{decimal}
use Rattle.std.specs.List.{concat}
use Rattle.std.proofs.lemmas.List.{append_cancel_left, append_cancel_right, length-take-le, take-append-drop}
use Rattle.general_lemmas.proofs.Lists.{same_first, same_rest}
use Rattle.cert_text.specs.Lines.{cut}
use Rattle.cert_text.proofs.CertTexts.{concat_cut}
use Rattle.dossier_text.specs.Dossiers.{BeginsWithPart, HasNoPart, count_line}
use Rattle.dossier_text.proofs.CountTexts.{one_count}
use Rattle.dossier_text.proofs.PartTexts.{first_line}

pub no_lines : (bytes : List ℕ) → cut bytes ≡ [] → HasNoPart bytes
no_lines bytes none part rest p = let e = sym none ∙ first_line bytes part rest p in absurd cc

pub no_count : (bytes line others : List ℕ) → cut bytes ≡ line ∷ cut others → ((n : ℕ) → 1 ≤ n → n ≤ 67108864 → line ≡ count_line n → ⊥) → HasNoPart bytes
no_count bytes line others is none part rest p = none (length part) p.some p.few (same_first (sym is ∙ first_line bytes part rest p))

-- bytes are their lines
joined : (a b : List ℕ) → cut a ≡ cut b → a ≡ b
joined a b e = sym (concat_cut a) ∙ ap (λ (l : List (List ℕ)). concat l) e ∙ concat_cut b

one_line : (m n : ℕ) → m ≤ 67108864 → n ≤ 67108864 → count_line m ≡ count_line n → m ≡ n
one_line m n few fewer e =
    let text : codes "part " ++ decimal m ≡ codes "part " ++ decimal n = append_cancel_right (codes "part " ++ decimal m) (codes "part " ++ decimal n) (10 ∷ []) e in
    one_count m n few fewer (append_cancel_left (codes "part ") (decimal m) (decimal n) text)

-- fewer bytes follow than are counted
pub too_few : (bytes line others : List ℕ) (n : ℕ) → cut bytes ≡ line ∷ cut others → line ≡ count_line n → n ≤ 67108864 → length others < n → HasNoPart bytes
too_few bytes line others n is counts few short part rest p =
    let both = sym is ∙ first_line bytes part rest p in
    let size : n ≡ length part = one_line n (length part) few p.few (sym counts ∙ same_first both) in
    let whole : others ≡ part ++ rest = joined others (part ++ rest) (same_rest both) in
    omega (arith, short, size, ap length whole, length-append part rest)

-- as many follow as are counted
pub enough : (bytes line others : List ℕ) (n : ℕ) → cut bytes ≡ line ∷ cut others → line ≡ count_line n → 1 ≤ n → n ≤ 67108864 → n ≤ length others → BeginsWithPart bytes (take n others) (drop n others)
enough bytes line others n is counts some few long =
    let size : length (take n others) ≡ n = length-take-le n others long in
    let whole : bytes ≡ line ++ others = sym (concat_cut bytes) ∙ ap (λ (l : List (List ℕ)). concat l) is ∙ ap (λ (l : List ℕ). line ++ l) (concat_cut others) in
    record {
      parts =
          whole
          ∙ ap (λ (l : List ℕ). l ++ others) counts
          ∙ ap (λ (k : ℕ). count_line k ++ others) (sym size)
          ∙ ap (λ (l : List ℕ). count_line (length (take n others)) ++ l) (sym (take-append-drop n others))
          ∙ sym (append_assoc (count_line (length (take n others))) (take n others) (drop n others));
      some = omega (arith, size, some);
      few = omega (arith, size, few);
    }
