-- A dossier on its way, part after part.
use Rattle.std.proofs.Common.{◌≡◌, ℕ, ◌+◌, List, [], ◌∷◌, ◌++◌, length, refl, sym, ap, ◌∙◌, subst, arith, append-nil, append_assoc, length-append}
use Rattle.std.specs.List.{All}
use Rattle.std.proofs.lemmas.List.Elements.{All-contains, All-push, All-same, Contains-append_right}
use Rattle.general_lemmas.proofs.Lists.{contains-first}
use Rattle.query_base.specs.Asked.{Asked}
use Rattle.query_base.specs.declared.claims.Claim.{Claim}
use Rattle.line_claims.specs.Due.{parts_due}
use Rattle.line_claims.specs.declared.claims.LineClaim.{LineClaim}
use Rattle.dossier_text.specs.Dossiers.{part_text}
use Rattle.dossier_text.specs.Proving.{AreProofs, IsDossier}
use Rattle.dossier_search.specs.Begun.{IsBegun}
use Rattle.dossier_search.specs.ReachedParts.{IsPartAfforded, IsPartProved}
use Rattle.dossier_search.specs.PartAnswers.{IsPartProof}

-- one more part
pub with_part : (depth nodes : ℕ) (claim : LineClaim) (q : Asked) (old bytes new : List ℕ) (left rest : List (Claim × Asked)) (part : Claim × Asked) (number : ℕ) → IsBegun depth nodes claim q old left number → left ≡ part ∷ rest → IsPartProof depth nodes bytes part → new ≡ old ++ part_text bytes → IsBegun depth nodes claim q new rest (number + 1)
with_part depth nodes claim q old bytes new left rest part number b next proof longer = record {
  done = b.done ++ part ∷ [];
  whole = b.whole ∙ ap (λ (l : List (Claim × Asked)). b.done ++ l) next ∙ sym (append_assoc b.done (part ∷ []) rest);
  place = omega (arith, b.place, length-append b.done (part ∷ []));
  few = omega (arith, b.few, ap length next);
  proved = All-push (IsPartProved depth) b.done part b.proved proof.proved;
  afforded = All-push (IsPartAfforded depth nodes) b.done part b.afforded proof.afforded;
  ends = λ tail proofs.
      subst (λ (l : List ℕ). IsDossier l claim q) (sym (append_assoc old (part_text bytes) tail) ∙ ap (λ (l : List ℕ). l ++ tail) (sym longer))
      (b.ends (part_text bytes ++ tail) (subst (AreProofs (part_text bytes ++ tail)) (sym next) (bytes, tail, record { parts = refl; some = proof.some; few = proof.few }, proof.proves, proofs)));
}

-- where none is left, it is whole
pub all_there : (depth nodes : ℕ) (claim : LineClaim) (q : Asked) (text : List ℕ) (left : List (Claim × Asked)) (number : ℕ) → IsBegun depth nodes claim q text left number → left ≡ [] → IsDossier text claim q
all_there depth nodes claim q text left number b none =
    subst (λ (l : List ℕ). IsDossier l claim q) (append-nil text) (b.ends [] (subst (AreProofs []) (sym none) refl))

-- and the proof of each part is afforded
pub all_afforded : (depth nodes : ℕ) (claim : LineClaim) (q : Asked) (text : List ℕ) (left : List (Claim × Asked)) (number : ℕ) → IsBegun depth nodes claim q text left number → left ≡ [] → All (IsPartAfforded depth nodes) (parts_due claim q)
all_afforded depth nodes claim q text left number b none =
    All-same (IsPartAfforded depth nodes) (parts_due claim q) b.done (b.whole ∙ ap (λ (l : List (Claim × Asked)). b.done ++ l) none ∙ append-nil b.done) b.afforded

-- each part is proved
pub all_proved : (depth nodes : ℕ) (claim : LineClaim) (q : Asked) (text : List ℕ) (left : List (Claim × Asked)) (number : ℕ) → IsBegun depth nodes claim q text left number → left ≡ [] → All (IsPartProved depth) (parts_due claim q)
all_proved depth nodes claim q text left number b none =
    All-same (IsPartProved depth) (parts_due claim q) b.done (b.whole ∙ ap (λ (l : List (Claim × Asked)). b.done ++ l) none ∙ append-nil b.done) b.proved

-- what all parts due have, the next one has
pub at_next : (P : Claim × Asked → Type 0) (depth nodes : ℕ) (claim : LineClaim) (q : Asked) (text : List ℕ) (left rest : List (Claim × Asked)) (part : Claim × Asked) (number : ℕ) → IsBegun depth nodes claim q text left number → left ≡ part ∷ rest → All P (parts_due claim q) → P part
at_next P depth nodes claim q text left rest part number b next all =
    let whole : parts_due claim q ≡ b.done ++ part ∷ rest = b.whole ∙ ap (λ (l : List (Claim × Asked)). b.done ++ l) next in
    All-contains P (b.done ++ part ∷ rest) part (All-same P (b.done ++ part ∷ rest) (parts_due claim q) (sym whole) all) (Contains-append_right b.done (part ∷ rest) part (contains-first part rest))
