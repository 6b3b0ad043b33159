-- Texts of a part, a space and what follows it.
use Rattle.std.proofs.Common.{◌≡◌, ℕ, List, ◌∷◌, ◌++◌, Option, Some, None, Bor, refl, ap, ◌∙◌}
use Rattle.std.specs.Prelude.{MatchOption}
use Rattle.board_base.specs.Texts.{◌>>=◌}
use Rattle.fen_text.specs.Parts.{Free, parted}
use Rattle.fen_text.proofs.PartLemmas.{parted_end, parted_next}

-- how a text was cut
abbrev pub Cut : List ℕ → List ℕ → Option (Bor (List ℕ)) → Type 0
Cut text label rest = MatchOption rest (text ≡ label) (λ r. text ≡ label ++ 32 ∷ r.now)

nothing_after : {A B : Type 0} (o : Option A) → (o >>= (λ a. let n : Option B = None in n)) ≡ None
nothing_after None = refl
nothing_after (Some a) = refl

-- nothing follows the part
pub no_rest : {A B : Type 0} (part : List ℕ → Option A) (more : A → List ℕ → Option B) (text a : List ℕ) → Free 32 a → text ≡ a → parted 32 part (λ x. None) more text ≡ None
no_rest part more text a free whole = ap (parted 32 part (λ x. None) more) whole ∙ parted_end 32 part (λ x. None) more a free ∙ nothing_after (part a)

-- what stands before the space is no part
pub no_part : {A B : Type 0} (part : List ℕ → Option A) (more : A → List ℕ → Option B) (text a rest : List ℕ) → Free 32 a → text ≡ a ++ 32 ∷ rest → part a ≡ None → parted 32 part (λ x. None) more text ≡ None
no_part part more text a rest free whole none =
    ap (parted 32 part (λ x. None) more) whole ∙ parted_next 32 part (λ x. None) more a rest free ∙ ap (λ o. o >>= (λ x. more x rest)) none
