-- Whether two labels are the same can be settled: each has a list of numbers of its own.
use Rattle.std.proofs.Common.{◌≡◌, ℕ, zero, suc, inl, inr, List, [], ◌∷◌, refl, ap, sym, ◌∙◌}
use Rattle.std.proofs.lemmas.Bool.{cases_eq}
use Rattle.general_lemmas.proofs.Lists.{same_first, same_rest}
use Rattle.general_lemmas.proofs.Settling.{Settled}
use Rattle.sketch_text.specs.declared.labels.Label.{Label}
use Rattle.sketch_text.specs.declared.labels.Label.TheVariants.{Now, Step, Case}
use Rattle.sketch_text.specs.declared.labels.Officer.{Officer}
use Rattle.sketch_text.specs.declared.labels.Officer.TheVariants.{Knight, Rook, Queen}
use Rattle.sketch_text.specs.declared.labels.Taken.{Taken}
use Rattle.sketch_text.specs.declared.labels.Taken.TheVariants as taken
use Rattle.sketch_text.specs.declared.labels.Victim.{Victim}
use Rattle.sketch_text.specs.declared.labels.Victim.TheVariants as victim
use Rattle.sketch_text.specs.declared.labels.Way.{Way}
use Rattle.sketch_text.specs.declared.labels.Way.TheVariants.{Straight, Capture, Promotion, CapturePromotion}

same-lists : (a b : List ℕ) → Settled (a ≡ b)
same-lists [] [] = inl refl
same-lists [] (y ∷ b) = inr (λ e. cc)
same-lists (x ∷ a) [] = inr (λ e. cc)
same-lists (x ∷ a) (y ∷ b) = elim (cases_eq x y) [
  | inr other ↦ inr (λ e. other (same_first e))
  | inl first ↦ elim (same-lists a b) [
    | inl rest ↦ inl (ap (λ (n : ℕ). n ∷ a) first ∙ ap (λ (l : List ℕ). y ∷ l) rest)
    | inr f ↦ inr (λ e. f (same_rest e))
  ]
]

officer-code : Officer → ℕ
officer-code Knight = 0
officer-code Rook = 1
officer-code Queen = 2

officer-from : ℕ → Officer
officer-from zero = Knight
officer-from (suc zero) = Rook
officer-from (suc (suc n)) = Queen

officer-back : (o : Officer) → officer-from (officer-code o) ≡ o
unfolding officer-code officer-from
officer-back Knight = refl
officer-back Rook = refl
officer-back Queen = refl

victim-code : Victim → ℕ
victim-code victim.Pawn = 0
victim-code victim.Bishop = 1
victim-code victim.Officer = 2
victim-code victim.EnPassant = 3

victim-from : ℕ → Victim
victim-from zero = victim.Pawn
victim-from (suc zero) = victim.Bishop
victim-from (suc (suc zero)) = victim.Officer
victim-from (suc (suc (suc n))) = victim.EnPassant

victim-back : (v : Victim) → victim-from (victim-code v) ≡ v
unfolding victim-code victim-from
victim-back victim.Pawn = refl
victim-back victim.Bishop = refl
victim-back victim.Officer = refl
victim-back victim.EnPassant = refl

taken-code : Taken → ℕ
taken-code taken.Bishop = 0
taken-code taken.Officer = 1

taken-from : ℕ → Taken
taken-from zero = taken.Bishop
taken-from (suc n) = taken.Officer

taken-back : (t : Taken) → taken-from (taken-code t) ≡ t
unfolding taken-code taken-from
taken-back taken.Bishop = refl
taken-back taken.Officer = refl

-- which way, and what it says
way-code : Way → List ℕ
way-code Straight = []
way-code Promotion = 0 ∷ []
way-code (CapturePromotion t) = 1 ∷ taken-code t ∷ []
way-code (Capture v n) = 2 ∷ victim-code v ∷ n ∷ []

way-from : List ℕ → Way
way-from [] = Straight
way-from (a ∷ []) = Promotion
way-from (a ∷ t ∷ []) = CapturePromotion (taken-from t)
way-from (a ∷ v ∷ n ∷ l) = Capture (victim-from v) n

way-back : (w : Way) → way-from (way-code w) ≡ w
unfolding way-code way-from
way-back Straight = refl
way-back Promotion = refl
way-back (CapturePromotion t) = ap CapturePromotion (taken-back t)
way-back (Capture v n) = ap (λ (x : Victim). Capture x n) (victim-back v)

label-code : Label → List ℕ
label-code Now = []
label-code (Case o) = officer-code o ∷ []
label-code (Step s) = s.from ∷ s.to ∷ way-code s.way

label-from : List ℕ → Label
label-from [] = Now
label-from (o ∷ []) = Case (officer-from o)
label-from (a ∷ b ∷ l) = Step (record { from = a; to = b; way = way-from l })

label-back : (l : Label) → label-from (label-code l) ≡ l
unfolding label-code label-from
label-back Now = refl
label-back (Case o) = ap Case (officer-back o)
label-back (Step s) = λ i. Step (record { from = s.from; to = s.to; way = way-back s.way i })

pub same-labels : (a b : Label) → Settled (a ≡ b)
same-labels a b = elim (same-lists (label-code a) (label-code b)) [
  | inl same ↦ inl (sym (label-back a) ∙ ap label-from same ∙ label-back b)
  | inr f ↦ inr (λ e. f (ap label-code e))
]
