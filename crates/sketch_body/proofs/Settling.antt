-- Zeros that are taken off.
use Rattle.std.proofs.Common.{◌≡◌, ℕ, zero, suc, ◌<◌, ◌≤◌, List, [], ◌∷◌, length, refl, sym, ap, ◌∙◌, arith}
use Rattle.sketch_body.specs.Due.{settled}

first_kept : (count : ℕ) (nodes : List ℕ) → 0 < count → settled (count ∷ nodes) ≡ count ∷ nodes
first_kept zero nodes some = absurd (omega arith)
first_kept (suc n) nodes some = refl

first_off : (count : ℕ) (nodes : List ℕ) → count ≤ 0 → settled (count ∷ nodes) ≡ settled nodes
first_off zero nodes none = refl
first_off (suc n) nodes none = absurd (omega arith)

-- a zero comes off
pub zero_off : (counts nodes last : List ℕ) (count : ℕ) → counts ≡ count ∷ nodes → count ≤ 0 → settled counts ≡ settled last → settled nodes ≡ settled last
zero_off counts nodes last count e none so = sym (first_off count nodes none) ∙ ap settled (sym e) ∙ so

-- the first that is no zero stays
pub other_stays : (counts nodes now last : List ℕ) (count : ℕ) → counts ≡ count ∷ nodes → 0 < count → now ≡ count ∷ nodes → settled counts ≡ settled last → now ≡ settled last
other_stays counts nodes now last count e some is so = is ∙ sym (first_kept count nodes some) ∙ ap settled (sym e) ∙ so

-- there is none
pub none_left : (counts last : List ℕ) → length counts ≤ 0 → settled counts ≡ settled last → counts ≡ settled last
none_left [] last none so = so
none_left (n ∷ counts) last none so = absurd (omega arith)

pub shorter : (counts nodes : List ℕ) (count : ℕ) → counts ≡ count ∷ nodes → length nodes < length counts
shorter counts nodes count e = omega (arith, ap length e)

pub settled_twice : (nodes : List ℕ) → settled (settled nodes) ≡ settled nodes
settled_twice [] = refl
settled_twice (zero ∷ nodes) = settled_twice nodes
settled_twice (suc n ∷ nodes) = refl
