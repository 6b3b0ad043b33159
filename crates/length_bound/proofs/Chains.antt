-- Where lines go bad, one line after another.
use Rattle.std.proofs.Common.{◌≡◌, ℕ, zero, suc, ◌-◌, inl, inr, List, [], ◌∷◌, ◌++◌, take, refl, subst, arith}
use Rattle.cert_text.specs.Certificate.{Lines}
use Rattle.cert_text.specs.Texts.{Begins, IsBadAt}
use Rattle.length_bound.specs.LengthReading.{GoesBad}

-- nothing goes bad before the first line
begins_none : (Good : Lines → Type 0) (lines : Lines) → Good lines → Begins {C = ℕ} (λ ls k. Good ls) []
begins_none Good lines good = (lines, 0, good)

-- a line is wanted
pub bad_none : (Good : Lines → Type 0) (some : Lines) → Good some → (Good [] → ⊥) → GoesBad Good [] 1
bad_none Good some good wanted = record { counted = omega arith; front = begins_none Good some good; bad = inr (refl, λ k g. wanted g) }

-- the first line is bad
pub bad_first : (Good : Lines → Type 0) (some : Lines) → Good some → (line : List ℕ) (lines : Lines) → ((rest : Lines) → Good (line ∷ rest) → ⊥) → GoesBad Good (line ∷ lines) 1
bad_first Good some good line lines wrong = record { counted = omega arith; front = begins_none Good some good; bad = inl (omega arith, λ b. wrong b.0 b.2) }

begins_later : (Good Rest : Lines → Type 0) (line : List ℕ) → ((rest : Lines) → Rest rest → Good (line ∷ rest)) → (lines : Lines) (n : ℕ) → Begins {C = ℕ} (λ ls k. Rest ls) (take n lines) → Begins {C = ℕ} (λ ls k. Good ls) (take (suc n) (line ∷ lines))
begins_later Good Rest line to lines n b = (b.0, 0, to (take n lines ++ b.0) b.2)

-- behind a good line the others go bad as they do by themselves
pub bad_later : (Good Rest : Lines → Type 0) (line : List ℕ) → ((rest : Lines) → Rest rest → Good (line ∷ rest)) → ((rest : Lines) → Good (line ∷ rest) → Rest rest) → (lines : Lines) (n : ℕ) → GoesBad Rest lines n → GoesBad Good (line ∷ lines) (suc n)
bad_later Good Rest line to from lines zero b = let counted = b.counted in absurd (omega arith)
bad_later Good Rest line to from lines (suc n) b =
    record {
      counted = omega arith;
      front =
          let down : suc n - 1 ≡ n = omega arith in
          let up : suc n ≡ suc (suc n) - 1 = omega arith in
          let old = subst (λ (k : ℕ). Begins {C = ℕ} (λ ls j. Rest ls) (take k lines)) down b.front in
          subst (λ (k : ℕ). Begins {C = ℕ} (λ ls j. Good ls) (take k (line ∷ lines))) up (begins_later Good Rest line to lines n old);
      bad = elim b.bad [
        | inl within ↦ inl (let inside = within.0 in omega arith, λ begun. within.1 (begun.0, 0, from (take (suc n) lines ++ begun.0) begun.2))
        | inr ends ↦ inr (let last = ends.0 in omega arith, λ k good. ends.1 0 (from lines good))
      ];
    }

-- lines that are the text of something go bad where they do as such a text
pub bad_text : {C : Type 0} (Are : Lines → C → Type 0) (Good : Lines → Type 0) → ((lines : Lines) → Good lines → (c : C) × Are lines c) → ((lines : Lines) (c : C) → Are lines c → Good lines) → (lines : Lines) (n : ℕ) → GoesBad Good lines n → IsBadAt Are lines n
bad_text Are Good to from lines n b = record {
  counted = b.counted;
  front = let text = to (take (n - 1) lines ++ b.front.0) b.front.2 in (b.front.0, text.0, text.1);
  bad = elim b.bad [
    | inl within ↦ inl (within.0, λ begun. within.1 (begun.0, 0, from (take n lines ++ begun.0) begun.1 begun.2))
    | inr ends ↦ inr (ends.0, λ c are. ends.1 0 (from lines c are))
  ];
}
