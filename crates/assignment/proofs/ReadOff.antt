-- Places that are found one after another, and what is read off them.
use Rattle.std.proofs.Common.{◌≡◌, ℕ, ◌+◌, ◌<◌, List, [], ◌∷◌, ◌++◌, length, map, slice_index, ap, ◌∙◌, subst, sym, arith, below_more, length-append}
use Rattle.std.proofs.Math.ListN.{get_or-append}
use Rattle.std.proofs.Math.Seq.{get_or-append_seam}
use Rattle.std.proofs.lemmas.List.{get_or-map, length-map}
use Rattle.std.proofs.lemmas.List.Elements.{All-push}
use Rattle.assignment.specs.Pairings.{ArePlaces}

pub ArePlaces-more : (width count m : ℕ) (keys places new : List ℕ) → ArePlaces width count keys places → m < width → slice_index keys m ≡ count
    → new ≡ places ++ m ∷ [] → ArePlaces width (count + 1) keys new
ArePlaces-more width count m keys places new h lt is e =
    let last : slice_index (places ++ m ∷ []) count ≡ m = ap (slice_index (places ++ m ∷ [])) (sym h.size) ∙ get_or-append_seam places m [] 0 in
    subst (λ (l : List ℕ). ArePlaces width (count + 1) keys l) (sym e) (record {
      size = omega (arith, length-append places (m ∷ []), h.size);
      within = All-push (λ m. m < width) places m h.within lt;
      at = below_more (λ i. slice_index keys (slice_index (places ++ m ∷ []) i) ≡ i) count
          (λ i low. ap (slice_index keys) (get_or-append places (m ∷ []) 0 i (omega (arith, h.size))) ∙ h.at i low)
          (ap (slice_index keys) last ∙ is);
    })

-- for each number below the count, the value in the place where that number is among the keys
pub record IsReadOff (width count : ℕ) (keys values read : List ℕ) : Type 0 where
  pub size : length read ≡ count
  pub at : (i : ℕ) → i < count → (m : ℕ) × (m < width) × (slice_index keys m ≡ i) × (slice_index read i ≡ slice_index values m)

pub IsReadOff-places : (width count : ℕ) (keys values places : List ℕ) → ArePlaces width count keys places → IsReadOff width count keys values (map (slice_index values) places)
IsReadOff-places width count keys values places h = record {
  size = length-map places (slice_index values) ∙ h.size;
  at = λ i lt.
      let low : i < length places = omega (arith, h.size) in
      (slice_index places i, h.within i 0 low, h.at i lt, get_or-map (slice_index values) places i 0 0 low);
}
