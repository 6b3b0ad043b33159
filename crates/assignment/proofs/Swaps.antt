-- What stays sound where places or columns change places.
use Rattle.std.proofs.Common.{◌≡◌, ℕ, ◌<◌, ◌==◌, cond, List, length, slice_index, sym, refl, ap, ◌∙◌, arith}
use Rattle.std.specs.List.{swap}
use Rattle.std.proofs.lemmas.Bool.Decides.{nat_tests}
use Rattle.std.proofs.lemmas.List.Edits.{swapped_from_swap}
use Rattle.assignment.specs.Tables.{cost_at}
use Rattle.assignment.specs.Pairings.{IsColumnSwap, IsPlaceSwap, IsSound, IsSwapped, Meets, cost_between}
use Rattle.assignment.specs.declared.pairing.Pairing.{Pairing}

-- the place that changes places with this one
abbrev pub partner : ℕ → ℕ → ℕ → ℕ
partner a b m = cond (m == a) b (cond (m == b) a m)

pub partner-lt : (a b m width : ℕ) → a < width → b < width → m < width → partner a b m < width
partner-lt a b m width la lb lm = grind (arith, nat_tests)

pub partner-partner : (a b m : ℕ) → partner a b (partner a b m) ≡ m
partner-partner a b m = grind (arith, nat_tests)

pub partner-first : (a b : ℕ) → partner a b a ≡ b
partner-first a b = grind (arith, nat_tests)

pub partner-second : (a b : ℕ) → partner a b b ≡ a
partner-second a b = grind (arith, nat_tests)

pub partner-other : (a b m : ℕ) → (m ≡ a → ⊥) → (m ≡ b → ⊥) → partner a b m ≡ m
partner-other a b m not_a not_b = grind (arith, nat_tests)

pub swapped : (a b : ℕ) (old new : List ℕ) → IsSwapped a b old new → (m : ℕ) → slice_index new m ≡ slice_index old (partner a b m)
swapped a b old new h m =
    let at_a = h.at_first in
    let at_b = h.at_second in
    let other = h.others m in
    grind (arith, nat_tests)

pub IsSwapped-swap : (a b : ℕ) (xs : List ℕ) → a < length xs → b < length xs → IsSwapped a b xs (swap xs a b)
IsSwapped-swap a b xs la lb =
    let swapped = swapped_from_swap xs (swap xs a b) a b 0 la lb refl in
    record { at_first = swapped.0; at_second = swapped.1; others = swapped.2 }

-- rows are in the places that r tells and columns in those that s tells, each with its number
pub record IsMoved (r s : ℕ → ℕ) (width : ℕ) (p q : Pairing width) : Type 0 where
  pub rows : (m : ℕ) → slice_index q.rows m ≡ slice_index p.rows (r m)
  pub u : (m : ℕ) → slice_index q.u m ≡ slice_index p.u (r m)
  pub columns : (m : ℕ) → slice_index q.columns m ≡ slice_index p.columns (s m)
  pub prices : (m : ℕ) → slice_index q.prices m ≡ slice_index p.prices (s m)

abbrev pub itself : ℕ → ℕ
itself m = m

pub IsMoved-columns : (a b width : ℕ) (p q : Pairing width) → IsColumnSwap a b width p q → IsMoved itself (partner a b) width p q
IsMoved-columns a b width p q h = record {
  rows = λ m. ap (λ (l : List ℕ). slice_index l m) h.rows;
  u = λ m. ap (λ (l : List ℕ). slice_index l m) h.u;
  columns = swapped a b p.columns q.columns h.columns;
  prices = swapped a b p.prices q.prices h.prices;
}

pub IsMoved-places : (a b width : ℕ) (p q : Pairing width) → IsPlaceSwap a b width p q → IsMoved (partner a b) (partner a b) width p q
IsMoved-places a b width p q h = record {
  rows = swapped a b p.rows q.rows h.rows;
  u = swapped a b p.u q.u h.u;
  columns = swapped a b p.columns q.columns h.columns;
  prices = swapped a b p.prices q.prices h.prices;
}

-- the places go onto one another, each onto the one that comes onto it
pub record IsExchange (width : ℕ) (s : ℕ → ℕ) : Type 0 where
  pub within : (m : ℕ) → m < width → s m < width
  pub back : (m : ℕ) → s (s m) ≡ m

pub IsExchange-itself : (width : ℕ) → IsExchange width itself
IsExchange-itself width = record { within = λ m lt. lt; back = λ m. refl }

pub IsExchange-partner : (a b width : ℕ) → a < width → b < width → IsExchange width (partner a b)
IsExchange-partner a b width la lb = record { within = λ m lm. partner-lt a b m width la lb lm; back = partner-partner a b }

module _ (table : List (List ℕ)) (r s : ℕ → ℕ) (width : ℕ) (p q : Pairing width) (moved : IsMoved r s width p q) where
  pub cost_between-moved : (m e : ℕ) → cost_between table width q m e ≡ cost_between table width p (r m) (s e)
  cost_between-moved m e = ap (λ (i : ℕ). cost_at table i (slice_index q.columns e)) (moved.rows m) ∙ ap (cost_at table (slice_index p.rows (r m))) (moved.columns e)

  pub Meets-moved : (m e : ℕ) → Meets table width p (r m) (s e) → Meets table width q m e
  Meets-moved m e h =
      let cost = cost_between-moved m e in
      let u = moved.u m in
      let price = moved.prices e in
      omega arith

  pub IsSound-moved : IsExchange width r → IsExchange width s → IsSound table width p → IsSound table width q
  IsSound-moved xr xs h = record {
    columns_below = λ m lt. let below = h.columns_below (s m) (xs.within m lt) in let at = moved.columns m in omega arith;
    columns_apart = λ m e lm le same.
        let one : s m ≡ s e = h.columns_apart (s m) (s e) (xs.within m lm) (xs.within e le) (sym (moved.columns m) ∙ same ∙ moved.columns e) in
        sym (xs.back m) ∙ ap s one ∙ xs.back e;
    rows_apart = λ m e lm le same.
        let one : r m ≡ r e = h.rows_apart (r m) (r e) (xr.within m lm) (xr.within e le) (sym (moved.rows m) ∙ same ∙ moved.rows e) in
        sym (xr.back m) ∙ ap r one ∙ xr.back e;
    columns_reached = λ j lt.
        let old = h.columns_reached j lt in
        (s old.0, xs.within old.0 old.1, moved.columns (s old.0) ∙ ap (λ (k : ℕ). slice_index p.columns k) (xs.back old.0) ∙ old.2);
    rows_reached = λ i lt.
        let old = h.rows_reached i lt in
        (r old.0, xr.within old.0 old.1, moved.rows (r old.0) ∙ ap (λ (k : ℕ). slice_index p.rows k) (xr.back old.0) ∙ old.2);
    fair = λ m e lm le.
        let old = h.fair (r m) (s e) (xr.within m lm) (xs.within e le) in
        let cost = cost_between-moved m e in
        let u = moved.u m in
        let price = moved.prices e in
        omega arith;
    u_small = λ limit most m lm. let old = h.u_small limit most (r m) (xr.within m lm) in let u = moved.u m in omega arith;
    prices_small = λ limit most m lm. let old = h.prices_small limit most (s m) (xs.within m lm) in let price = moved.prices m in omega arith;
  }
