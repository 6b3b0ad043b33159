-- Ways with one square more.
use Rattle.std.proofs.Common.{◌≡◌, ℕ, ◌+◌, ◌*◌, ◌≤◌, Bool, true, false, cond, ◌&&◌, ◌==◌, inl, inr, List, [], ◌∷◌, ◌++◌, length, refl, ap, ◌∙◌, arith}
use Rattle.std.proofs.lemmas.Bool.{and_parts, cases_Bool}
use Rattle.std.proofs.lemmas.List.Sums.{sum_by_push, sum_by-cons}
use Rattle.std.specs.List.{sum_by}
use Rattle.std.proofs.Math.Bool.{and-true}
use Rattle.general_lemmas.proofs.Truth.{and-joined}
use Rattle.board_base.specs.Board.{file}
use Rattle.board_base.specs.declared.men.Colour.{Colour}
use Rattle.men_fates.specs.Ways.{captures_on, fee, is_pawn_step, is_straight, is_way, way_end}

pub end-longer : (s : ℕ) (way : List ℕ) (t : ℕ) → way_end s (way ++ t ∷ []) ≡ t
end-longer s [] t = refl
end-longer s (u ∷ way) t = end-longer u way t

pub way-longer : (c : Colour) (set : List Bool) (s : ℕ) (way : List ℕ) (t : ℕ) → is_way c set s (way ++ t ∷ []) ≡ (is_way c set s way && is_pawn_step c set (way_end s way) t)
way-longer c set s [] t = and-true (is_pawn_step c set s t)
way-longer c set s (u ∷ way) t = ap (λ (b : Bool). is_pawn_step c set s u && b) (way-longer c set u way t) ∙ and-joined (is_pawn_step c set s u) (is_way c set u way) (is_pawn_step c set (way_end u way) t)

pub straight-longer : (s : ℕ) (way : List ℕ) (t : ℕ) → is_straight s (way ++ t ∷ []) ≡ (is_straight s way && (file (way_end s way) == file t))
straight-longer s [] t = and-true (file s == file t)
straight-longer s (u ∷ way) t = ap (λ (b : Bool). (file s == file u) && b) (straight-longer u way t) ∙ and-joined (file s == file u) (is_straight u way) (file (way_end u way) == file t)

fee-first : (price : ℕ → ℕ) (same : Bool) (u : ℕ) (rest : List ℕ) → sum_by price (cond same rest (u ∷ rest)) ≡ cond same 0 (price u) + sum_by price rest
fee-first price true u rest = omega arith
fee-first price false u rest = sum_by-cons price u rest

pub fee-cons : (price : ℕ → ℕ) (s u : ℕ) (way : List ℕ) → fee price s (u ∷ way) ≡ cond (file s == file u) 0 (price u) + fee price u way
fee-cons price s u way = fee-first price (file s == file u) u (captures_on u way)

-- the fee of one capture more, or of none
pub fee-longer : (price : ℕ → ℕ) (s : ℕ) (way : List ℕ) (t : ℕ) → fee price s (way ++ t ∷ []) ≡ fee price s way + cond (file (way_end s way) == file t) 0 (price t)
fee-longer price s [] t = omega (arith, fee-cons price s t [])
fee-longer price s (u ∷ way) t = omega (arith, fee-cons price s u (way ++ t ∷ []), fee-cons price s u way, fee-longer price u way t)

-- the gates of one square more
pub gates-longer : (price : ℕ → ℕ) (s : ℕ) (way : List ℕ) (t : ℕ) → sum_by price (s ∷ (way ++ t ∷ [])) ≡ sum_by price (s ∷ way) + price t
gates-longer price s way t = sum_by_push price (s ∷ way) t

-- no captures, no fee
pub fee-straight : (price : ℕ → ℕ) (s : ℕ) (way : List ℕ) → is_straight s way ≡ true → fee price s way ≡ 0
fee-straight price s [] h = refl
fee-straight price s (u ∷ way) h =
    let parts = and_parts (file s == file u) (is_straight u way) h in
    let none : cond (file s == file u) 0 (price u) ≡ 0 = ap (λ (b : Bool). cond b 0 (price u)) parts.0 in
    omega (arith, fee-cons price s u way, none, fee-straight price u way parts.1)

-- what numbers of at most 96 sum to
pub gates-small : (price : ℕ → ℕ) → ((s : ℕ) → price s ≤ 96) → (way : List ℕ) → sum_by price way ≤ 96 * length way
gates-small price small [] = omega arith
gates-small price small (u ∷ way) = omega (arith, sum_by-cons price u way, small u, gates-small price small way)

pub fee-small : (price : ℕ → ℕ) → ((s : ℕ) → price s ≤ 96) → (s : ℕ) (way : List ℕ) → fee price s way ≤ 96 * length way
fee-small price small s [] = omega arith
fee-small price small s (u ∷ way) = elim (cases_Bool (file s == file u)) [
  | inl same ↦
      let none : cond (file s == file u) 0 (price u) ≡ 0 = ap (λ (b : Bool). cond b 0 (price u)) same in
      omega (arith, fee-cons price s u way, none, fee-small price small u way)
  | inr other ↦
      let one : cond (file s == file u) 0 (price u) ≡ price u = ap (λ (b : Bool). cond b 0 (price u)) other in
      omega (arith, fee-cons price s u way, one, small u, fee-small price small u way)
]
