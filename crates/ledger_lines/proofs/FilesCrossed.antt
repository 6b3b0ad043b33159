-- A pawn captures at least as often as it goes to another file.
use Rattle.std.proofs.Common.{◌≡◌, ℕ, ◌+◌, ◌≤◌, ◌<◌, ◌==◌, inl, inr, Bool, true, false, List, [], ◌∷◌, length, refl, ap, ◌∙◌, arith}
use Rattle.std.specs.Prelude.{◌&&◌, nat_lt}
use Rattle.std.proofs.lemmas.Bool.{and_parts, both_ways, cases_Bool, cond-false, cond-true, eqb-true, ltb-true}
use Rattle.board_base.specs.Attacks.{distance, files_apart, one_ahead}
use Rattle.board_base.specs.Board.{file}
use Rattle.board_base.specs.declared.men.Colour.{Colour}
use Rattle.men_fates.specs.Ways.{captures_on, is_pawn_step, is_straight, is_way, way_end}
use Rattle.men_fates.proofs.WayLists.{none-straight}

-- one step goes to a file next to it at most
step-near : (c : Colour) (set : List Bool) (s t : ℕ) → is_pawn_step c set s t ≡ true → files_apart s t < 2
step-near c set s t step =
    let a = and_parts (one_ahead c s t && nat_lt (files_apart s t) 2 && nat_lt t 64) _ step in
    let b = and_parts (one_ahead c s t && nat_lt (files_apart s t) 2) (nat_lt t 64) a.0 in
    let d = and_parts (one_ahead c s t) (nat_lt (files_apart s t) 2) b.0 in
    ltb-true (files_apart s t) 2 d.1

pub triangle : (a b c : ℕ) → distance a c ≤ distance a b + distance b c
unfolding distance
triangle a b c = omega arith

same-zero : (a : ℕ) → distance a a ≡ 0
unfolding distance
same-zero a = omega arith

same-file : (a b : ℕ) → a ≡ b → distance a b ≡ 0
same-file a b e = ap (λ (x : ℕ). distance x b) e ∙ same-zero b

pub files-crossed : (c : Colour) (set : List Bool) (s : ℕ) (way : List ℕ) → is_way c set s way ≡ true → files_apart s (way_end s way) ≤ length (captures_on s way)
files-crossed c set s [] is = omega (arith, same-zero (file s))
files-crossed c set s (t ∷ way) is =
    let parts = and_parts (is_pawn_step c set s t) (is_way c set t way) is in
    let rest = files-crossed c set t way parts.1 in
    let around = triangle (file s) (file t) (file (way_end t way)) in
    elim (cases_Bool (file s == file t)) [
      | inl same ↦
          let none = same-file (file s) (file t) (eqb-true (file s) (file t) same) in
          let as_many : length (captures_on s (t ∷ way)) ≡ length (captures_on t way) = ap (λ (l : List ℕ). length l) (cond-true (file s == file t) (captures_on t way) (t ∷ captures_on t way) same) in
          omega (arith, none, as_many, rest, around)
      | inr other ↦
          let near = step-near c set s t parts.0 in
          let one_more : length (captures_on s (t ∷ way)) ≡ 1 + length (captures_on t way) = ap (λ (l : List ℕ). length l) (cond-false (file s == file t) (captures_on t way) (t ∷ captures_on t way) other) ∙ omega arith in
          omega (arith, near, one_more, rest, around)
    ]

-- who isn't straight captured
some-left : (xs : List ℕ) → (xs ≡ [] → ⊥) → 1 ≤ length xs
some-left [] some = absurd (some refl)
some-left (x ∷ xs) some = omega arith

pub captured-once : (s : ℕ) (way : List ℕ) → is_straight s way ≡ false → 1 ≤ length (captures_on s way)
captured-once s way aside = some-left (captures_on s way) (λ none. both_ways _ aside (none-straight s way none))
