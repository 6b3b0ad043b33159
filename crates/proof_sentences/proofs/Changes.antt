-- A square of a frozen set that doesn't hold what it held in the array.
use Rattle.std.proofs.Common.{◌≡◌, ℕ, ◌<◌, ◌≤◌, Bool, true, false, ◌&&◌, not, List, length, inl, inr, refl, arith}
use Rattle.std.specs.Prelude.{IsTrue}
use Rattle.std.proofs.lemmas.Bool.{and_parts, both_ways, cases_lt}
use Rattle.std.proofs.lemmas.List.{get_or_past}
use Rattle.board_base.specs.Board.{Places, array_of, at, is_in, same_place}
use Rattle.board_base.proofs.Equal.{place_is}
use Rattle.cage_rules.specs.Frozen.{IsAsArray}
use Rattle.cage_rules.proofs.Greatest.{same-tells}
use Rattle.proof_sentences.specs.Firsts.{is_changed}

clash : (b : Bool) → b ≡ true → not b ≡ true → ⊥
clash true same other = cc
clash false same other = cc

-- the set has the square, which holds something else than in the array
pub changed-means : (o : List Bool) (board : Places) (set : List Bool) (s : ℕ) → is_changed o board set s ≡ true → IsTrue (is_in set s) × (at board s ≡ at (array_of o) s → ⊥)
changed-means o board set s h =
    let parts = and_parts (is_in set s) (not (same_place (at board s) (at (array_of o) s))) h in
    (parts.0, λ e. let same : same_place (at board s) (at (array_of o) s) ≡ true = same-tells _ _ e in absurd (clash _ same parts.1))

unchanged : (b c : Bool) → (b && not c) ≡ false → b ≡ true → c ≡ true
unchanged true true h e = refl
unchanged true false h e = absurd cc
unchanged false c h e = absurd cc

within : (set : List Bool) (s n : ℕ) → length set ≡ 64 → 64 ≤ n → is_in set s ≡ true → s < n
within set s n whole all member = elim (cases_lt s 64) [
  | inl lt ↦ omega arith
  | inr past ↦ absurd (both_ways _ (get_or_past set s false (omega arith)) member)
]

-- where no square of the board is so, the set is as in the array
pub none-changed : (o : List Bool) (board : Places) (set : List Bool) (n : ℕ) → length set ≡ 64 → 64 ≤ n → ((s : ℕ) → s < n → is_changed o board set s ≡ false) → IsAsArray o board set
none-changed o board set n whole all none s member =
    let lt : s < n = within set s n whole all member in
    place_is _ _ (unchanged (is_in set s) _ (none s lt) member)
