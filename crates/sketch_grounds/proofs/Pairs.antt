-- Sets of two squares.
use Rattle.std.proofs.Common.{◌≡◌, ◌≢◌, ℕ, ◌+◌, ◌<◌, ◌≤◌, ◌==◌, inl, inr, Bool, true, false, List, sym, ◌∙◌, arith}
use Rattle.std.proofs.lemmas.Bool.{both_ways, cases_eq, cases_lt, eq-eqb, false_from_ne_true, ne_eqb}
use Rattle.board_base.specs.Board.{is_in}
use Rattle.sketch_grounds.specs.LeastZones.{is_only, is_pair}
use Rattle.sketch_grounds.proofs.EachSet.{pair-tells, pair-told}
use Rattle.sketch_grounds.proofs.Pacing.{only-tells, only-told}

pub pair-wide : (zone : List Bool) → is_pair zone ≡ true → (u : ℕ) → ((t : ℕ) → t < 64 → is_in zone t ≡ true → t ≡ u) → ⊥
pair-wide zone pair u all =
    let x = pair-told zone pair in
    let a : x.0 ≡ u = all x.0 (omega arith) x.4 in
    let b : x.1 ≡ u = all x.1 x.3 x.5 in
    omega arith

pub pair-none : (zone : List Bool) (n : ℕ) → n ≡ 64 → ((s : ℕ) → s < n → is_in zone s ≡ false) → is_pair zone ≡ true → ⊥
pair-none zone n e none pair = let x = pair-told zone pair in both_ways _ (none x.1 (omega arith)) x.5

at-first : (zone : List Bool) (first second s : ℕ) → second ≡ 64 → ((s : ℕ) → s < first → is_in zone s ≡ false) → ((s : ℕ) → first + 1 ≤ s → s < second → is_in zone s ≡ false) → s < 64 → is_in zone s ≡ true → s ≡ first
at-first zone first second s e below above inside member = elim (cases_lt s first) [
  | inl low ↦ absurd (both_ways _ (below s low) member)
  | inr past ↦ elim (cases_lt first s) [
    | inl high ↦ absurd (both_ways _ (above s (omega arith) (omega arith)) member)
    | inr same ↦ omega arith
  ]
]

pub pair-one : (zone : List Bool) (first second : ℕ) → second ≡ 64 → ((s : ℕ) → s < first → is_in zone s ≡ false) → ((s : ℕ) → first + 1 ≤ s → s < second → is_in zone s ≡ false) → is_pair zone ≡ true → ⊥
pair-one zone first second e below above pair = pair-wide zone pair first (λ t inside member. at-first zone first second t e below above inside member)

-- a zone with three squares bars no step
pub three-bar-none : (zone : List Bool) (a b c t s : ℕ) → a < 64 → b < 64 → c < 64 → is_in zone a ≡ true → is_in zone b ≡ true → is_in zone c ≡ true → a ≢ b → b ≢ c → a ≢ c → is_only zone t s ≡ true → ⊥
three-bar-none zone a b c t s ai bi ci am bm cm ab bc ac only = elim (only-told zone t s a only ai am) [
  | inl a_t ↦ elim (only-told zone t s b only bi bm) [
    | inl b_t ↦ ab (a_t ∙ sym b_t)
    | inr b_s ↦ elim (only-told zone t s c only ci cm) [ inl c_t ↦ ac (a_t ∙ sym c_t) | inr c_s ↦ bc (b_s ∙ sym c_s) ]
  ]
  | inr a_s ↦ elim (only-told zone t s b only bi bm) [
    | inr b_s ↦ ab (a_s ∙ sym b_s)
    | inl b_t ↦ elim (only-told zone t s c only ci cm) [ inl c_t ↦ bc (b_t ∙ sym c_t) | inr c_s ↦ ac (a_s ∙ sym c_s) ]
  ]
]

-- the first two, and whether there is a third
pub pair-last : (zone : List Bool) (a b d : ℕ) → a < 64 → b < 64 → is_in zone a ≡ true → is_in zone b ≡ true → ((s : ℕ) → s < a → is_in zone s ≡ false) → ((s : ℕ) → a + 1 ≤ s → s < b → is_in zone s ≡ false) → a + 1 ≤ b → ((s : ℕ) → b + 1 ≤ s → s < d → is_in zone s ≡ false) → b + 1 ≤ d → d ≤ 64 → (d < 64 → is_in zone d ≡ true) → (d == 64) ≡ is_pair zone
pair-last zone a b d ai bi am bm below between ab above bd most found = elim (cases_eq d 64) [
  | inl last ↦ eq-eqb d 64 last ∙ sym (pair-tells zone a b (omega arith) bi am bm (only-tells zone a b (λ s inside member. elim (cases_lt s b) [
    | inl low ↦ elim (cases_lt s a) [
      | inl lower ↦ absurd (both_ways _ (below s lower) member)
      | inr past ↦ elim (cases_lt a s) [
        | inl high ↦ absurd (both_ways _ (between s (omega arith) low) member)
        | inr same ↦ inl (omega arith)
      ]
    ]
    | inr past ↦ elim (cases_lt b s) [
      | inl high ↦ absurd (both_ways _ (above s (omega arith) (omega arith)) member)
      | inr same ↦ inr (omega arith)
    ]
  ])))
  | inr more ↦ ne_eqb d 64 more ∙ sym (false_from_ne_true _ (λ pair.
      let x = pair-told zone pair in
      let di : d < 64 = omega arith in
      three-bar-none zone a b d x.0 x.1 ai bi di am bm (found di) (λ e. omega (arith, e)) (λ e. omega (arith, e)) (λ e. omega (arith, e)) x.6))
]
