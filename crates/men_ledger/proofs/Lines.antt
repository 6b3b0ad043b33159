-- Ways of pawns as lists: which ranks they pass, and those that stay on one file.
use Rattle.std.proofs.Common.{◌≡◌, ℕ, ◌+◌, ◌<◌, ◌≤◌, Bool, true, false, inl, inr, List, [], ◌∷◌, ◌++◌, refl, ap, sym, ◌∙◌, subst, arith}
use Rattle.std.proofs.lemmas.Bool.{and_from, and_parts, both_ways, cases_eq, eqb-true, ltb-true}
use Rattle.board_base.specs.Board.{Places, at, is_empty, file, rank}
use Rattle.board_base.specs.Attacks.{distance, files_apart, on_the_way, one_ahead}
use Rattle.board_base.specs.declared.men.Colour.{Colour}
use Rattle.board_base.specs.declared.men.Colour.TheVariants.{White, Black}
use Rattle.board_base.specs.declared.moves.Move.{Move}
use Rattle.general_lemmas.proofs.Differing.{Has, Differ}
use Rattle.men_account.proofs.PawnWays.{Forward, ahead-forward}
use Rattle.men_fates.specs.Deeds.{squares_trodden}
use Rattle.men_fates.specs.Ways.{is_pawn_step, is_straight, is_way, way_end}
use Rattle.men_fates.proofs.Treads.{Tread, single, double, capture, one-trodden, two-trodden, trodden-way}

pub straight-append : (s : ℕ) (a b : List ℕ) → is_straight s (a ++ b) ≡ true → (is_straight s a ≡ true) × (is_straight (way_end s a) b ≡ true)
straight-append s [] b h = (refl, h)
straight-append s (t ∷ a) b h =
    let parts = and_parts _ _ h in
    let rest = straight-append t a b parts.1 in
    (and_from _ _ parts.0 rest.0, rest.1)

pub straight-end : (s : ℕ) (way : List ℕ) → is_straight s way ≡ true → file (way_end s way) ≡ file s
straight-end s [] h = refl
straight-end s (t ∷ way) h = let parts = and_parts _ _ h in straight-end t way parts.1 ∙ sym (eqb-true _ _ parts.0)

pub straight-each : (s : ℕ) (way : List ℕ) (z : ℕ) → is_straight s way ≡ true → Has (s ∷ way) z → file z ≡ file s
straight-each s [] z h there = elim there [ inl same ↦ ap file (sym same) | inr never ↦ elim never [ ] ]
straight-each s (t ∷ way) z h there = elim there [
  | inl same ↦ ap file (sym same)
  | inr later ↦ let parts = and_parts _ _ h in straight-each t way z parts.1 later ∙ sym (eqb-true _ _ parts.0)
]

-- a step, taken apart
record Stepped (c : Colour) (s t : ℕ) : Type 0 where
  ahead : one_ahead c s t ≡ true
  inside : t < 64

stepped : (c : Colour) (set : List Bool) (s t : ℕ) → is_pawn_step c set s t ≡ true → Stepped c s t
stepped c set s t h =
    let p2 = and_parts _ _ (and_parts _ _ h).0 in
    record { ahead = (and_parts _ _ p2.0).0; inside = ltb-true _ _ p2.1 }

-- the rank is no further on than the other, as pawns of this colour go
abbrev pub UpTo : Colour → ℕ → ℕ → Type 0
UpTo White s t = rank s ≤ rank t
UpTo Black s t = rank t ≤ rank s

stays-up : (c : Colour) (s : ℕ) → UpTo c s s
stays-up White s = omega arith
stays-up Black s = omega arith

step-up : (c : Colour) (s t e : ℕ) → one_ahead c s t ≡ true → UpTo c t e → Forward c s e
step-up White s t e h more = let up : rank t ≡ rank s + 1 = eqb-true _ _ h in omega arith
step-up Black s t e h more = let down : rank s ≡ rank t + 1 = eqb-true _ _ h in omega arith

step-on : (c : Colour) (s t e : ℕ) → one_ahead c s t ≡ true → Forward c t e → Forward c s e
step-on White s t e h more = let up : rank t ≡ rank s + 1 = eqb-true _ _ h in omega arith
step-on Black s t e h more = let down : rank s ≡ rank t + 1 = eqb-true _ _ h in omega arith

pub forward-up : (c : Colour) (s t : ℕ) → Forward c s t → UpTo c s t
forward-up White s t h = omega arith
forward-up Black s t h = omega arith

-- the end is beyond no square of the way
pub end-beyond : (c : Colour) (set : List Bool) (s : ℕ) (way : List ℕ) → is_way c set s way ≡ true → UpTo c s (way_end s way)
end-beyond c set s [] h = stays-up c s
end-beyond c set s (t ∷ way) h =
    let parts = and_parts _ _ h in
    forward-up c s (way_end t way) (step-up c s t (way_end t way) (stepped c set s t parts.0).ahead (end-beyond c set t way parts.1))

pub each-beyond : (c : Colour) (set : List Bool) (s : ℕ) (way : List ℕ) (z : ℕ) → is_way c set s way ≡ true → Has (s ∷ way) z → UpTo c z (way_end s way)
each-beyond c set s [] z h there = elim there [ inl same ↦ subst (λ (y : ℕ). UpTo c y s) same (stays-up c s) | inr never ↦ elim never [ ] ]
each-beyond c set s (t ∷ way) z h there = elim there [
  | inl same ↦ subst (λ (y : ℕ). UpTo c y (way_end t way)) same (end-beyond c set s (t ∷ way) h)
  | inr later ↦ each-beyond c set t way z (and_parts _ _ h).1 later
]

-- each square of a way lies on a later rank than its beginning
later-forward : (c : Colour) (set : List Bool) (s : ℕ) (way : List ℕ) (z : ℕ) → is_way c set s way ≡ true → Has way z → Forward c s z
later-forward c set s [] z h there = elim there [ ]
later-forward c set s (t ∷ way) z h there =
    let parts = and_parts _ _ h in
    let ahead = (stepped c set s t parts.0).ahead in
    elim there [
      | inl same ↦ subst (λ (y : ℕ). Forward c s y) same (ahead-forward c s t ahead)
      | inr later ↦ step-on c s t z ahead (later-forward c set t way z parts.1 later)
    ]

never-forward : (c : Colour) (s : ℕ) → Forward c s s → ⊥
never-forward White s h = omega arith
never-forward Black s h = omega arith

pub way-differ : (c : Colour) (set : List Bool) (s : ℕ) (way : List ℕ) → is_way c set s way ≡ true → Differ (s ∷ way)
way-differ c set s [] h = (λ never. never, tt)
way-differ c set s (t ∷ way) h = (λ there. never-forward c s (later-forward c set s (t ∷ way) s h there), way-differ c set t way (and_parts _ _ h).1)

pub way-inside : (c : Colour) (set : List Bool) (s : ℕ) (way : List ℕ) (z : ℕ) → s < 64 → is_way c set s way ≡ true → Has (s ∷ way) z → z < 64
way-inside c set s [] z small h there = elim there [ inl same ↦ omega arith | inr never ↦ elim never [ ] ]
way-inside c set s (t ∷ way) z small h there = elim there [
  | inl same ↦ omega arith
  | inr later ↦ let parts = and_parts _ _ h in way-inside c set t way z (stepped c set s t parts.0).inside parts.1 later
]

-- the squares of a pawn's move are a way from its origin
pub treads-way : (board : Places) (c : Colour) (m : Move) → m.to < 64 → Tread board c m → is_way c [] m.from (squares_trodden m) ≡ true
treads-way board c m small tread = trodden-way board c m [] (λ t member. absurd (both_ways false refl member)) refl small tread

-- who steps to an empty square of his file doesn't come to one where somebody stands, and so stays before it
step-short : (board : Places) (c : Colour) (s t u : ℕ) → one_ahead c s t ≡ true → is_empty (at board t) ≡ true → file s ≡ file t → file u ≡ file s → is_empty (at board u) ≡ false → Forward c s u → Forward c t u
step-short board White s t u ahead vacant same line full before =
    let up : rank t ≡ rank s + 1 = eqb-true _ _ ahead in
    elim (cases_eq t u) [
      | inl there ↦ absurd (both_ways _ full (subst (λ (y : ℕ). is_empty (at board y) ≡ true) there vacant))
      | inr other ↦ omega arith
    ]
step-short board Black s t u ahead vacant same line full before =
    let down : rank s ≡ rank t + 1 = eqb-true _ _ ahead in
    elim (cases_eq t u) [
      | inl there ↦ absurd (both_ways _ full (subst (λ (y : ℕ). is_empty (at board y) ≡ true) there vacant))
      | inr other ↦ omega arith
    ]

aside : (s t : ℕ) → files_apart s t ≡ 1 → file s ≡ file t → ⊥
unfolding distance
aside s t one same = omega arith

-- a pawn who stays on his file passes nobody on it
pub passes-nobody : (board : Places) (c : Colour) (m : Move) (u : ℕ) → m.to < 64 → Tread board c m → is_straight m.from (squares_trodden m) ≡ true → file u ≡ file m.from → is_empty (at board u) ≡ false → Forward c m.from u → Forward c m.to u
passes-nobody board c m u small (single one ahead same free) straight line full before = step-short board c m.from m.to u ahead free same line full before
passes-nobody board c m u small (capture one ahead files enemy) straight line full before =
    absurd (aside m.from m.to files (eqb-true _ _ (and_parts _ _ (ap (is_straight m.from) (sym (one-trodden m one)) ∙ straight)).0))
passes-nobody board c m u small (double two home same crossed free) straight line full before =
    let x : ℕ = on_the_way m.from m.to 1 in
    let steps = and_parts _ _ (ap (is_way c [] m.from) (sym (two-trodden m two)) ∙ treads-way board c m small (double two home same crossed free)) in
    let files = and_parts _ _ (ap (is_straight m.from) (sym (two-trodden m two)) ∙ straight) in
    let over : file m.from ≡ file x = eqb-true _ _ files.0 in
    let on : file x ≡ file m.to = eqb-true _ _ (and_parts _ _ files.1).0 in
    let first = (stepped c [] m.from x steps.0).ahead in
    let second = (stepped c [] x m.to (and_parts _ _ steps.1).0).ahead in
    step-short board c x m.to u second free on (line ∙ over) full (step-short board c m.from x u first crossed over line full before)
