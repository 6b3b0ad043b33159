-- Sums over lists without repetition.
use Rattle.std.proofs.Common.{◌≡◌, ◌+◌, ◌≤◌, inl, inr, List, [], ◌∷◌, ◌++◌, length, refl, sym, ap, subst, arith}
use Rattle.std.specs.List.{Contains}
use Rattle.std.proofs.lemmas.List.Elements.{Contains-append_cases, Contains-append_left, Contains-append_right}
use Rattle.general_lemmas.proofs.Lists.{contains-cases, contains-first, contains-later, contains-none}
use Rattle.query_base.specs.Asked.{Asked}
use Rattle.unmove_gen.specs.Listed.{unmoves}
use Rattle.retro_search.specs.Lone.{AreDifferent, unmoves_in_all}

-- a list is parted at a member
record PartedAt (x : Asked) (ys : List Asked) : Type 0 where
  before : List Asked
  after : List Asked
  parts : ys ≡ before ++ x ∷ after

parted : (ys : List Asked) (x : Asked) → Contains ys x → PartedAt x ys
parted [] x there = absurd (contains-none x there)
parted (y ∷ ys) x there = elim (contains-cases y ys x there) [
  | inl same ↦ record { before = []; after = ys; parts = ap (λ (z : Asked). z ∷ ys) same }
  | inr later ↦ let p = parted ys x later in record { before = y ∷ p.before; after = p.after; parts = ap (λ (l : List Asked). y ∷ l) p.parts }
]

-- a member other than the one that is taken out
other-member : (a b : List Asked) (x y : Asked) → (x ≡ y → ⊥) → Contains (a ++ x ∷ b) y → Contains (a ++ b) y
other-member a b x y apart there = elim (Contains-append_cases a (x ∷ b) y there) [
  | inl left ↦ Contains-append_left a b y left
  | inr right ↦ elim (contains-cases x b y right) [ inl same ↦ absurd (apart same) | inr later ↦ Contains-append_right a b y later ]
]

sum-parted : (a b : List Asked) (x : Asked) → unmoves_in_all (a ++ x ∷ b) ≡ length (unmoves x) + unmoves_in_all (a ++ b)
sum-parted [] b x = refl
sum-parted (y ∷ a) b x = omega (arith, sum-parted a b x)

-- different members of a list have together no more unmoves than all of it
pub sum_within : (xs ys : List Asked) → AreDifferent xs → ((x : Asked) → Contains xs x → Contains ys x) → unmoves_in_all xs ≤ unmoves_in_all ys
sum_within [] ys different within = omega arith
sum_within (x ∷ xs) ys different within =
    let p = parted ys x (within x (contains-first x xs)) in
    let rest : (y : Asked) → Contains xs y → Contains (p.before ++ p.after) y = λ y there. other-member p.before p.after x y (λ same. different.0 (subst (λ (z : Asked). Contains xs z) (sym same) there)) (subst (λ (l : List Asked). Contains l y) p.parts (within y (contains-later x xs y there))) in
    let less = sum_within xs (p.before ++ p.after) different.1 rest in
    omega (arith, less, ap unmoves_in_all p.parts, sum-parted p.before p.after x)

pub sum-append : (xs ys : List Asked) → unmoves_in_all (xs ++ ys) ≡ unmoves_in_all xs + unmoves_in_all ys
sum-append [] ys = omega arith
sum-append (x ∷ xs) ys = omega (arith, sum-append xs ys)

away-moved : (xs ys : List Asked) (q x : Asked) → (Contains (xs ++ ys) x → ⊥) → (q ≡ x → ⊥) → Contains (xs ++ (ys ++ q ∷ [])) x → ⊥
away-moved xs ys q x away apart there = elim (Contains-append_cases xs (ys ++ q ∷ []) x there) [
  | inl left ↦ away (Contains-append_left xs ys x left)
  | inr right ↦ elim (Contains-append_cases ys (q ∷ []) x right) [
    | inl later ↦ away (Contains-append_right xs ys x later)
    | inr last ↦ elim (contains-cases q [] x last) [ inl same ↦ apart same | inr none ↦ contains-none x none ]
  ]
]

last-different : (ys : List Asked) (q : Asked) → (Contains ys q → ⊥) → AreDifferent ys → AreDifferent (ys ++ q ∷ [])
last-different [] q away different = ((λ none. contains-none q none), tt)
last-different (y ∷ ys) q away different =
    (away-moved [] ys q y different.0 (λ same. away (subst (λ (z : Asked). Contains (y ∷ ys) z) (sym same) (contains-first y ys))), last-different ys q (λ there. away (contains-later y ys q there)) different.1)

-- one that stands before different ones may stand after them
pub different_moved : (xs ys : List Asked) (q : Asked) → (Contains (xs ++ ys) q → ⊥) → AreDifferent (xs ++ ys) → AreDifferent (xs ++ (ys ++ q ∷ []))
different_moved [] ys q away different = last-different ys q away different
different_moved (x ∷ xs) ys q away different =
    (away-moved xs ys q x different.0 (λ same. away (subst (λ (z : Asked). Contains (x ∷ (xs ++ ys)) z) (sym same) (contains-first x (xs ++ ys)))), different_moved xs ys q (λ there. away (contains-later x (xs ++ ys) q there)) different.1)

-- and what holds of each holds of each
pub member_moved : (xs ys : List Asked) (q p : Asked) → Contains (xs ++ (ys ++ q ∷ [])) p → Contains (q ∷ (xs ++ ys)) p
member_moved xs ys q p there = elim (Contains-append_cases xs (ys ++ q ∷ []) p there) [
  | inl left ↦ contains-later q (xs ++ ys) p (Contains-append_left xs ys p left)
  | inr right ↦ elim (Contains-append_cases ys (q ∷ []) p right) [
    | inl later ↦ contains-later q (xs ++ ys) p (Contains-append_right xs ys p later)
    | inr last ↦ elim (contains-cases q [] p last) [
      | inl same ↦ subst (λ (z : Asked). Contains (q ∷ (xs ++ ys)) z) same (contains-first q (xs ++ ys))
      | inr none ↦ absurd (contains-none p none)
    ]
  ]
]
