-- Tests of the kinds of a list, kind by kind.
use Rattle.std.proofs.Common.{◌≡◌, ℕ, ◌<◌, inl, inr, Bool, true, false, ◌&&◌, ◌||◌, not, List, [], ◌∷◌, refl, ap, ◌∙◌}
use Rattle.std.proofs.lemmas.Bool.{and_from, and_parts, both_ways, or_cases, or_left, or_right}
use Rattle.std.specs.List.{list_all, list_any}
use Rattle.general_lemmas.proofs.Truth.{same_truth}
use Rattle.board_base.specs.Board.{is_in, same_kind}
use Rattle.board_base.specs.declared.men.Kind.{Kind}
use Rattle.board_base.specs.declared.men.Kind.TheVariants.{Pawn, Knight, Bishop, Rook, Queen, King}
use Rattle.board_base.proofs.KindsOfMen.{same_kind-self}
use Rattle.figures.specs.Sets.{union}
use Rattle.figures.proofs.Sketches.{kind-any}
use Rattle.sketch_sets.proofs.Sets.{told-either}

-- a kind that passes a test
pub any-kind : (kinds : List Kind) (p : Kind → Bool) → list_any p kinds ≡ true → (k : Kind) × (list_any (λ j. same_kind j k) kinds ≡ true) × (p k ≡ true)
any-kind [] p h = absurd (both_ways false refl h)
any-kind (j ∷ kinds) p h = elim (or_cases _ _ h) [
  | inl first ↦ (j, or_left _ _ (same_kind-self j), first)
  | inr later ↦ let more = any-kind kinds p later in (more.0, or_right _ _ more.1, more.2)
]

-- of six tests some passes
abbrev one_of_six : (Kind → Bool) → Bool
one_of_six p = p Pawn || ((p Knight || p Bishop) || (p Rook || (p Queen || p King)))

six-tells : (p : Kind → Bool) (k : Kind) → p k ≡ true → one_of_six p ≡ true
six-tells p Pawn h = or_left (p Pawn) _ h
six-tells p Knight h = or_right (p Pawn) _ (or_left (p Knight || p Bishop) _ (or_left (p Knight) (p Bishop) h))
six-tells p Bishop h = or_right (p Pawn) _ (or_left (p Knight || p Bishop) _ (or_right (p Knight) (p Bishop) h))
six-tells p Rook h = or_right (p Pawn) _ (or_right (p Knight || p Bishop) _ (or_left (p Rook) _ h))
six-tells p Queen h = or_right (p Pawn) _ (or_right (p Knight || p Bishop) _ (or_right (p Rook) _ (or_left (p Queen) (p King) h)))
six-tells p King h = or_right (p Pawn) _ (or_right (p Knight || p Bishop) _ (or_right (p Rook) _ (or_right (p Queen) (p King) h)))

six-told : (p : Kind → Bool) → one_of_six p ≡ true → (k : Kind) × (p k ≡ true)
six-told p h = elim (or_cases (p Pawn) _ h) [
  | inl a ↦ (Pawn, a)
  | inr rest ↦ elim (or_cases (p Knight || p Bishop) (p Rook || (p Queen || p King)) rest) [
    | inl light ↦ elim (or_cases (p Knight) (p Bishop) light) [ inl b ↦ (Knight, b) | inr c ↦ (Bishop, c) ]
    | inr heavy ↦ elim (or_cases (p Rook) (p Queen || p King) heavy) [
      | inl d ↦ (Rook, d)
      | inr last ↦ elim (or_cases (p Queen) (p King) last) [ inl e ↦ (Queen, e) | inr g ↦ (King, g) ]
    ]
  ]
]

kinds-six : (kinds : List Kind) (p : Kind → Bool) → one_of_six (λ k. list_any (λ j. same_kind j k) kinds && p k) ≡ list_any p kinds
kinds-six kinds p = same_truth _ _
    (λ h. let x = six-told (λ k. list_any (λ j. same_kind j k) kinds && p k) h in let parts = and_parts (list_any (λ j. same_kind j x.0) kinds) (p x.0) x.1 in kind-any kinds p x.0 parts.0 parts.1)
    (λ h. let x = any-kind kinds p h in six-tells (λ k. list_any (λ j. same_kind j k) kinds && p k) x.0 (and_from _ _ x.1 x.2))

-- the sets of six kinds together
pub six-made : (kinds : List Kind) (p : Kind → Bool) (e : ℕ) → e < 64 → (a b c d f g fg heavy light rest all : List Bool) → fg ≡ union f g → heavy ≡ union d fg → light ≡ union b c → rest ≡ union light heavy → all ≡ union a rest → let q : Kind → Bool = λ k. list_any (λ j. same_kind j k) kinds && p k in is_in a e ≡ q Pawn → is_in b e ≡ q Knight → is_in c e ≡ q Bishop → is_in d e ≡ q Rook → is_in f e ≡ q Queen → is_in g e ≡ q King → is_in all e ≡ list_any p kinds
six-made kinds p e low a b c d f g fg heavy light rest all e1 e2 e3 e4 e5 ha hb hc hd hf hg =
    told-either a rest all e low e5
    ∙ ap (λ (x : Bool). is_in a e || x) (told-either light heavy rest e low e4)
    ∙ ap (λ (x : Bool). is_in a e || (x || is_in heavy e)) (told-either b c light e low e3)
    ∙ ap (λ (x : Bool). is_in a e || ((is_in b e || is_in c e) || x)) (told-either d fg heavy e low e2)
    ∙ ap (λ (x : Bool). is_in a e || ((is_in b e || is_in c e) || (is_in d e || x))) (told-either f g fg e low e1)
    ∙ six (is_in a e) (is_in b e) (is_in c e) (is_in d e) (is_in f e) (is_in g e) _ _ _ _ _ _ ha hb hc hd hf hg
    ∙ kinds-six kinds p
  where
    six : (a b c d f g a' b' c' d' f' g' : Bool) → a ≡ a' → b ≡ b' → c ≡ c' → d ≡ d' → f ≡ f' → g ≡ g' → (a || ((b || c) || (d || (f || g)))) ≡ (a' || ((b' || c') || (d' || (f' || g'))))
    six a b c d f g a' b' c' d' f' g' h1 h2 h3 h4 h5 h6 = cc

-- each passes where none fails
pub all-none : (kinds : List Kind) (p : Kind → Bool) → not (list_any (λ k. not (p k)) kinds) ≡ list_all p kinds
all-none [] p = refl
all-none (k ∷ kinds) p = not-or (p k) (list_any (λ j. not (p j)) kinds) ∙ ap (λ (x : Bool). p k && x) (all-none kinds p)
  where
    not-or : (a b : Bool) → not (not a || b) ≡ (a && not b)
    not-or true b = refl
    not-or false b = refl
