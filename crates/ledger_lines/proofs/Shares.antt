-- What one pawn captured, and the least that others of his side did, are no more than his side's pawns captured in all.
use Rattle.std.proofs.Common.{◌≡◌, ℕ, ◌+◌, ◌≤◌, inl, inr, Bool, true, false, List, [], ◌∷◌, length, map, refl, ap, subst, ◌∙◌, arith}
use Rattle.std.specs.Prelude.{Option, Some, None, is_none}
use Rattle.std.specs.List.{sum_by}
use Rattle.std.proofs.lemmas.Bool.{both_ways}
use Rattle.std.proofs.lemmas.List.Sums.{sum_by-cons}
use Rattle.general_lemmas.proofs.Differing.{Differ, Has, contains-has, differ-map, has-map, pairs-differ}
use Rattle.board_base.specs.Board.{array_of, at, is_of}
use Rattle.board_base.specs.Game.{IsGame}
use Rattle.board_base.specs.declared.men.Colour.{Colour}
use Rattle.board_base.specs.declared.moves.Move.{Move}
use Rattle.men_account.specs.Labels.{label_at, labels_after}
use Rattle.men_account.proofs.Labelled.{labels-apart}
use Rattle.men_fates.specs.Deeds.{way_of}
use Rattle.men_fates.specs.Ways.{captures_on}
use Rattle.ledger_facts.specs.Supposed.{captures}
use Rattle.ledger_facts.specs.declared.suppositions.Squares.TheVariants.{All}
use Rattle.ledger_facts.proofs.Counts.{pawns-add}

-- a label that there is
abbrev pub label-of : Option ℕ → ℕ
label-of None = 0
label-of (Some h) = h

pub label-there : (label : Option ℕ) → is_none label ≡ false → label ≡ Some (label-of label)
label-there None some = absurd (both_ways true some refl)
label-there (Some h) some = refl

-- the least of a sum is the least of each
sum-below : (least f home : ℕ → ℕ) (xs : List ℕ) → ((t : ℕ) → Has xs t → least t ≤ f (home t)) → sum_by least xs ≤ sum_by f (map home xs)
sum-below least f home [] each = omega arith
sum-below least f home (x ∷ xs) each =
    omega (arith, sum_by-cons least x xs, sum_by-cons f (home x) (map home xs), each x (inl refl), sum-below least f home xs (λ t there. each t (inr there)))

-- the home of the man on a square
abbrev pub home_on : List Bool → List Move → ℕ → ℕ
home_on o g t = label-of (label_at (labels_after o g) t)

-- how often the man of h captured as a pawn
abbrev pub number_of : List Bool → List Move → ℕ → ℕ
number_of o g h = length (captures_on h (way_of o g h))

-- a man of this side stands on another square t than s, and captured so often at least
pub record IsShare (o : List Bool) (g : List Move) (c : Colour) (least : ℕ → ℕ) (s t : ℕ) : Type 0 where
  pub other : t ≡ s → ⊥
  pub label : label_at (labels_after o g) t ≡ Some (home_on o g t)
  pub began : is_of c (at (array_of o) (home_on o g t)) ≡ true
  pub took : least t ≤ number_of o g (home_on o g t)

pub shares-add : (o : List Bool) (g : List Move) (c : Colour) (least : ℕ → ℕ) (squares : List ℕ) (s h : ℕ) → IsGame o g → Differ squares → label_at (labels_after o g) s ≡ Some h → is_of c (at (array_of o) h) ≡ true → ((t : ℕ) → Has squares t → IsShare o g c least s t) → number_of o g h + sum_by least squares ≤ captures o g c All
shares-add o g c least squares s h game differ label began each =
    let homes : List ℕ = map (home_on o g) squares in
    let apart : Differ homes = differ-map (home_on o g) squares (λ t u a b same. labels-apart o g game t u (home_on o g u) ((each t a).label ∙ ap Some same) (each u b).label) differ in
    let new : Has homes h → ⊥ = λ there. let x = has-map (home_on o g) squares h there in (each x.0 x.1).other (labels-apart o g game x.0 s h ((each x.0 x.1).label ∙ ap Some x.2) label) in
    let all : Differ (h ∷ homes) = (new, apart) in
    let whole = pawns-add o g c game (h ∷ homes) (pairs-differ (h ∷ homes) all) (λ k there. elim (contains-has (h ∷ homes) k there) [
      | inl same ↦ subst (λ (x : ℕ). is_of c (at (array_of o) x) ≡ true) same began
      | inr later ↦ let x = has-map (home_on o g) squares k later in subst (λ (y : ℕ). is_of c (at (array_of o) y) ≡ true) x.2 (each x.0 x.1).began
    ]) in
    omega (arith, whole, sum_by-cons (number_of o g) h homes, sum-below least (number_of o g) (home_on o g) squares (λ t there. (each t there).took))
