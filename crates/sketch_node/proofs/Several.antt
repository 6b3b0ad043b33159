-- Several marks at once are one after another.
use Rattle.std.proofs.Common.{◌≡◌, ℕ, ◌+◌, ◌==◌, inl, inr, Bool, true, false, cond, ◌||◌, List, [], ◌∷◌, refl, ap, sym, ◌∙◌, subst, arith}
use Rattle.std.proofs.lemmas.Bool.{eq-eqb, eqb-true}
use Rattle.std.proofs.lemmas.List.Elements.{All-head, All-tail, All-weaker}
use Rattle.std.specs.List.{All, list_any}
use Rattle.general_lemmas.proofs.Truth.{same_truth}
use Rattle.board_base.specs.Rights.{Rights}
use Rattle.figures.specs.Figures.{Figure, Sketch, each_changed}
use Rattle.figures.specs.Known.{marked_at}
use Rattle.sketch_account.specs.Closes.{Forces}
use Rattle.sketch_rule.specs.Trees.{marked}
use Rattle.sketch_node.specs.Nodes.{HasTree, marked_with}
use Rattle.sketch_node.proofs.Changing.{each-alike, each-same, each-twice}
use Rattle.sketch_node.proofs.Helping.{forces-more, marked_if}

marked-none : (S : Sketch) → marked_with [] S ≡ S
unfolding marked_with
marked-none S = each-same (λ i f. marked_if false f) 0 S (λ i f. refl)

marked-both : (a b : Bool) (f : Figure) → marked_if (a || b) f ≡ marked_if b (marked_if a f)
marked-both true true f = refl
marked-both true false f = refl
marked-both false true f = refl
marked-both false false f = refl

from-one : (n i k : ℕ) → n ≡ i + 1 → (n == k + 1) ≡ (k == i)
from-one n i k e = same_truth (n == k + 1) (k == i) (λ h. let same : n ≡ k + 1 = eqb-true n (k + 1) h in eq-eqb k i (omega arith)) (λ h. let same : k ≡ i = eqb-true k i h in eq-eqb n (k + 1) (omega arith))

marked-more : (n i : ℕ) (numbers : List ℕ) (S : Sketch) → n ≡ i + 1 → marked_with (n ∷ numbers) S ≡ marked_with numbers (marked_at i S)
unfolding marked_with marked_at
marked-more n i numbers S e =
    each-alike (λ k f. marked_if ((n == k + 1) || list_any (λ m. m == k + 1) numbers) f) (λ k f. marked_if (list_any (λ m. m == k + 1) numbers) (marked_if (k == i) f)) 0 S
    (λ k f. ap (λ (b : Bool). marked_if (b || list_any (λ m. m == k + 1) numbers) f) (from-one n i k e) ∙ marked-both (k == i) (list_any (λ m. m == k + 1) numbers) f)
    ∙ sym (each-twice (λ k f. marked_if (list_any (λ m. m == k + 1) numbers) f) (λ k f. marked_if (k == i) f) 0 S)

-- the number is a figure's whose mark is forced
abbrev pub IsForcedFor : List Bool → Rights → Sketch → ℕ → Type 0
IsForcedFor o held S n = (i : ℕ) × (n ≡ i + 1) × Forces o held i S

pub marks-refute : (o : List Bool) (held : Rights) (exact : List Bool) (S : Sketch) (numbers : List ℕ) → All (IsForcedFor o held S) numbers → HasTree o held exact (marked_with numbers S) → HasTree o held exact S
marks-refute o held exact S [] each tree = subst (HasTree o held exact) (marked-none S) tree
marks-refute o held exact S (n ∷ numbers) each tree =
    let first : IsForcedFor o held S n = All-head (IsForcedFor o held S) n numbers each in
    let i : ℕ = first.0 in
    let rest : All (IsForcedFor o held (marked_at i S)) numbers = All-weaker (IsForcedFor o held S) (IsForcedFor o held (marked_at i S)) (λ m it. (it.0, it.1, forces-more o held it.0 i S it.2)) numbers (All-tail (IsForcedFor o held S) n numbers each) in
    let more : HasTree o held exact (marked_at i S) = marks-refute o held exact (marked_at i S) numbers rest (subst (HasTree o held exact) (marked-more n i numbers S first.1) tree) in
    (marked i more.0, (first.2, more.1))
