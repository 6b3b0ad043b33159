-- The first children of a list.
use Rattle.std.proofs.Common.{◌≡◌, ℕ, zero, suc, ◌+◌, ◌≤◌, refl, ap, ◌∙◌, arith, add-one}
use Rattle.std.specs.Prelude.{Some}
use Rattle.std.proofs.lemmas.Option.{some_pair_parts}
use Rattle.board_base.specs.declared.unmoves.Unmove.{Unmove}
use Rattle.cert_text.specs.Tree.{Tree, Forest, none, more, count, kid_at, with_last}

-- so many children, from the first on
abbrev pub first_kids : Forest → ℕ → Forest
first_kids f zero = none
first_kids none (suc i) = none
first_kids (more label tree rest) (suc i) = more label tree (first_kids rest i)

first_kids-next : (f : Forest) (i : ℕ) (l : Unmove) (t : Tree) → kid_at f i ≡ Some (l, t) → first_kids f (suc i) ≡ with_last (first_kids f i) l t
first_kids-next none i l t e = absurd cc
first_kids-next (more label tree rest) zero l t e =
    let p = some_pair_parts label l tree t e in
    ap (λ (u : Unmove). more u tree none) p.0 ∙ ap (λ (u : Tree). more l u none) p.1
first_kids-next (more label tree rest) (suc i) l t e = ap (more label tree) (first_kids-next rest i l t e)

pub first_kids-more : (f : Forest) (i : ℕ) (l : Unmove) (t : Tree) → kid_at f i ≡ Some (l, t) → first_kids f (i + 1) ≡ with_last (first_kids f i) l t
first_kids-more f i l t e = ap (first_kids f) (add-one i) ∙ first_kids-next f i l t e

pub first_kids-all : (f : Forest) (i : ℕ) → count f ≤ i → first_kids f i ≡ f
first_kids-all none zero h = refl
first_kids-all none (suc i) h = refl
first_kids-all (more label tree rest) zero h = absurd (omega arith)
first_kids-all (more label tree rest) (suc i) h = ap (more label tree) (first_kids-all rest i (omega arith))
