-- Children as a forest.
use Rattle.std.proofs.Common.{◌≡◌, ℕ, zero, suc, ◌<◌, ◌≤◌, List, [], ◌∷◌, ◌++◌, length, get_or, refl, ap, ◌∙◌, arith}
use Rattle.std.specs.Prelude.{Some, None}
use Rattle.std.proofs.lemmas.Option.{some_pair_parts}
use Rattle.board_base.specs.declared.unmoves.Unmove.{Unmove}
use Rattle.cert_text.specs.Tree.{Forest, Tree, none, more, count, kid_at, with_last}
use Rattle.cert_text.specs.Sizes.{rest_of, size, size_all}
use Rattle.cert_text.specs.Seen.{tree_of}
use Rattle.cert_text.specs.SeenKids.{forest_of}
use Rattle.cert_text.specs.declared.nodes.Kid.{Kid}

pub count-forest : (ks : List Kid) → length ks ≡ count (forest_of ks)
count-forest [] = refl
count-forest (k ∷ ks) = omega (arith, count-forest ks)

pub forest-push : (ks : List Kid) (k : Kid) → forest_of (ks ++ k ∷ []) ≡ with_last (forest_of ks) k.label (tree_of k.node)
forest-push [] k = refl
forest-push (j ∷ ks) k = ap (more j.label (tree_of j.node)) (forest-push ks k)

pub kid_at-forest : (ks : List Kid) (i : ℕ) (d : Kid) → i < length ks → kid_at (forest_of ks) i ≡ Some ((get_or ks i d).label, tree_of (get_or ks i d).node)
kid_at-forest [] i d inside = absurd (omega arith)
kid_at-forest (k ∷ ks) zero d inside = refl
kid_at-forest (k ∷ ks) (suc i) d inside = kid_at-forest ks i d (omega arith)

pub kid_at-past : (f : Forest) (i : ℕ) → count f ≤ i → kid_at f i ≡ None
kid_at-past none i past = refl
kid_at-past (more label tree rest) zero past = absurd (omega arith)
kid_at-past (more label tree rest) (suc i) past = kid_at-past rest i (omega arith)

-- the child at a place comes before those after it
pub rest-more : (f : Forest) (i : ℕ) (l : Unmove) (t : Tree) → kid_at f i ≡ Some (l, t) → rest_of f i ≡ more l t (rest_of f (suc i))
rest-more none i l t e = cc
rest-more (more label tree rest) zero l t e =
    let p = some_pair_parts label l tree t e in
    ap (λ (u : Unmove). more u tree rest) p.0 ∙ ap (λ (u : Tree). more l u rest) p.1
rest-more (more label tree rest) (suc i) l t e = rest-more rest i l t e

pub rest-end : (f : Forest) (i : ℕ) → count f ≤ i → rest_of f i ≡ none
rest-end none zero past = refl
rest-end none (suc i) past = refl
rest-end (more label tree rest) zero past = absurd (omega arith)
rest-end (more label tree rest) (suc i) past = rest-end rest i (omega arith)

-- a child's tree is smaller than all children together
pub kid_smaller : (f : Forest) (i : ℕ) (l : Unmove) (t : Tree) → kid_at f i ≡ Some (l, t) → suc (size t) ≤ size_all f
kid_smaller none i l t e = cc
kid_smaller (more label tree rest) zero l t e = let s : size tree ≡ size t = ap size (some_pair_parts _ _ _ _ e).1 in omega arith
kid_smaller (more label tree rest) (suc i) l t e = let h = kid_smaller rest i l t e in omega arith
