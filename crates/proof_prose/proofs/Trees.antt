-- Nodes that are put after one another, and what a tree that proves its query says of them.
use Rattle.std.proofs.Common.{◌≡◌, ℕ, zero, suc, ◌+◌, List, [], ◌∷◌, ◌++◌, length, sym, ap, ◌∙◌, subst, arith}
use Rattle.std.specs.Prelude.{None, Option, Some, IsSomeAnd}
use Rattle.std.specs.List.{All, Contains}
use Rattle.std.proofs.lemmas.List.{append_assoc}
use Rattle.std.proofs.lemmas.List.Elements.{All-append, All-cons, All-nil, Contains-append_right}
use Rattle.std.proofs.lemmas.Option.{some_pair_parts}
use Rattle.board_base.specs.declared.unmoves.Unmove.{Unmove}
use Rattle.query_base.specs.Ancestors.{ancestor}
use Rattle.query_base.specs.Asked.{Asked}
use Rattle.query_base.specs.Targets.{Covers}
use Rattle.cert_checker.specs.Proving.{Proves, ProvesEach}
use Rattle.cert_text.specs.Tree.{Tree, Forest, rule, back, expand, sketch, none, more, count, kid_at}
use Rattle.cert_text.specs.Sizes.{rest_of}
use Rattle.cert_text.proofs.Forests.{rest-more}
use Rattle.general_lemmas.proofs.Lists.{contains-first}
use Rattle.unmove_gen.specs.Listed.{unmoves}
use Rattle.unmove_gen.specs.Predecessor.{predecessor}
use Rattle.proof_prose.specs.Nodes.{below, kid_nodes, line_of, nodes_from, own_node, prefix_below}
use Rattle.proof_prose.specs.Standing.{LineStands, Stands}
use Rattle.proof_prose.specs.declared.nodes.Told.{Told}

-- the nodes of a child and of those after it
nodes_next : (prefix : List ℕ) (path : List Unmove) (q : Asked) (above : List Asked) (f : Forest) (i k : ℕ) (label : Unmove) (t : Tree) → kid_at f i ≡ Some (label, t) → kid_nodes prefix path q above k (rest_of f i) ≡ own_node prefix k path label q (predecessor q label) (q ∷ above) t ∷ (below (prefix_below prefix k) (path ++ label ∷ []) (predecessor q label) (q ∷ above) t ++ kid_nodes prefix path q above (k + 1) (rest_of f (i + 1)))
nodes_next prefix path q above f i k label t e =
    let next : suc i ≡ i + 1 = omega arith in
    ap (λ (g : Forest). kid_nodes prefix path q above k g) (rest-more f i label t e)
    ∙ ap (λ (j : ℕ). own_node prefix k path label q (predecessor q label) (q ∷ above) t ∷ (below (prefix_below prefix k) (path ++ label ∷ []) (predecessor q label) (q ∷ above) t ++ kid_nodes prefix path q above (k + 1) (rest_of f j))) next

regrouped : (o : List Told) (a : Told) (b r : List Told) → ((o ++ a ∷ []) ++ b) ++ r ≡ o ++ (a ∷ (b ++ r))
regrouped o a b r = simp append_assoc

-- where a child and the nodes below it were put after others, those of the other children are still to come
pub after_node : (prefix : List ℕ) (path : List Unmove) (q : Asked) (above : List Asked) (f : Forest) (i k : ℕ) (label : Unmove) (t : Tree) (out own now : List Told) → kid_at f i ≡ Some (label, t) → own ≡ out ++ own_node prefix k path label q (predecessor q label) (q ∷ above) t ∷ [] → now ≡ own ++ below (prefix_below prefix k) (path ++ label ∷ []) (predecessor q label) (q ∷ above) t → now ++ kid_nodes prefix path q above (k + 1) (rest_of f (i + 1)) ≡ out ++ kid_nodes prefix path q above k (rest_of f i)
after_node prefix path q above f i k label t out own now e first second =
    let a : Told = own_node prefix k path label q (predecessor q label) (q ∷ above) t in
    let b : List Told = below (prefix_below prefix k) (path ++ label ∷ []) (predecessor q label) (q ∷ above) t in
    let r : List Told = kid_nodes prefix path q above (k + 1) (rest_of f (i + 1)) in
    ap (λ (l : List Told). l ++ r) (second ∙ ap (λ (l : List Told). l ++ b) first) ∙ regrouped out a b r ∙ ap (λ (l : List Told). out ++ l) (sym (nodes_next prefix path q above f i k label t e))

-- a child of a tree that proves a query proves the query before its label
pub kid_proves : (f : Forest) (i : ℕ) (label : Unmove) (t : Tree) (q : Asked) (us : List Unmove) (above : List Asked) → ProvesEach f q us above → kid_at f i ≡ Some (label, t) → (a : List Asked) × Proves t (predecessor q label) a
kid_proves none i label t q us above p e = absurd cc
kid_proves (more l s rest) zero label t q us above p e =
    let same = some_pair_parts l label s t e in
    (q ∷ above, subst (λ (u : Unmove). Proves t (predecessor q u) (q ∷ above)) same.0 (subst (λ (u : Tree). Proves u (predecessor q l) (q ∷ above)) same.1 p.2))
kid_proves (more l s rest) (suc i) label t q us above p e = kid_proves rest i label t q p.0 above p.3 e

-- its label is one of the retractions
pub kid_is_unmove : (f : Forest) (i : ℕ) (label : Unmove) (t : Tree) (q : Asked) (us : List Unmove) (above : List Asked) → ProvesEach f q us above → kid_at f i ≡ Some (label, t) → Contains us label
kid_is_unmove none i label t q us above p e = absurd cc
kid_is_unmove (more l s rest) zero label t q us above p e =
    let same = some_pair_parts l label s t e in
    subst (λ (u : Unmove). Contains us u) same.0 (subst (λ (v : List Unmove). Contains v l) (sym p.1) (contains-first l p.0))
kid_is_unmove (more l s rest) (suc i) label t q us above p e =
    subst (λ (v : List Unmove). Contains v label) (sym p.1) (Contains-append_right (l ∷ []) p.0 label (kid_is_unmove rest i label t q p.0 above p.3 e))

-- there are as many labels as retractions
as_many : (f : Forest) (q : Asked) (us : List Unmove) (above : List Asked) → ProvesEach f q us above → length us ≡ count f
as_many none q us above p = ap (λ (v : List Unmove). length v) p
as_many (more l s rest) q us above p =
    let first : length us ≡ length (l ∷ p.0) = ap (λ (v : List Unmove). length v) p.1 in
    let others : length p.0 ≡ count rest = as_many rest q p.0 above p.3 in
    omega arith

-- the ancestor that covers the query is there
covers-earlier : (q : Asked) (found : Option Asked) → IsSomeAnd found (λ a. Covers a q) → Covers (elim found [ None ↦ q | Some a ↦ a ]) q
covers-earlier q None h = absurd h
covers-earlier q (Some a) h = h

-- what a node of a tree that proves its query says of itself
line_stands : (q : Asked) (t : Tree) (above : List Asked) → Proves t q above → LineStands q (line_of q above t)
line_stands q (rule r) above p = p
line_stands q (back k) above p = covers-earlier q (ancestor above k) p
line_stands q (sketch b) above p = p
line_stands q (expand kids) above p = as_many kids q (unmoves q) above p.1

mutual
  below_stand : (prefix : List ℕ) (path : List Unmove) (q : Asked) (t : Tree) (above : List Asked) → Proves t q above → All Stands (below prefix path q above t)
  below_stand prefix path q (rule r) above p = All-nil Stands
  below_stand prefix path q (back k) above p = All-nil Stands
  below_stand prefix path q (sketch b) above p = All-nil Stands
  below_stand prefix path q (expand kids) above p = kids_stand prefix path q 1 kids (unmoves q) above p.1

  kids_stand : (prefix : List ℕ) (path : List Unmove) (q : Asked) (k : ℕ) (f : Forest) (us : List Unmove) (above : List Asked) → ProvesEach f q us above → All Stands (kid_nodes prefix path q above k f)
  kids_stand prefix path q k none us above p = All-nil Stands
  kids_stand prefix path q k (more l t rest) us above p =
      All-cons Stands _ _ (line_stands (predecessor q l) t (q ∷ above) p.2)
      (All-append Stands _ _ (below_stand (prefix_below prefix k) (path ++ l ∷ []) (predecessor q l) t (q ∷ above) p.2) (kids_stand prefix path q (k + 1) rest p.0 above p.3))

-- each node of a tree that proves its query stands
pub stand_all : (q : Asked) (t : Tree) → Proves t q [] → All Stands (nodes_from q t)
stand_all q t p = All-cons Stands _ _ (line_stands q t [] p) (below_stand [] [] q t [] p)
