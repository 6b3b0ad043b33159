-- Trees that differ in lines of prices: each proves what the other does.
use Rattle.std.proofs.Common.{◌≡◌, ℕ, zero, suc, ◌+◌, ◌≤◌, inl, inr, List, ◌∷◌, refl, sym, ap, ◌∙◌, subst}
use Rattle.std.specs.Prelude.{Some}
use Rattle.std.proofs.lemmas.Option.{some_pair_parts}
use Rattle.board_base.specs.declared.unmoves.Unmove.{Unmove}
use Rattle.query_base.specs.Asked.{Asked}
use Rattle.unmove_gen.specs.Listed.{unmoves}
use Rattle.unmove_gen.specs.Predecessor.{predecessor}
use Rattle.cert_text.specs.Tree.{Tree, Forest, rule, back, expand, sketch, none, more, count, kid_at, with_last}
use Rattle.cert_text.specs.declared.reasons.Reason.{Reason}
use Rattle.cert_checker.specs.Proving.{Proves, ProvesEach}
use Rattle.price_sharing.proofs.FirstKids.{first_kids, first_kids-all, first_kids-more}
use Rattle.price_sharing.specs.Children.{IsGiven}
use Rattle.price_sharing.specs.Repriced.{AreRepriced, HasPrices, IsBalance, IsLineOf, IsNewLine, IsRepriced}

-- one more child, and its copy
pub repriced_more : (f g : Forest) (u : Unmove) (t copy : Tree) (q : Asked) (siblings : Forest) → AreRepriced f g q siblings → IsGiven t copy (predecessor q u) siblings → AreRepriced (with_last f u t) (with_last g u copy) q siblings
repriced_more none none u t copy q siblings all one = (refl, one, tt)
repriced_more none (more l s rest) u t copy q siblings all one = absurd all
repriced_more (more l s rest) none u t copy q siblings all one = absurd all
repriced_more (more l s rest) (more m c copies) u t copy q siblings (same, own, others) one = (same, own, repriced_more rest copies u t copy q siblings others one)

-- the line that a child is served by proves its query
new_line_proves : (t copy : Tree) (q : Asked) (siblings : Forest) (ancestors : List Asked) → IsNewLine t copy q siblings → Proves copy q ancestors
new_line_proves t (rule line) q siblings ancestors new = new.supports
new_line_proves t (back k) q siblings ancestors new = absurd new
new_line_proves t (expand kids) q siblings ancestors new = absurd new
new_line_proves t (sketch b) q siblings ancestors new = absurd new

mutual
  -- what the tree proves, the copy proves
  pub still_proves : (t copy : Tree) (q : Asked) (ancestors : List Asked) → IsRepriced t copy q → Proves t q ancestors → Proves copy q ancestors
  still_proves (rule r) copy q ancestors same p = subst (λ (x : Tree). Proves x q ancestors) (sym same) p
  still_proves (back k) copy q ancestors same p = subst (λ (x : Tree). Proves x q ancestors) (sym same) p
  still_proves (sketch b) copy q ancestors same p = subst (λ (x : Tree). Proves x q ancestors) (sym same) p
  still_proves (expand kids) (rule r) q ancestors same p = absurd same
  still_proves (expand kids) (back k) q ancestors same p = absurd same
  still_proves (expand kids) (sketch b) q ancestors same p = absurd same
  still_proves (expand kids) (expand copies) q ancestors same p = (p.0, still_proves-each kids copies q (unmoves q) kids ancestors same p.1)

  still_proves-each : (f g : Forest) (q : Asked) (us : List Unmove) (siblings : Forest) (ancestors : List Asked) → AreRepriced f g q siblings → ProvesEach f q us ancestors → ProvesEach g q us ancestors
  still_proves-each none none q us siblings ancestors same p = p
  still_proves-each none (more l t rest) q us siblings ancestors same p = absurd same
  still_proves-each (more l t rest) none q us siblings ancestors same p = absurd same
  still_proves-each (more l t rest) (more m copy copies) q us siblings ancestors (label, own, all) (others, first, proof, each) = (
    others,
    first ∙ ap (λ (u : Unmove). u ∷ others) (sym label),
    subst (λ (u : Unmove). Proves copy (predecessor q u) (q ∷ ancestors)) (sym label) (elim own [
      | inl same ↦ still_proves t copy (predecessor q l) (q ∷ ancestors) same proof
      | inr new ↦ new_line_proves t copy (predecessor q l) siblings (q ∷ ancestors) new
    ]),
    still_proves-each rest copies q others siblings ancestors all each,
  )

-- the one line of a child is a line of the children
pub line_there : (f : Forest) (i : ℕ) (label : Unmove) (t : Tree) (line : Reason) → kid_at f i ≡ Some (label, t) → HasPrices t line → IsLineOf f line
line_there none i label t line e has = absurd cc
line_there (more l s rest) zero label t line e has = inl (subst (λ (x : Tree). HasPrices x line) (sym (some_pair_parts l label s t e).1) has)
line_there (more l s rest) (suc i) label t line e has = inr (line_there rest i label t line e has)

-- the next child, and its copy
pub repriced_next : (f copies new : Forest) (i : ℕ) (u : Unmove) (t copy : Tree) (q child : Asked) → kid_at f i ≡ Some (u, t) → child ≡ predecessor q u → new ≡ with_last copies u copy → AreRepriced (first_kids f i) copies q f → IsGiven t copy child f → AreRepriced (first_kids f (i + 1)) new q f
repriced_next f copies new i u t copy q child here asked grown all one =
    let last : AreRepriced (with_last (first_kids f i) u t) (with_last copies u copy) q f = repriced_more (first_kids f i) copies u t copy q f all (subst (λ (p : Asked). IsGiven t copy p f) asked one) in
    subst (λ (g : Forest). AreRepriced (first_kids f (i + 1)) g q f) (sym grown) (subst (λ (g : Forest). AreRepriced g (with_last copies u copy) q f) (sym (first_kids-more f i u t here)) last)

-- where none is left, all are copied
pub repriced_all : (f copies : Forest) (i : ℕ) (q : Asked) → count f ≤ i → AreRepriced (first_kids f i) copies q f → AreRepriced f copies q f
repriced_all f copies i q past all = subst (λ (g : Forest). AreRepriced g copies q f) (first_kids-all f i past) all

-- a line of the children lists prices
pub line_priced : (f : Forest) (line : Reason) → IsLineOf f line → IsBalance line
line_priced none line there = absurd there
line_priced (more l t rest) line there = elim there [
  | inl here ↦ here.1
  | inr later ↦ line_priced rest line later
]

mutual
  -- a tree is itself
  pub same_tree : (t : Tree) (q : Asked) → IsRepriced t t q
  same_tree (rule r) q = refl
  same_tree (back k) q = refl
  same_tree (sketch b) q = refl
  same_tree (expand kids) q = same_trees kids q kids

  same_trees : (f : Forest) (q : Asked) (siblings : Forest) → AreRepriced f f q siblings
  same_trees none q siblings = tt
  same_trees (more l t rest) q siblings = (refl, inl (same_tree t (predecessor q l)), same_trees rest q siblings)
