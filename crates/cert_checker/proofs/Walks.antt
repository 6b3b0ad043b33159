-- Steps of a walk over children.
use Rattle.std.proofs.Common.{◌≡◌, ℕ, List, [], ◌∷◌, refl, sym, subst}
use Rattle.std.specs.declared.cmp.Ordering.{Ordering}
use Rattle.std.specs.declared.cmp.Ordering.TheVariants.{Less, Equal, Greater}
use Rattle.board_base.specs.Texts.{unmove_order}
use Rattle.board_base.specs.declared.unmoves.Unmove.{Unmove}
use Rattle.query_base.specs.Asked.{Asked}
use Rattle.unmove_gen.specs.Predecessor.{predecessor}
use Rattle.cert_text.specs.Tree.{Tree, Forest, more}
use Rattle.std.specs.Prelude.{Option, Some, None, MatchOption}
use Rattle.cert_checker.specs.Walk.{Fault, Walked, fault_at, Onwards, ByLabel, Walks, WalksEach}
use Rattle.cert_checker.specs.Walking.{IsLabelFault, IsFault}
use Rattle.cert_checker.specs.declared.refusals.Refused.{Refused}
use Rattle.cert_checker.specs.declared.refusals.Refused.TheVariants as refused

-- what the walk of a child and of those after it comes to, where the child's label is the first unmove that is left
abbrev pub WalksKid : Tree → Forest → Asked → Unmove → List Unmove → List Asked → ℕ → ℕ → Walked → Type 0
WalksKid t rest q u us ancestors top n walked =
    (kid : Walked) × Walks t (predecessor q u) (q ∷ ancestors) n kid × Onwards kid (WalksEach rest q us ancestors top) walked

-- a walk of children by the label of the first and the first unmove that is left
pub by_label : (f rest : Forest) (q : Asked) (us vs : List Unmove) (ancestors : List Asked) (top n : ℕ) (label u : Unmove) (t : Tree) (walked : Walked) (o : Ordering) → f ≡ more label t rest → us ≡ u ∷ vs → o ≡ unmove_order label u → ByLabel o u n walked (WalksKid t rest q u vs ancestors top n walked) → WalksEach f q us ancestors top n walked
by_label f rest q us vs ancestors top n label u t walked o here first order by =
    subst (λ (g : Forest). WalksEach g q us ancestors top n walked) (sym here) (
    subst (λ (l : List Unmove). WalksEach (more label t rest) q l ancestors top n walked) (sym first) (
    subst (λ (p : Ordering). ByLabel p u n walked (WalksKid t rest q u vs ancestors top n walked)) order by))

-- the walk of children where none is left, or no unmove
pub at_end : (f g : Forest) (q : Asked) (us vs : List Unmove) (ancestors : List Asked) (top n : ℕ) (walked : Walked) → f ≡ g → us ≡ vs → WalksEach g q vs ancestors top n walked → WalksEach f q us ancestors top n walked
at_end f g q us vs ancestors top n walked here first walks =
    subst (λ (h : Forest). WalksEach h q us ancestors top n walked) (sym here) (subst (λ (l : List Unmove). WalksEach g q l ancestors top n walked) (sym first) walks)

by_fault : (o : Ordering) (u : Unmove) (n : ℕ) (walked : Walked) (Kid : Type 0) → ByLabel o u n walked ⊥ → ByLabel o u n walked Kid
by_fault Less u n walked Kid by = by
by_fault Equal u n walked Kid by = absurd by
by_fault Greater u n walked Kid by = by

-- a walk of children where the label of the first is at fault
pub label_fault : (o : Option Unmove) (f rest : Forest) (q : Asked) (us vs : List Unmove) (ancestors : List Asked) (top n : ℕ) (label : Unmove) (t : Tree) (walked : Walked) → f ≡ more label t rest → MatchOption o ((us ≡ []) × (vs ≡ [])) (λ u. us ≡ u ∷ vs) → IsLabelFault o label n walked → WalksEach f q us ancestors top n walked
label_fault None f rest q us vs ancestors top n label t walked here first is = at_end f (more label t rest) q us [] ancestors top n walked here first.0 is
label_fault (Some u) f rest q us vs ancestors top n label t walked here first is =
    by_label f rest q us vs ancestors top n label u t walked (unmove_order label u) here first refl (by_fault (unmove_order label u) u n walked (WalksKid t rest q u vs ancestors top n walked) is)

-- a fault of a part is that of the whole
pub fault_of : (f : Refused) (P Q : Walked → Type 0) → ((n : ℕ) (fault : Fault) → P (fault_at n fault) → Q (fault_at n fault)) → IsFault f P → IsFault f Q
fault_of (refused.BadText n) P Q whole is = is
fault_of (refused.Unlisted n u) P Q whole is = whole n _ is
fault_of (refused.Unsupported n w) P Q whole is = whole n _ is
fault_of refused.Memory P Q whole is = tt

-- a child's walk, as the code makes it
pub kid_walk : (t : Tree) (b q : Asked) (u : Unmove) (above below : List Asked) (n : ℕ) (walked : Walked) → b ≡ predecessor q u → below ≡ q ∷ above → Walks t b below n walked → Walks t (predecessor q u) (q ∷ above) n walked
kid_walk t b q u above below n walked one two walks =
    subst (λ (p : Asked). Walks t p (q ∷ above) n walked) one (subst (λ (ups : List Asked). Walks t b ups n walked) two walks)
