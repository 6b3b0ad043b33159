-- A query that is expanded, child after child.
use Rattle.std.proofs.Common.{◌≡◌, ◌≢◌, ℕ, suc, ◌+◌, ◌*◌, ◌-◌, ◌<◌, ◌≤◌, max, false, inl, inr, List, [], ◌∷◌, ◌++◌, take, refl, sym, ap, ◌∙◌, subst, arith}
use Rattle.std.proofs.lemmas.List.{append_assoc, append-nil}
use Rattle.std.proofs.lemmas.List.Elements.{Contains-append_right}
use Rattle.std.specs.List.{Contains}
use Rattle.general_lemmas.proofs.Lists.{contains-first}
use Rattle.std.specs.Prelude.{IfErr, OnOk, Result, Ok, Err}
use Rattle.board_base.specs.declared.unmoves.Unmove.{Unmove}
use Rattle.query_base.specs.Asked.{Asked}
use Rattle.query_base.specs.Reach.{Reaches}
use Rattle.unmove_gen.specs.Listed.{unmoves}
use Rattle.unmove_gen.specs.Predecessor.{predecessor}
use Rattle.cert_text.specs.Tree.{Forest, expand, none, with_last}
use Rattle.cert_text.specs.Seen.{tree_of}
use Rattle.sketch_findings.specs.Proving.{Proves, ProvesEach}
use Rattle.retro_search.specs.Refutable.{IsRefutable, IsShut}
use Rattle.retro_search.specs.Costs.{IsCost, SumsUpTo}
use Rattle.retro_search.specs.Searched.{AreCounted, IsCostBelow, IsCounted, IsOpen, IsUnsettled, WhereEachRefutable}
use Rattle.retro_search.specs.declared.runs.Reasons.{Reasons}
use Rattle.retro_search.specs.declared.runs.Reasons.TheVariants.{RuleLines}
use Rattle.retro_search.specs.Unrefuted.{IfOpen, IfSpent, IfTooLarge, IsLengthened}
use Rattle.retro_search.specs.RuleLines.{AreByRuleLines, IsByRuleLines}
use Rattle.retro_search.specs.Kept.{IsRefutation, IsSound, KeepsRuleLines}
use Rattle.retro_search.specs.Grown.{AreChildren}
use Rattle.retro_search.specs.Runs.{GoesOn}
use Rattle.retro_search.specs.Heights.{height, height_of_all}
use Rattle.retro_search.specs.LineCounts.{lines_in, lines_in_all}
use Rattle.retro_search.specs.declared.refutations.Children.{Children}
use Rattle.retro_search.specs.declared.refutations.Refutation.{Refutation}
use Rattle.retro_search.specs.declared.runs.Run.{Run}
use Rattle.retro_search.specs.declared.unrefuted.OpenLine.{OpenLine}
use Rattle.retro_search.specs.declared.unrefuted.Unrefuted.{Unrefuted}
use Rattle.retro_search.specs.declared.unrefuted.Unrefuted.TheVariants as stop
use Rattle.retro_search.proofs.Trees.Ancestors.{each_below, proves_below, take_extends, whole_extends}
use Rattle.retro_search.proofs.Costs.CostSums.{cost_below, first_number, later_numbers}
use Rattle.retro_search.specs.SketchTexts.{HaveSketchTexts}
use Rattle.retro_search.proofs.Trees.Forests.{height_last, lined_more, lines_more, proves_more, texts_more}
use Rattle.retro_search.proofs.Trees.Heights.{refutable_each}
use Rattle.retro_search.proofs.Lines.OpenLines.{longer_open, stop_large, stop_open, stop_spent}
use Rattle.retro_search.proofs.Lines.OpenEnds.{longer_unsettled}
use Rattle.retro_search.proofs.Trees.Refuting.{refuted, refutes_by_kids}

-- the costs of a query's predecessors
abbrev pub CostBy : Asked → ℕ → List Asked → Unmove → ℕ → Type 0
CostBy q below ancestors u n = IsCost (predecessor q u) below (q ∷ ancestors) n

abbrev pub IsRefutableBy : Asked → ℕ → List Asked → Unmove → Type 0
IsRefutableBy q below ancestors u = IsRefutable (predecessor q u) below (q ∷ ancestors)

-- where so many visits were left at first, and these are left now, the cost of the unmoves that are left fits in the whole cost
pub record IsCostLeft (q : Asked) (below : ℕ) (ancestors : List Asked) (rest : List Unmove) (left first n : ℕ) : Type 0 where
  pub later : ℕ
  pub sums : SumsUpTo (CostBy q below ancestors) (IsRefutableBy q below ancestors) rest later
  pub total : first + later ≤ left + n

-- these children prove the predecessors by all unmoves but those that are left
pub record Expands (q : Asked) (below : ℕ) (ancestors : List Asked) (rest : List Unmove) (c : Children) (now first : Run) : Type 0 where
  pub done : List Unmove
  pub parts : unmoves q ≡ done ++ rest
  pub are : AreChildren c q done below ancestors
  pub plain : first.reasons ≡ RuleLines → first.memo.on ≡ false → c.lines + now.left ≤ first.left
  pub twice : first.memo.on ≡ false → c.lines + 2 * now.left ≤ 2 * first.left
  pub on : GoesOn first now
  pub lined : first.reasons ≡ RuleLines → AreByRuleLines c.kids
  pub keeps : first.reasons ≡ RuleLines → KeepsRuleLines now.memo
  pub cost : AreCounted first.reasons q below ancestors → (n : ℕ) → IsCostBelow q below ancestors n → IsCostLeft q below ancestors rest now.left first.left n

-- the first unmove that is left is listed
pub listed_in : (us done rest others : List Unmove) (u : Unmove) → us ≡ done ++ rest → rest ≡ u ∷ others → Contains us u
listed_in us done rest others u parts first =
    subst (λ (l : List Unmove). Contains l u) (sym parts) (Contains-append_right done rest u (subst (λ (l : List Unmove). Contains l u) (sym first) (contains-first u others)))

pub no_children : (c : Children) (q : Asked) (below : ℕ) (ancestors : List Asked) → c.kids ≡ none → (c.lean ≡ 0) × (c.highest ≡ 0) × (c.lines ≡ 0) → AreChildren c q [] below ancestors
no_children c q below ancestors empty numbers = record {
  each = subst (λ (f : Forest). ProvesEach f q [] (take c.lean ancestors)) (sym empty) refl;
  high = ap height_of_all empty ∙ sym numbers.1;
  low = omega (arith, numbers.1);
  counted = ap lines_in_all empty ∙ sym numbers.2;
  few = omega (arith, numbers.2);
  texts = subst HaveSketchTexts (sym empty) tt;
}

pub expands_none : (q : Asked) (below : ℕ) (ancestors : List Asked) (rest : List Unmove) (c : Children) (run : Run) → rest ≡ unmoves q → c.kids ≡ none → (c.lean ≡ 0) × (c.highest ≡ 0) × (c.lines ≡ 0) → IsSound run.memo → (run.reasons ≡ RuleLines → KeepsRuleLines run.memo) → Expands q below ancestors rest c run run
expands_none q below ancestors rest c run all empty numbers sound keeps =
    subst (λ (us : List Unmove). Expands q below ancestors us c run run) (sym all) (record {
      done = [];
      parts = refl;
      are = no_children c q below ancestors empty numbers;
      plain = λ by off. omega (arith, numbers.2);
      twice = λ off. omega (arith, numbers.2);
      on = record { sound = sound; mode = refl; fewer = omega arith; reasons = refl };
      lined = λ by. subst AreByRuleLines (sym empty) tt;
      keeps = keeps;
      cost = λ counted n sums. record { later = n; sums = sums; total = omega arith };
    })

-- the children with one more
pub record Adds (c : Children) (u : Unmove) (r : Refutation) (more : Children) : Type 0 where
  pub kids : more.kids ≡ with_last c.kids u (tree_of r.node)
  pub lean : more.lean ≡ max c.lean (r.lean - 1)
  pub highest : more.highest ≡ max c.highest r.height
  pub lines : more.lines ≡ c.lines + r.lines
  pub room : more.lines < 500000

pub one_more : (c more : Children) (q p : Asked) (done : List Unmove) (u : Unmove) (r : Refutation) (below : ℕ) (ancestors above : List Asked) → p ≡ predecessor q u → above ≡ q ∷ ancestors → AreChildren c q done below ancestors → IsRefutation r p below above → Adds c u r more → AreChildren more q (done ++ u ∷ []) below ancestors
one_more c more q p done u r below ancestors above here up are f a =
    let wider : c.lean ≤ more.lean = omega (arith, a.lean) in
    let leans : r.lean ≤ suc more.lean = omega (arith, a.lean) in
    let each : ProvesEach c.kids q done (take more.lean ancestors) = each_below c.kids q done (take c.lean ancestors) (take more.lean ancestors) (take_extends c.lean more.lean ancestors wider) are.each in
    let own : Proves (tree_of r.node) (predecessor q u) (take r.lean (q ∷ ancestors)) =
    subst (λ (a : Asked). Proves (tree_of r.node) a (take r.lean (q ∷ ancestors))) here (subst (λ (l : List Asked). Proves (tree_of r.node) p (take r.lean l)) up f.proves) in
    let kid : Proves (tree_of r.node) (predecessor q u) (q ∷ take more.lean ancestors) =
    proves_below (tree_of r.node) (predecessor q u) (take r.lean (q ∷ ancestors)) (q ∷ take more.lean ancestors) (take_extends r.lean (suc more.lean) (q ∷ ancestors) leans) own in
    record {
      each = subst (λ (g : Forest). ProvesEach g q (done ++ u ∷ []) (take more.lean ancestors)) (sym a.kids) (proves_more c.kids q done u (tree_of r.node) (take more.lean ancestors) each kid);
      high = ap height_of_all a.kids ∙ height_last c.kids u (tree_of r.node) ∙ ap (λ (n : ℕ). max n (height (tree_of r.node))) are.high ∙ ap (max c.highest) f.high ∙ sym a.highest;
      low = omega (arith, a.highest, are.low, f.low);
      counted = ap lines_in_all a.kids ∙ lines_more c.kids u (tree_of r.node) ∙ ap (λ (n : ℕ). n + lines_in (tree_of r.node)) are.counted ∙ ap (λ (n : ℕ). c.lines + n) f.counted ∙ sym a.lines;
      few = omega (arith, a.room);
      texts = subst HaveSketchTexts (sym a.kids) (texts_more c.kids u (tree_of r.node) are.texts f.texts);
    }

-- a child's facts, by the query and the ancestors that it has
kid_refutable : (q p : Asked) (below : ℕ) (ancestors above : List Asked) (u : Unmove) → p ≡ predecessor q u → above ≡ q ∷ ancestors → IsRefutable p below above → IsRefutableBy q below ancestors u
kid_refutable q p below ancestors above u here up h =
    subst (λ (b : Asked). IsRefutable b below (q ∷ ancestors)) here (subst (λ (l : List Asked). IsRefutable p below l) up h)

own_refutable : (q p : Asked) (below : ℕ) (ancestors above : List Asked) (u : Unmove) → p ≡ predecessor q u → above ≡ q ∷ ancestors → IsRefutableBy q below ancestors u → IsRefutable p below above
own_refutable q p below ancestors above u here up h =
    subst (λ (b : Asked). IsRefutable b below above) (sym here) (subst (λ (l : List Asked). IsRefutable (predecessor q u) below l) (sym up) h)

own_number : (q p : Asked) (below : ℕ) (ancestors above : List Asked) (u : Unmove) (n : ℕ) → p ≡ predecessor q u → above ≡ q ∷ ancestors → CostBy q below ancestors u n → IsCost p below above n
own_number q p below ancestors above u n here up h =
    subst (λ (b : Asked). IsCost b below above n) (sym here) (subst (λ (l : List Asked). IsCost (predecessor q u) below l n) (sym up) h)

pub expands_more : (q : Asked) (below : ℕ) (ancestors : List Asked) (rest others : List Unmove) (c more : Children) (run now first : Run) (u : Unmove) (r : Refutation) (p : Asked) (above : List Asked) → p ≡ predecessor q u → above ≡ q ∷ ancestors → Expands q below ancestors rest c run first → rest ≡ u ∷ others → Adds c u r more → IsRefutation r p below above → (run.reasons ≡ RuleLines → IsByRuleLines (tree_of r.node)) → (run.reasons ≡ RuleLines → KeepsRuleLines now.memo) → (run.reasons ≡ RuleLines → run.memo.on ≡ false → r.lines + now.left ≤ run.left) → (run.memo.on ≡ false → r.lines + 2 * now.left ≤ 2 * run.left) → GoesOn run now → (IsRefutable p below above → (n : ℕ) → IsCost p below above n → run.left ≤ now.left + n) → Expands q below ancestors others more now first
expands_more q below ancestors rest others c more run now first u r p above here up x next a f lined keeps plain twice on cost =
    let same : first.reasons ≡ RuleLines → run.reasons ≡ RuleLines = λ by. x.on.reasons ∙ by in
    let kid : AreCounted first.reasons q below ancestors → IsRefutable p below above = λ counted. elim counted [
      | inl by ↦ refuted r p below above f (lined (same by))
      | inr each ↦ own_refutable q p below ancestors above u here up (each u (listed_in (unmoves q) x.done rest others u x.parts next))
    ] in
    record {
      done = x.done ++ u ∷ [];
      parts = x.parts ∙ ap (λ (l : List Unmove). x.done ++ l) next ∙ sym (append_assoc x.done (u ∷ []) others);
      are = one_more c more q p x.done u r below ancestors above here up x.are f a;
      plain = λ by off. omega (arith, a.lines, x.plain by off, plain (same by) (x.on.mode ∙ off));
      twice = λ off. omega (arith, a.lines, x.twice off, twice (x.on.mode ∙ off));
      on = record { sound = on.sound; mode = on.mode ∙ x.on.mode; fewer = omega (arith, on.fewer, x.on.fewer); reasons = on.reasons ∙ x.on.reasons };
      lined = λ by. subst AreByRuleLines (sym a.kids) (lined_more c.kids u (tree_of r.node) (x.lined by) (lined (same by)));
      keeps = λ by. keeps (same by);
      cost = λ counted n sums.
          let before = x.cost counted n sums in
          let own = kid counted in
          let s = later_numbers (CostBy q below ancestors) (IsRefutableBy q below ancestors) u rest others before.later next (kid_refutable q p below ancestors above u here up own) before.sums in
          record { later = s.1; sums = s.3; total = omega (arith, before.total, cost own s.0 (own_number q p below ancestors above u s.0 here up s.2), s.4) };
    }

-- what stops a child stops the query

pub expands_open : (q : Asked) (below : ℕ) (ancestors : List Asked) (rest others : List Unmove) (c : Children) (run first : Run) (u : Unmove) (p : Asked) (above : List Asked) (s t : Unrefuted) → p ≡ predecessor q u → above ≡ q ∷ ancestors → Expands q below ancestors rest c run first → rest ≡ u ∷ others → (Reaches [] q → ⊥) → (IsShut q ancestors → ⊥) → IsLengthened s u t → (run.reasons ≡ RuleLines → IfOpen s (λ line. IsOpen line p below above)) → first.reasons ≡ RuleLines → IfOpen t (λ line. IsOpen line q (suc below) ancestors)
expands_open q below ancestors rest others c run first u p above s t here up x next elsewhere unshut longer open_ by =
    let each : ProvesEach c.kids q x.done ancestors = each_below c.kids q x.done (take c.lean ancestors) ancestors (whole_extends c.lean ancestors) x.are.each in
    let low : height_of_all c.kids ≤ below = omega (arith, x.are.high, x.are.low) in
    stop_open s t u (λ line. IsOpen line p below above) (λ line. IsOpen line q (suc below) ancestors) (λ kid line grown same o.
    longer_open kid line q u x.done others below ancestors (x.parts ∙ ap (λ (l : List Unmove). x.done ++ l) next) (refutable_each c.kids q x.done below ancestors each (x.lined by) low) elsewhere unshut grown same (
    subst (λ (a : Asked). IsOpen kid a below (q ∷ ancestors)) here (subst (λ (l : List Asked). IsOpen kid p below l) up o))) longer (open_ (x.on.reasons ∙ by))

pub expands_unsettled : (q : Asked) (below : ℕ) (ancestors : List Asked) (rest others : List Unmove) (c : Children) (run first : Run) (u : Unmove) (p : Asked) (above : List Asked) (s t : Unrefuted) → p ≡ predecessor q u → above ≡ q ∷ ancestors → Expands q below ancestors rest c run first → rest ≡ u ∷ others → (Reaches [] q → ⊥) → (IsShut q ancestors → ⊥) → IsLengthened s u t → IfOpen s (λ line. IsUnsettled line p below above) → IfOpen t (λ line. IsUnsettled line q (suc below) ancestors)
expands_unsettled q below ancestors rest others c run first u p above s t here up x next elsewhere unshut longer open_ =
    stop_open s t u (λ line. IsUnsettled line p below above) (λ line. IsUnsettled line q (suc below) ancestors) (λ kid line grown same o.
    longer_unsettled kid line q u below ancestors (listed_in (unmoves q) x.done rest others u x.parts next) elsewhere unshut grown same (
    subst (λ (a : Asked). IsUnsettled kid a below (q ∷ ancestors)) here (subst (λ (l : List Asked). IsUnsettled kid p below l) up o))) longer open_

pub expands_spent : (q : Asked) (below : ℕ) (ancestors : List Asked) (rest others : List Unmove) (c : Children) (run first : Run) (u : Unmove) (p : Asked) (above : List Asked) (s t : Unrefuted) → p ≡ predecessor q u → above ≡ q ∷ ancestors → Expands q below ancestors rest c run first → rest ≡ u ∷ others → IsLengthened s u t → IfSpent s (IsCounted run.reasons p below above → (n : ℕ) → IsCost p below above n → run.left < n) → IfSpent t (AreCounted first.reasons q below ancestors → (n : ℕ) → IsCostBelow q below ancestors n → first.left < n)
expands_spent q below ancestors rest others c run first u p above s t here up x next longer spent =
    stop_spent s t u _ _ (λ cost counted n sums.
    let before = x.cost counted n sums in
    let a = first_number (CostBy q below ancestors) (IsRefutableBy q below ancestors) u rest others before.later next before.sums in
    let own : IsCounted run.reasons p below above = elim counted [
      | inl by ↦ inl (x.on.reasons ∙ by)
      | inr each ↦ inr (own_refutable q p below ancestors above u here up (each u (listed_in (unmoves q) x.done rest others u x.parts next)))
    ] in
    let kid : run.left < a.0 = cost own a.0 (own_number q p below ancestors above u a.0 here up a.1) in
    omega (arith, before.total, a.2)) longer spent

pub expands_large : (q : Asked) (below : ℕ) (ancestors : List Asked) (rest : List Unmove) (c : Children) (run first : Run) (u : Unmove) (s t : Unrefuted) → Expands q below ancestors rest c run first → IsLengthened s u t → (run.reasons ≡ RuleLines → IfTooLarge s (run.memo.on ≡ false → ⊥)) → first.reasons ≡ RuleLines → IfTooLarge t (first.memo.on ≡ false → ⊥)
expands_large q below ancestors rest c run first u s t x longer large by =
    stop_large s t u _ _ (λ (h : run.memo.on ≡ false → ⊥) (off : first.memo.on ≡ false). h (x.on.mode ∙ off)) longer (large (x.on.reasons ∙ by))

pub if_large : (s : Unrefuted) (P Q : Type 0) → (P → Q) → IfTooLarge s P → IfTooLarge s Q
if_large (stop.Open line) P Q f h = h
if_large stop.Spent P Q f h = h
if_large stop.TooLarge P Q f h = f h
if_large stop.Memory P Q f h = h

-- without a memo the tree can't grow past what may be visited
pub children_large : (q : Asked) (below : ℕ) (ancestors : List Asked) (rest : List Unmove) (c : Children) (run now first : Run) (r : Refutation) (s : Unrefuted) → Expands q below ancestors rest c run first → (run.reasons ≡ RuleLines → run.memo.on ≡ false → r.lines + now.left ≤ run.left) → first.left < 500000 → IfTooLarge s (500000 ≤ c.lines + r.lines) → first.reasons ≡ RuleLines → IfTooLarge s (first.memo.on ≡ false → ⊥)
children_large q below ancestors rest c run now first r s x plain few large by =
    if_large s _ _ (λ (h : 500000 ≤ c.lines + r.lines) (off : first.memo.on ≡ false). omega (arith, x.plain by off, plain (x.on.reasons ∙ by) (x.on.mode ∙ off))) large

pub expands_visits : (q : Asked) (below : ℕ) (ancestors : List Asked) (rest : List Unmove) (c : Children) (run first : Run) (u : Unmove) (s t : Unrefuted) → Expands q below ancestors rest c run first → IsLengthened s u t → IfTooLarge s (run.memo.on ≡ false → 250000 < run.left) → IfTooLarge t (first.memo.on ≡ false → 250000 ≤ first.left)
expands_visits q below ancestors rest c run first u s t x longer large =
    stop_large s t u _ _ (λ (h : run.memo.on ≡ false → 250000 < run.left) (off : first.memo.on ≡ false). omega (arith, h (x.on.mode ∙ off), x.on.fewer)) longer large

pub children_visits : (q : Asked) (below : ℕ) (ancestors : List Asked) (rest : List Unmove) (c : Children) (run now first : Run) (r : Refutation) (s : Unrefuted) → Expands q below ancestors rest c run first → (run.memo.on ≡ false → r.lines + 2 * now.left ≤ 2 * run.left) → IfTooLarge s (500000 ≤ c.lines + r.lines) → IfTooLarge s (first.memo.on ≡ false → 250000 ≤ first.left)
children_visits q below ancestors rest c run now first r s x twice large =
    if_large s _ _ (λ (h : 500000 ≤ c.lines + r.lines) (off : first.memo.on ≡ false). omega (arith, h, x.twice off, twice (x.on.mode ∙ off))) large

pub expands_all : (q : Asked) (below : ℕ) (ancestors : List Asked) (rest : List Unmove) (c : Children) (run first : Run) (r : Refutation) → Expands q below ancestors rest c run first → rest ≡ [] → (Reaches [] q → ⊥) → tree_of r.node ≡ expand c.kids → r.lean ≡ c.lean → r.height ≡ c.highest + 1 → r.lines ≡ c.lines + 1 → IsRefutation r q (suc below) ancestors
expands_all q below ancestors rest c run first r x end elsewhere tree lean high counted =
    let all : x.done ≡ unmoves q = sym (x.parts ∙ ap (λ (l : List Unmove). x.done ++ l) end ∙ append-nil x.done) in
    refutes_by_kids r c q x.done below ancestors tree lean high counted all elsewhere x.are

pub expands_cost : (q : Asked) (below : ℕ) (ancestors : List Asked) (rest : List Unmove) (c : Children) (run first : Run) → Expands q below ancestors rest c run first → rest ≡ [] → WhereEachRefutable q below ancestors (λ n. first.left ≤ run.left + n)
expands_cost q below ancestors rest c run first x end each n sums =
    let b = x.cost (inr each) n sums in omega (arith, b.total)

pub on_ok : {A E : Type 0} (r : Result A E) (P Q : Type 0) → (P → Q) → OnOk r P → OnOk r Q
on_ok {A} {E} (Ok a) P Q f h = f h
on_ok {A} {E} (Err e) P Q f h = h

pub ok_always : {A E : Type 0} (r : Result A E) (P : Type 0) → P → OnOk r P
ok_always {A} {E} (Ok a) P p = p
ok_always {A} {E} (Err e) P p = tt

pub if_err : {A E : Type 0} (r : Result A E) (P Q : E → Type 0) → ((e : E) → P e → Q e) → IfErr r P → IfErr r Q
if_err {A} {E} (Ok a) P Q f h = h
if_err {A} {E} (Err e) P Q f h = f e h

pub if_spent : (s : Unrefuted) (P Q : Type 0) → (P → Q) → IfSpent s P → IfSpent s Q
if_spent (stop.Open line) P Q f h = h
if_spent stop.Spent P Q f h = f h
if_spent stop.TooLarge P Q f h = h
if_spent stop.Memory P Q f h = h

pub no_open : (s : Unrefuted) (P : OpenLine → Type 0) → IfOpen s (λ line. ⊥) → IfOpen s P
no_open (stop.Open line) P h = absurd h
no_open stop.Spent P h = tt
no_open stop.TooLarge P h = tt
no_open stop.Memory P h = tt

pub less_one : (depth : ℕ) → depth ≢ 0 → suc (depth - 1) ≡ depth
less_one depth some = omega arith

pub deeper_open : (depth : ℕ) (q : Asked) (ancestors : List Asked) (s : Unrefuted) → depth ≢ 0 → IfOpen s (λ line. IsOpen line q (suc (depth - 1)) ancestors) → IfOpen s (λ line. IsOpen line q depth ancestors)
deeper_open depth q ancestors s some h = subst (λ (d : ℕ). IfOpen s (λ line. IsOpen line q d ancestors)) (less_one depth some) h

pub deeper_unsettled : (depth : ℕ) (q : Asked) (ancestors : List Asked) (s : Unrefuted) → depth ≢ 0 → IfOpen s (λ line. IsUnsettled line q (suc (depth - 1)) ancestors) → IfOpen s (λ line. IsUnsettled line q depth ancestors)
deeper_unsettled depth q ancestors s some h = subst (λ (d : ℕ). IfOpen s (λ line. IsUnsettled line q d ancestors)) (less_one depth some) h

-- where a query that isn't shut is refutable, each of its predecessors is
each_refutable : (depth : ℕ) (q : Asked) (ancestors : List Asked) → (IsShut q ancestors → ⊥) → IsRefutable q (suc depth) ancestors → (u : Unmove) → Contains (unmoves q) u → IsRefutable (predecessor q u) depth (q ∷ ancestors)
each_refutable depth q ancestors unshut (inl shut) u listed = absurd (unshut shut)
each_refutable depth q ancestors unshut (inr below) u listed = below.1 u listed

own_each : (depth : ℕ) (q : Asked) (ancestors : List Asked) → depth ≢ 0 → (IsShut q ancestors → ⊥) → IsRefutable q depth ancestors → (u : Unmove) → Contains (unmoves q) u → IsRefutable (predecessor q u) (depth - 1) (q ∷ ancestors)
own_each depth q ancestors some unshut ref =
    each_refutable (depth - 1) q ancestors unshut (subst (λ (d : ℕ). IsRefutable q d ancestors) (sym (less_one depth some)) ref)

-- the cost of a query is one more than that of what is below it
own_cost : (depth : ℕ) (q : Asked) (ancestors : List Asked) (n : ℕ) → depth ≢ 0 → (IsShut q ancestors → ⊥) → (Reaches [] q → ⊥) → IsCost q depth ancestors n → (m : ℕ) × IsCostBelow q (depth - 1) ancestors m × (n ≡ 1 + m)
own_cost depth q ancestors n some unshut elsewhere cost =
    cost_below (depth - 1) q ancestors n unshut elsewhere (subst (λ (d : ℕ). IsCost q d ancestors n) (sym (less_one depth some)) cost)

pub own_ok : (depth : ℕ) (q : Asked) (ancestors : List Asked) (left now : ℕ) → depth ≢ 0 → left ≢ 0 → (IsShut q ancestors → ⊥) → (Reaches [] q → ⊥) → WhereEachRefutable q (depth - 1) ancestors (λ m. left - 1 ≤ now + m) → IsRefutable q depth ancestors → (n : ℕ) → IsCost q depth ancestors n → left ≤ now + n
own_ok depth q ancestors left now some any unshut elsewhere cost ref n h =
    let own = own_cost depth q ancestors n some unshut elsewhere h in omega (arith, cost (own_each depth q ancestors some unshut ref) own.0 own.1, own.2)

pub own_spent : (reasons : Reasons) (depth : ℕ) (q : Asked) (ancestors : List Asked) (left : ℕ) → depth ≢ 0 → left ≢ 0 → (IsShut q ancestors → ⊥) → (Reaches [] q → ⊥) → (AreCounted reasons q (depth - 1) ancestors → (m : ℕ) → IsCostBelow q (depth - 1) ancestors m → left - 1 < m) → IsCounted reasons q depth ancestors → (n : ℕ) → IsCost q depth ancestors n → left < n
own_spent reasons depth q ancestors left some any unshut elsewhere cost counted n h =
    let own = own_cost depth q ancestors n some unshut elsewhere h in
    let each : AreCounted reasons q (depth - 1) ancestors = elim counted [ inl by ↦ inl by | inr ref ↦ inr (own_each depth q ancestors some unshut ref) ] in
    omega (arith, cost each own.0 own.1, own.2)
