-- Lone and refutable queries, from their ends.
use Rattle.std.proofs.Common.{◌≡◌, ◌≢◌, ℕ, zero, suc, ◌+◌, ◌-◌, ◌*◌, ◌<◌, ◌≤◌, inl, inr, true, List, [], ◌∷◌, ◌++◌, length, reverse, refl, sym, ap, ◌∙◌, subst, arith}
use Rattle.std.specs.Prelude.{IfOk, Result, Ok, Err}
use Rattle.std.specs.List.{All, Contains}
use Rattle.std.proofs.Math.Nat.{mul-le-mul_left}
use Rattle.std.specs.Map.{keys_of, values_of}
use Rattle.std.proofs.lemmas.List.{length-append, map-append}
use Rattle.std.proofs.lemmas.List.Elements.{All-contains, All-nil, All-push, Contains-append_cases, Contains-append_left, Contains-append_right}
use Rattle.indexmap.specs.IndexMap.{values}
use Rattle.board_base.specs.declared.unmoves.Unmove.{Unmove}
use Rattle.general_lemmas.proofs.Lists.{contains-cases, contains-first, contains-none}
use Rattle.query_base.specs.Asked.{Asked}
use Rattle.query_base.specs.Reach.{Reaches}
use Rattle.static_rules.specs.Supports.{IsClosed}
use Rattle.unmove_gen.specs.Listed.{unmoves}
use Rattle.unmove_gen.specs.Predecessor.{predecessor}
use Rattle.cert_text.specs.Tree.{Tree, rule, back, expand, sketch}
use Rattle.cert_text.specs.Seen.{tree_of}
use Rattle.sketch_findings.specs.Proving.{Proves}
use Rattle.query_base.specs.Ancestors.{IsCovered}
use Rattle.retro_search.specs.Refutable.{IsRefutable, IsShut}
use Rattle.retro_search.specs.Costs.{IsCost}
use Rattle.retro_search.specs.Lone.{AreDifferent, AreExpanded, IsLone, IsLoneSearch, IsMemoCost, StandsIn, unmoves_in_all}
use Rattle.retro_search.specs.Eager.{IsEager}
use Rattle.retro_search.specs.RuleLines.{IsByRuleLines}
use Rattle.cert_text.specs.declared.reasons.Reason.TheVariants.{Line, Balance}
use Rattle.retro_search.specs.Heights.{height}
use Rattle.retro_search.specs.Kept.{IsKept, IsRefutation, IsSound, StandsAlone}
use Rattle.retro_search.specs.Attempts.{WhereLone}
use Rattle.retro_search.specs.Tidy.{HasRoomFor, IsFresh, IsKeptLow, Keeps, kept_in}
use Rattle.retro_search.specs.Good.{AreWhole, FitsIn, GoesWell, GoesWellBelow, IsDone, IsGood, IsGoodBelow, IsPaid, IsTidy}
use Rattle.retro_search.specs.declared.memos.Kept.{Kept}
use Rattle.retro_search.specs.declared.memos.Memo.{Memo}
use Rattle.retro_search.specs.declared.refutations.Refutation.{Refutation}
use Rattle.retro_search.specs.declared.runs.Run.{Run}
use Rattle.retro_search.specs.Unrefuted.{IfSpent, IfTooLarge}
use Rattle.retro_search.specs.declared.unrefuted.Unrefuted.{Unrefuted}
use Rattle.retro_search.proofs.Expansions.{if_spent, less_one}
use Rattle.retro_search.proofs.Costs.CostSums.{cost_below, cost_positive}
use Rattle.retro_search.proofs.Bound.Different.{different_moved, member_moved, sum-append, sum_within}
use Rattle.retro_search.proofs.Bound.Wholes.{tree_done, value_key, whole_more}
use Rattle.retro_search.proofs.Trees.LineCounts.{lined_counts}
use Rattle.retro_search.proofs.Trees.EagerTrees.{covered-by, eager_low, eager_small, lone-here, lone_unshut}

-- before a visit, all visits are paid for
pub paid_at_none : (ps : List Asked) (ancestors : List Asked) (run : Run) → FitsIn ps ancestors run → run.left ≡ 0 → IsPaid ps ancestors run.left run.memo
paid_at_none ps ancestors run f none =
    omega (arith, sum_within (ancestors ++ kept_in run.memo) ps f.different f.within, sum-append ancestors (kept_in run.memo), none)

-- a run after a visit
abbrev pub visited : Run → Run
visited run = record { left = run.left - 1; reasons = run.reasons; memo = run.memo; desk = run.desk; quest = run.quest }

-- a tree of one node
pub leaf_eager : (t : Tree) (q : Asked) (above : List Asked) → Proves t q above → height t ≡ 0 → (IsCovered q above → ⊥) → ((k : ℕ) → t ≡ back k → IsCovered q above) → IsEager t q
leaf_eager (rule r) q above p low lone covers = tt
leaf_eager (back k) q above p low lone covers = absurd (lone (covers k refl))
leaf_eager (sketch b) q above p low lone covers = tt
leaf_eager (expand kids) q above p low lone covers = absurd (omega arith)

-- it is a rule line that supports the query
eager-closed : (t : Tree) (q : Asked) (above : List Asked) → Proves t q above → height t ≡ 0 → IsEager t q → IsByRuleLines t → IsClosed q
eager-closed (rule (Line r)) q above p low eager lined = (r, p)
eager-closed (rule (Balance set d)) q above p low eager lined = absurd lined
eager-closed (back k) q above p low eager lined = absurd eager
eager-closed (sketch b) q above p low eager lined = absurd lined
eager-closed (expand kids) q above p low eager lined = absurd (omega arith)

stay : (ps : List Asked) (n : ℕ) (q : Asked) (depth : ℕ) (ancestors : List Asked) (run : Run) (r : Refutation) → run.left ≢ 0 → IsGood ps n q depth ancestors run → IsEager (tree_of r.node) q → r.lean ≡ 0 → r.lines ≤ n → IsDone (kept_in run.memo) q → GoesWell ps n q depth ancestors r run (visited run)
stay ps n q depth ancestors run r some g eager alone small done = record {
  eager = eager;
  alone = alone;
  small = small;
  fits = record { tidy = g.fits.tidy; different = g.fits.different; within = g.fits.within };
  done = done;
  stay = λ p there. there;
  visits = omega arith;
  trees = omega arith;
  lines = omega arith;
}

-- a query that is shut
pub shut_well : (ps : List Asked) (n : ℕ) (q : Asked) (depth : ℕ) (ancestors : List Asked) (run : Run) (r : Refutation) → run.left ≢ 0 → IsGood ps n q depth ancestors run → IsRefutation r q 0 ancestors → r.lines ≡ 1 → IsByRuleLines (tree_of r.node) → ((IsCovered q ancestors → ⊥) → (r.lean ≡ 0) × IsEager (tree_of r.node) q) → GoesWell ps n q depth ancestors r run (visited run)
shut_well ps n q depth ancestors run r some g is one lined own =
    let o = own (lone-here depth q ancestors g.lone) in
    let closed = eager-closed (tree_of r.node) q _ is.proves (omega (arith, is.high, is.low)) o.1 lined in
    stay ps n q depth ancestors run r some g o.1 o.0 (omega (arith, one, cost_positive depth q ancestors n g.cost)) (inl closed)

-- a query of which a tree is kept
pub kept_well : (ps : List Asked) (n : ℕ) (q : Asked) (depth : ℕ) (ancestors : List Asked) (run : Run) (r : Refutation) (k : Kept) → run.left ≢ 0 → IsGood ps n q depth ancestors run → IsSound run.memo → k.query ≡ q → Contains (values run.memo.trees) k → IsByRuleLines (tree_of k.node) → tree_of r.node ≡ tree_of k.node → r.lean ≡ 0 → r.lines ≡ k.lines → GoesWell ps n q depth ancestors r run (visited run)
kept_well ps n q depth ancestors run r k some g sound own among lined tree alone counted =
    let eager : IsEager (tree_of k.node) q = subst (λ (a : Asked). IsEager (tree_of k.node) a) own (All-contains (λ x. IsEager (tree_of x.node) x.query) (values run.memo.trees) k g.fits.tidy.eager among) in
    let stands : StandsAlone (tree_of k.node) k.query k.height k.lines = All-contains IsKept (values run.memo.trees) k sound.each among in
    let proves : Proves (tree_of k.node) q [] = subst (λ (a : Asked). Proves (tree_of k.node) a []) own stands.proves in
    let few = eager_small (tree_of k.node) q depth ancestors [] n eager proves g.lone g.refutable g.cost in
    let there : Contains (kept_in run.memo) q = subst (λ (a : Asked). Contains (kept_in run.memo) a) own (value_key run.memo.trees.entries k g.fits.tidy.own among) in
    stay ps n q depth ancestors run r some g (subst (λ (t : Tree). IsEager t q) (sym tree) eager) alone (omega (arith, few, stands.counted, counted, lined_counts (tree_of k.node) lined)) (inr there)

-- what is kept for a lone and refutable query is low
low-kept : (q : Asked) (depth : ℕ) (ancestors : List Asked) (k : Kept) → IsLone q depth ancestors → IsRefutable q depth ancestors → IsEager (tree_of k.node) k.query → StandsAlone (tree_of k.node) k.query k.height k.lines → k.query ≡ q → k.height ≤ depth
low-kept q depth ancestors k lone ref eager stands own =
    let low = eager_low (tree_of k.node) q depth ancestors [] (subst (λ (a : Asked). IsEager (tree_of k.node) a) own eager) (subst (λ (a : Asked). Proves (tree_of k.node) a []) own stands.proves) lone ref in
    omega (arith, low, stands.high)

-- so it is found
pub kept_low : (q : Asked) (depth : ℕ) (ancestors : List Asked) (m : Memo) → IsLone q depth ancestors → IsRefutable q depth ancestors → IsTidy m → IsSound m → Contains (kept_in m) q → IsKeptLow m q depth
kept_low q depth ancestors m lone ref tidy sound there = record {
  on = tidy.on;
  own = tidy.own;
  there = there;
  low = λ i d inside own. low-kept q depth ancestors _ lone ref (tidy.eager i d inside) (sound.each i d inside) own;
}

stands-itself : (depth : ℕ) (q : Asked) → StandsIn q q depth
stands-itself zero q = refl
stands-itself (suc depth) q = inl refl

-- a query of which none is kept is different from all above it and all that are kept
fits_below : (ps : List Asked) (n : ℕ) (q : Asked) (depth : ℕ) (ancestors : List Asked) (run : Run) → IsGood ps n q depth ancestors run → (IsClosed q → ⊥) → (Contains (kept_in run.memo) q → ⊥) → FitsIn ps (q ∷ ancestors) (visited run)
fits_below ps n q depth ancestors run g unclosed away = record {
  tidy = g.fits.tidy;
  different = (
    λ there. elim (Contains-append_cases ancestors (kept_in run.memo) q there) [
      | inl above ↦ lone-here depth q ancestors g.lone (covered-by ancestors q above)
      | inr kept ↦ away kept
    ],
    g.fits.different,
  );
  within = λ p there. elim (contains-cases q (ancestors ++ kept_in run.memo) p there) [
    | inl same ↦ subst (λ (a : Asked). Contains ps a) same (g.within q (stands-itself depth q) unclosed)
    | inr later ↦ g.fits.within p later
  ];
}

refutable-below : (q : Asked) (below : ℕ) (ancestors : List Asked) → (IsShut q ancestors → ⊥) → IsRefutable q (suc below) ancestors → (u : Unmove) → Contains (unmoves q) u → IsRefutable (predecessor q u) below (q ∷ ancestors)
refutable-below q below ancestors unshut (inl shut) u there = absurd (unshut shut)
refutable-below q below ancestors unshut (inr ref) u there = ref.1 u there

-- a good query that is expanded
pub good_below : (ps : List Asked) (n : ℕ) (q : Asked) (below : ℕ) (ancestors : List Asked) (run : Run) → IsGood ps n q (suc below) ancestors run → (IsClosed q → ⊥) → (Reaches [] q → ⊥) → (Contains (kept_in run.memo) q → ⊥) → (m : ℕ) × (n ≡ 1 + m) × IsGoodBelow ps m q below ancestors (visited run)
good_below ps n q below ancestors run g unclosed elsewhere away =
    let unshut = lone_unshut (suc below) q ancestors g.lone unclosed in
    let c = cost_below below q ancestors n unshut elsewhere g.cost in
    let wide : (suc below) * n ≡ below * c.0 + below + c.0 + 1 = let p : (suc below) * n ≡ (suc below) * (1 + c.0) = ap (λ (x : ℕ). (suc below) * x) c.2 in omega arith in (
      c.0,
      c.2,
      record {
        lone = g.lone.1 unclosed;
        refutable = refutable-below q below ancestors unshut g.refutable;
        unclosed = unclosed;
        cost = c.1;
        within = λ u listed p stands open_. g.within p (inr (unclosed, (u, listed, stands))) open_;
        fits = fits_below ps n q (suc below) ancestors run g unclosed away;
        few = omega (arith, g.few, c.2);
        trees = omega (arith, g.trees, c.2);
        lines = omega (arith, g.lines, wide);
      },
    )

-- after the tree of an expanded query is kept
pub kept_after : (ps : List Asked) (n m : ℕ) (q : Asked) (below : ℕ) (ancestors : List Asked) (run expanded new : Run) (r : Refutation) → run.left ≢ 0 → n ≡ 1 + m → IsGood ps n q (suc below) ancestors run → GoesWellBelow ps m q below ancestors r (visited run) expanded → new.left ≡ expanded.left → Keeps expanded.memo q r new.memo → new.memo.on ≡ true → GoesWell ps n q (suc below) ancestors r run new
kept_after ps n m q below ancestors run expanded new r some size g w left k on =
    let keys_are : kept_in new.memo ≡ kept_in expanded.memo ++ q ∷ [] = ap keys_of k.entries ∙ map-append (λ (e : Asked × Kept). e.0) expanded.memo.trees.entries ((q, k.kept) ∷ []) in
    let values_are : values new.memo.trees ≡ values expanded.memo.trees ++ k.kept ∷ [] = ap values_of k.entries ∙ map-append (λ (e : Asked × Kept). e.1) expanded.memo.trees.entries ((q, k.kept) ∷ []) in
    let eager : IsEager (tree_of k.kept.node) k.kept.query = subst (λ (a : Asked). IsEager (tree_of k.kept.node) a) (sym k.query_is) (subst (λ (t : Tree). IsEager t q) (sym k.tree) w.eager) in
    let wide : (suc below) * n ≡ below * m + below + m + 1 = let p : (suc below) * n ≡ (suc below) * (1 + m) = ap (λ (x : ℕ). (suc below) * x) size in omega arith in
    record {
      eager = w.eager;
      alone = w.alone;
      small = omega (arith, w.small, size);
      fits = record {
        tidy = record {
          on = on;
          own = subst (λ (es : List (Asked × Kept)). All (λ e. e.1.query ≡ e.0) es) (sym k.entries) (All-push (λ e. e.1.query ≡ e.0) expanded.memo.trees.entries (q, k.kept) w.fits.tidy.own k.query_is);
          eager = subst (λ (vs : List Kept). All (λ x. IsEager (tree_of x.node) x.query) vs) (sym values_are) (All-push (λ x. IsEager (tree_of x.node) x.query) (values expanded.memo.trees) k.kept w.fits.tidy.eager eager);
          whole = subst AreWhole (sym keys_are) (whole_more (kept_in expanded.memo) q w.fits.tidy.whole w.done);
        };
        different = subst (λ (ks : List Asked). AreDifferent (ancestors ++ ks)) (sym keys_are) (different_moved ancestors (kept_in expanded.memo) q w.fits.different.0 w.fits.different.1);
        within = λ p there. w.fits.within p (member_moved ancestors (kept_in expanded.memo) q p (subst (λ (ks : List Asked). Contains (ancestors ++ ks) p) keys_are there));
      };
      done = inr (subst (λ (ks : List Asked). Contains ks q) (sym keys_are) (Contains-append_right (kept_in expanded.memo) (q ∷ []) q (contains-first q [])));
      stay = λ p there. subst (λ (ks : List Asked). Contains ks p) (sym keys_are) (Contains-append_left (kept_in expanded.memo) (q ∷ []) p (w.stay p there));
      visits = omega (arith, w.visits, left, ap unmoves_in_all keys_are, sum-append (kept_in expanded.memo) (q ∷ []));
      trees = omega (arith, w.trees, ap length keys_are, length-append (kept_in expanded.memo) (q ∷ []), size);
      lines = omega (arith, w.lines, k.lines, w.small, wide);
    }

-- there is room for it
pub room_for : (ps : List Asked) (n m : ℕ) (q : Asked) (below : ℕ) (ancestors : List Asked) (run expanded : Run) (r : Refutation) → n ≡ 1 + m → IsGoodBelow ps m q below ancestors (visited run) → GoesWellBelow ps m q below ancestors r (visited run) expanded → HasRoomFor expanded.memo q r.lines
room_for ps n m q below ancestors run expanded r size g w = record {
  on = w.fits.tidy.on;
  absent = λ there. w.fits.different.0 (Contains-append_right ancestors (kept_in expanded.memo) q there);
  few = omega (arith, w.trees, g.trees);
  short = omega (arith, w.lines, w.small, g.lines);
}

-- a good query that is expanded, by its own depth
pub good_at : (ps : List Asked) (n : ℕ) (q : Asked) (depth : ℕ) (ancestors : List Asked) (run : Run) → depth ≢ 0 → IsGood ps n q depth ancestors run → (IsShut q ancestors → ⊥) → (Reaches [] q → ⊥) → IsSound run.memo → (IsKeptLow run.memo q depth → ⊥) → (m : ℕ) × (n ≡ 1 + m) × IsGoodBelow ps m q (depth - 1) ancestors (visited run)
good_at ps n q depth ancestors run some g unshut elsewhere sound missed =
    good_below ps n q (depth - 1) ancestors run (subst (λ (d : ℕ). IsGood ps n q d ancestors run) (sym (less_one depth some)) g) (λ closed. unshut (inl closed)) elsewhere (λ there. missed (kept_low q depth ancestors run.memo g.lone g.refutable g.fits.tidy sound there))

pub well_at : (ps : List Asked) (n m : ℕ) (q : Asked) (depth : ℕ) (ancestors : List Asked) (run expanded new : Run) (r : Refutation) → depth ≢ 0 → run.left ≢ 0 → n ≡ 1 + m → IsGood ps n q depth ancestors run → IsGoodBelow ps m q (depth - 1) ancestors (visited run) → GoesWellBelow ps m q (depth - 1) ancestors r (visited run) expanded → new.left ≡ expanded.left → (r.lean ≡ 0 → HasRoomFor expanded.memo q r.lines → Keeps expanded.memo q r new.memo) → new.memo.on ≡ expanded.memo.on → GoesWell ps n q depth ancestors r run new
well_at ps n m q depth ancestors run expanded new r some any size g below w left keeps mode =
    let e : suc (depth - 1) ≡ depth = less_one depth some in
    let kept = keeps w.alone (room_for ps n m q (depth - 1) ancestors run expanded r size below w) in
    subst (λ (d : ℕ). GoesWell ps n q d ancestors r run new) e (kept_after ps n m q (depth - 1) ancestors run expanded new r any size (subst (λ (d : ℕ). IsGood ps n q d ancestors run) (sym e) g) w left kept (mode ∙ w.fits.tidy.on))

pub paid_at : (ps ancestors : List Asked) (run : Run) → run.left ≢ 0 → IsPaid ps ancestors (run.left - 1 + 1) run.memo → IsPaid ps ancestors run.left run.memo
paid_at ps ancestors run some paid = omega arith

pub if_ok_both : {A E : Type 0} (r : Result A E) (P Q R : A → Type 0) → ((a : A) → P a → Q a → R a) → IfOk r P → IfOk r Q → IfOk r R
if_ok_both {A} {E} (Ok a) P Q R f p q = f a p q
if_ok_both {A} {E} (Err e) P Q R f p q = tt

small_product : (depth n : ℕ) → depth ≤ 64 → n ≤ 30000 → depth * n ≤ 1920000
small_product depth n low few = let p : depth * n ≤ depth * 30000 = mul-le-mul_left depth few in omega arith

-- the start of a search that keeps trees
pub good_root : (ps : List Asked) (n : ℕ) (q : Asked) (depth : ℕ) (run : Run) → IsFresh run.memo → depth ≤ 64 → IsLone q depth [] → IsRefutable q depth [] → IsCost q depth [] n → n ≤ 30000 → AreExpanded ps q depth → IsGood ps n q depth [] run
good_root ps n q depth run fresh shallow lone ref cost few expanded =
    let keys_are : kept_in run.memo ≡ [] = ap keys_of fresh.empty in
    let values_are : values run.memo.trees ≡ [] = ap values_of fresh.empty in
    record {
      lone = lone;
      refutable = ref;
      cost = cost;
      within = λ p stands open_. (expanded.each p).1 (stands, open_);
      fits = record {
        tidy = record {
          on = fresh.on;
          own = subst (λ (es : List (Asked × Kept)). All (λ e. e.1.query ≡ e.0) es) (sym fresh.empty) (All-nil (λ (e : Asked × Kept). e.1.query ≡ e.0));
          eager = subst (λ (vs : List Kept). All (λ x. IsEager (tree_of x.node) x.query) vs) (sym values_are) (All-nil (λ (x : Kept). IsEager (tree_of x.node) x.query));
          whole = subst AreWhole (sym keys_are) (λ p there u listed. absurd (contains-none p there));
        };
        different = subst AreDifferent (sym keys_are) tt;
        within = λ p there. absurd (contains-none p (subst (λ (ks : List Asked). Contains ks p) keys_are there));
      };
      few = few;
      trees = omega (arith, ap length keys_are);
      lines = omega (arith, fresh.blank, small_product depth n shallow few);
    }

pub paid_root : (ps : List Asked) (nodes : ℕ) (m : Memo) → m.trees.entries ≡ [] → IsPaid ps [] nodes m → nodes ≤ unmoves_in_all ps
paid_root ps nodes m empty paid = omega (arith, ap unmoves_in_all (ap keys_of empty))

-- the first visit of a search that keeps trees
pub root_paid : (s : Unrefuted) (q : Asked) (depth : ℕ) (run : Run) (above : List Asked) → above ≡ [] → IsFresh run.memo → depth ≤ 64 → ((ps : List Asked) (n : ℕ) → IsGood ps n q depth (reverse above) run → IfSpent s (IsPaid ps (reverse above) run.left run.memo)) → WhereLone q depth (λ ps. IfSpent s (run.left ≤ unmoves_in_all ps))
root_paid s q depth run above none fresh shallow paid ps n expanded l =
    let here : IsGood ps n q depth [] run → IfSpent s (IsPaid ps [] run.left run.memo) = subst (λ (up : List Asked). IsGood ps n q depth (reverse up) run → IfSpent s (IsPaid ps (reverse up) run.left run.memo)) none (paid ps n) in
    if_spent s _ _ (paid_root ps run.left run.memo fresh.empty) (here (good_root ps n q depth run fresh shallow l.lone l.refutable l.cost l.few expanded))

pub root_small : (s : Unrefuted) (q : Asked) (depth : ℕ) (run : Run) (above : List Asked) → above ≡ [] → IsFresh run.memo → depth ≤ 64 → ((ps : List Asked) (n : ℕ) → IsGood ps n q depth (reverse above) run → IfTooLarge s ⊥) → WhereLone q depth (λ ps. IfTooLarge s ⊥)
root_small s q depth run above none fresh shallow small ps n expanded l =
    let here : IsGood ps n q depth [] run → IfTooLarge s ⊥ = subst (λ (up : List Asked). IsGood ps n q depth (reverse up) run → IfTooLarge s ⊥) none (small ps n) in
    here (good_root ps n q depth run fresh shallow l.lone l.refutable l.cost l.few expanded)

-- a search that keeps trees and refutes has as many visits as the memo cost
pub root_afforded : (r : Refutation) (q : Asked) (depth : ℕ) (run new : Run) (above : List Asked) → above ≡ [] → IsFresh run.memo → depth ≤ 64 → ((ps : List Asked) (n : ℕ) → IsGood ps n q depth (reverse above) run → GoesWell ps n q depth (reverse above) r run new) → WhereLone q depth (λ ps. unmoves_in_all ps < run.left)
root_afforded r q depth run new above none fresh shallow well ps n expanded l =
    let here : IsGood ps n q depth [] run → GoesWell ps n q depth [] r run new = subst (λ (up : List Asked). IsGood ps n q depth (reverse up) run → GoesWell ps n q depth (reverse up) r run new) none (well ps n) in
    let w = here (good_root ps n q depth run fresh shallow l.lone l.refutable l.cost l.few expanded) in
    let kept : (p : Asked) → Contains ps p → Contains (kept_in new.memo) p = λ p there.
    let e = (expanded.each p).0 there in
    elim (tree_done depth p q (kept_in new.memo) w.fits.tidy.whole w.done e.0) [ inl closed ↦ absurd (e.1 closed) | inr inside ↦ inside ] in
    omega (arith, w.visits, sum_within ps (kept_in new.memo) expanded.different kept, ap unmoves_in_all (ap keys_of fresh.empty))

-- so it had no fewer than the memo cost
pub memo_afforded : (nodes : ℕ) (q : Asked) (depth : ℕ) → WhereLone q depth (λ ps. unmoves_in_all ps < nodes) → (n k : ℕ) → IsLoneSearch q depth n → IsMemoCost q depth k → k ≤ nodes
memo_afforded nodes q depth afforded n k l (ps, expanded, e) = omega (arith, afforded ps n expanded l, e)

-- a search that keeps trees and runs out of visits had fewer than the memo cost
pub memo_spent : (nodes : ℕ) (q : Asked) (depth : ℕ) → WhereLone q depth (λ ps. nodes ≤ unmoves_in_all ps) → (n k : ℕ) → IsLoneSearch q depth n → IsMemoCost q depth k → nodes < k
memo_spent nodes q depth paid n k l (ps, expanded, e) = omega (arith, paid ps n expanded l, e)
