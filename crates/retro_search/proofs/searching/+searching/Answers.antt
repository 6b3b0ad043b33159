use Rattle.std.proofs.Common.{◌≡◌, ℕ, Bool, IsTrue, false, ◌↔◌, inl, inr, List, [], ◌∷◌, ◌+◌, ◌-◌, ◌≤◌, length, reverse, sym, ap, ◌∙◌, subst, true≢false, arith, length-append}
use Rattle.std.proofs.lemmas.Bool.{both_ways}
use Rattle.std.proofs.lemmas.List.Elements.{All-contains, Contains-append_right}
use Rattle.std.specs.List.{Contains}
use Rattle.board_base.specs.declared.unmoves.Unmove.{Unmove}
use Rattle.general_lemmas.proofs.Lasts.{pushed}
use Rattle.general_lemmas.proofs.Lists.{contains-first}
use Rattle.query_base.specs.Asked.{Asked}
use Rattle.query_base.specs.Reach.{Reaches}
use Rattle.query_base.specs.Ancestors.{IsCovered}
use Rattle.retro_search.specs.Refutable.{IsShut}
use Rattle.retro_search.specs.Eager.{IsEager}
use Rattle.retro_search.specs.Good.{GoesWellBelow, IsGoodBelow, IsPaid}
use Rattle.retro_search.specs.Kept.{IsRefutation, KeepsRuleLines}
use Rattle.retro_search.specs.Tidy.{IsKeptLow}
use Rattle.retro_search.specs.RuleLines.{IsByRuleLines}
use Rattle.retro_search.specs.Searched.{AreCounted, WhereEachRefutable}
use Rattle.retro_search.specs.Unrefuted.{IfSpent}
use Rattle.retro_search.specs.declared.memos.Kept.{Kept}
use Rattle.retro_search.specs.declared.runs.Reasons.{Reasons}
use Rattle.retro_search.specs.declared.runs.Run.{Run}
use Rattle.retro_search.proofs.Roots.{if_ok}
use Rattle.indexmap.specs.IndexMap.{values}
use Rattle.cert_text.specs.Seen.{tree_of}
use Rattle.retro_search.proofs.Costs.CostSums.{cost_positive}
use Rattle.retro_search.proofs.Expansions.{deeper_open, deeper_unsettled, expands_more, expands_none, expands_open, expands_spent, expands_unsettled, if_large, if_spent, listed_in, no_open, ok_always, own_ok, own_spent}
use Rattle.retro_search.proofs.Costs.WholeSizes.{size_positive}
use Rattle.retro_search.proofs.Sizing.{outsized, sized_all, sized_more, sized_none, sized_ok, sized_spent}
use Rattle.retro_search.proofs.Bound.GoodSteps.{good_all, good_more, good_none, good_room, good_small, good_spent}
use Rattle.retro_search.proofs.Bound.Goods.{good_at, if_ok_both, kept_well, paid_at, paid_at_none, shut_well, visited, well_at}
use Rattle.retro_search.proofs.Lines.OpenLines.{if_open, leaf_open, stop_open}
use Rattle.retro_search.proofs.Lines.OpenEnds.{leaf_unsettled}
use Rattle.sketch_findings.proofs.Unsketched.{plain-unreached}
use Rattle.retro_search.proofs.Pricing as pricing
use Rattle.retro_search.proofs.Pricing.{further, leaf_unpriced, over_balance, stop_unpriced}
use Rattle.retro_search.proofs.searching.+searching.Goals as goal

-- where it isn't told that none is left, some is
some_left : (b : Bool) (left : ℕ) → IsTrue b ↔ (left ≡ 0) → b ≡ false → left ≡ 0 → ⊥
some_left b left told unsaid empty = both_ways b unsaid (told.1 empty)

pub expand-loop-unmove-init : goal.expand-loop-unmove-init
expand-loop-unmove-init t c = record {
  expands = expands_none c.args.query.now c.args.below _ c.new-unmoves.result c.new-children.result c.args.run.now c.new-unmoves.ensures c.new-children.ensures.kids c.new-children.ensures.numbers c.requires.sound c.requires.lined;
  well = λ by ps m g. good_none ps m c.args.query.now c.args.below _ c.new-unmoves.result c.new-children.result c.args.run.now c.new-unmoves.ensures c.new-children.ensures.kids c.new-children.ensures.numbers g;
  sized = sized_none c.args.query.now c.args.below _ c.new-unmoves.result c.args.run.now.left c.new-unmoves.ensures;
  kept = c.in-Ok.ensures.items;
}

pub expand-pred-requires : goal.expand-pred-requires
expand-pred-requires t c =
    let x = c.loop-unmove.invariant.expands in
    let left : Contains c.loop-unmove.unmoves c.in-Some.unmove = subst (λ (l : List Unmove). Contains l c.in-Some.unmove) (sym c.in-Some.ensures) (contains-first c.in-Some.unmove c.next.new.self) in
    subst (λ (l : List Unmove). Contains l c.in-Some.unmove) (sym x.parts) (Contains-append_right x.done c.loop-unmove.unmoves c.in-Some.unmove left)

pub expand-returns-in-Err-search-clause-unsettled : goal.expand-returns-in-Err-search-clause-unsettled
expand-returns-in-Err-search-clause-unsettled t c =
    let up = pushed c.args.ancestors.now.items _ c.args.query.now c.loop-unmove.invariant.kept in
    expands_unsettled c.args.query.now c.args.below _ c.loop-unmove.unmoves c.next.new.self c.loop-unmove.children c.loop-unmove.run c.args.run.now c.in-Some.unmove c.pred.result _ c.in-Err-search.stop c.lengthened.result c.pred.ensures up c.loop-unmove.invariant.expands c.in-Some.ensures c.requires.elsewhere c.requires.unshut c.lengthened.ensures c.in-Err-search.ensures.unsettled

pub expand-returns-in-Err-add-clause-unsettled : goal.expand-returns-in-Err-add-clause-unsettled
expand-returns-in-Err-add-clause-unsettled t c = no_open c.in-Err-add.stop _ c.in-Err-add.ensures.closed

pub expand-returns-in-Err-search-clause-unrefuted : goal.expand-returns-in-Err-search-clause-unrefuted
expand-returns-in-Err-search-clause-unrefuted t c =
    let up = pushed c.args.ancestors.now.items _ c.args.query.now c.loop-unmove.invariant.kept in
    expands_open c.args.query.now c.args.below _ c.loop-unmove.unmoves c.next.new.self c.loop-unmove.children c.loop-unmove.run c.args.run.now c.in-Some.unmove c.pred.result _ c.in-Err-search.stop c.lengthened.result c.pred.ensures up c.loop-unmove.invariant.expands c.in-Some.ensures c.requires.elsewhere c.requires.unshut c.lengthened.ensures c.in-Err-search.ensures.unrefuted

pub expand-returns-in-Err-search-clause-spent : goal.expand-returns-in-Err-search-clause-spent
expand-returns-in-Err-search-clause-spent t c =
    let up = pushed c.args.ancestors.now.items _ c.args.query.now c.loop-unmove.invariant.kept in
    expands_spent c.args.query.now c.args.below _ c.loop-unmove.unmoves c.next.new.self c.loop-unmove.children c.loop-unmove.run c.args.run.now c.in-Some.unmove c.pred.result _ c.in-Err-search.stop c.lengthened.result c.pred.ensures up c.loop-unmove.invariant.expands c.in-Some.ensures c.lengthened.ensures c.in-Err-search.ensures.spent

pub expand-loop-unmove-preserved : goal.expand-loop-unmove-preserved
expand-loop-unmove-preserved t c =
    let up = pushed c.args.ancestors.now.items _ c.args.query.now c.loop-unmove.invariant.kept in
    record {
      expands = expands_more c.args.query.now c.args.below _ c.loop-unmove.unmoves c.next.new.self c.loop-unmove.children c.add.new.self c.loop-unmove.run c.search.new.run c.args.run.now c.in-Some.unmove c.in-Ok-search.found c.pred.result _ c.pred.ensures up c.loop-unmove.invariant.expands c.in-Some.ensures (record {
        kids = c.in-Ok-add.ensures.kids;
        lean = c.in-Ok-add.ensures.lean;
        highest = c.in-Ok-add.ensures.highest;
        lines = c.in-Ok-add.ensures.lines;
        room = c.in-Ok-add.ensures.room;
      }) c.in-Ok-search.ensures.refuted c.in-Ok-search.ensures.lined c.in-Ok-search.ensures.keeps c.in-Ok-search.ensures.plain c.in-Ok-search.ensures.twice c.in-Ok-search.ensures.on c.in-Ok-search.ensures.cost;
      well = λ by ps m g. good_more ps m c.args.query.now c.args.below _ c.loop-unmove.unmoves c.next.new.self c.loop-unmove.children c.add.new.self c.loop-unmove.run c.search.new.run c.args.run.now c.in-Some.unmove c.in-Ok-search.found c.pred.result _ c.pred.ensures up (listed_in _ _ _ _ _ c.loop-unmove.invariant.expands.parts c.in-Some.ensures) g (c.loop-unmove.invariant.well by ps m g) c.in-Some.ensures (record {
        kids = c.in-Ok-add.ensures.kids;
        lean = c.in-Ok-add.ensures.lean;
        highest = c.in-Ok-add.ensures.highest;
        lines = c.in-Ok-add.ensures.lines;
        room = c.in-Ok-add.ensures.room;
      }) (c.in-Ok-search.ensures.well (c.loop-unmove.invariant.expands.on.reasons ∙ by));
      sized = sized_more c.args.query.now c.args.below _ c.loop-unmove.unmoves c.next.new.self c.loop-unmove.run.left c.search.new.run.left c.args.run.now.left c.in-Some.unmove c.pred.result _ c.pred.ensures up c.loop-unmove.invariant.sized c.in-Some.ensures c.in-Ok-search.ensures.size;
      kept = c.in-Ok-search.ensures.kept ∙ c.loop-unmove.invariant.kept;
    }

pub expand-returns-in-Err-search-clause-deep : goal.expand-returns-in-Err-search-clause-deep
expand-returns-in-Err-search-clause-deep t c =
    stop_open c.in-Err-search.stop c.lengthened.result c.in-Some.unmove _ _ (λ kid line grown same short. omega (arith, short, ap length grown, length-append kid.back.items (c.in-Some.unmove ∷ []), c.loop-unmove.invariant.expands.on.fewer)) c.lengthened.ensures c.in-Err-search.ensures.deep

pub expand-returns-in-Err-add-clause-deep : goal.expand-returns-in-Err-add-clause-deep
expand-returns-in-Err-add-clause-deep t c = no_open c.in-Err-add.stop _ c.in-Err-add.ensures.closed

pub search-returns-in-Err-expand-clause-deep : goal.search-returns-in-Err-expand-clause-deep
search-returns-in-Err-expand-clause-deep t c = if_open c.in-Err-expand.stop _ _ (λ line short. omega (arith, short, (some_left c.is_spent.result _ c.is_spent.ensures c.if-is_spent.false), c.by_reason.ensures.same.left)) c.in-Err-expand.ensures.deep

pub expand-returns-in-Err-add-clause-unrefuted : goal.expand-returns-in-Err-add-clause-unrefuted
expand-returns-in-Err-add-clause-unrefuted t c by = no_open c.in-Err-add.stop _ c.in-Err-add.ensures.closed

pub expand-returns-in-Err-add-clause-spent : goal.expand-returns-in-Err-add-clause-spent
expand-returns-in-Err-add-clause-spent t c = if_spent c.in-Err-add.stop _ _ (λ (h : ⊥). absurd h) c.in-Err-add.ensures.unspent

-- what is known of the query where it isn't shut and isn't the array's
unshut-here : (q : Asked) (above up : List Asked) → above ≡ up → (IsShut q (reverse above) → ⊥) → IsShut q (reverse up) → ⊥
unshut-here q above up e = subst (λ (l : List Asked). IsShut q (reverse l) → ⊥) e

pub search-returns-then-at_array-clause-unsettled : goal.search-returns-then-at_array-clause-unsettled
search-returns-then-at_array-clause-unsettled t c =
    leaf_unsettled _ c.args.depth c.args.query.now _ c.new.ensures.items c.is_array-at_array.ensures (unshut-here _ _ _ c.deref.ensures.value c.in_default.ensures.shut) (inr (c.is_array-at_array.ensures.0 c.if-at_array.true))

pub search-returns-then-at_array-clause-unrefuted : goal.search-returns-then-at_array-clause-unrefuted
search-returns-then-at_array-clause-unrefuted t c by =
    leaf_open _ c.args.depth c.args.query.now _ c.new.ensures.items c.is_array-at_array.ensures (unshut-here _ _ _ c.deref.ensures.value c.in_default.ensures.shut) (inr (c.is_array-at_array.ensures.0 c.if-at_array.true))

pub search-returns-then-depth-eq0-clause-unsettled : goal.search-returns-then-depth-eq0-clause-unsettled
search-returns-then-depth-eq0-clause-unsettled t c =
    leaf_unsettled _ c.args.depth c.args.query.now _ c.new-then-depth-eq0.ensures.items c.is_array-at_array.ensures (unshut-here _ _ _ c.deref.ensures.value c.in_default.ensures.shut) (inl c.if-depth-eq0.true)

pub search-returns-then-depth-eq0-clause-unrefuted : goal.search-returns-then-depth-eq0-clause-unrefuted
search-returns-then-depth-eq0-clause-unrefuted t c by =
    leaf_open _ c.args.depth c.args.query.now _ c.new-then-depth-eq0.ensures.items c.is_array-at_array.ensures (unshut-here _ _ _ c.deref.ensures.value c.in_default.ensures.shut) (inl c.if-depth-eq0.true)

pub search-returns-in-Some-find-clause-cost : goal.search-returns-in-Some-find-clause-cost
search-returns-in-Some-find-clause-cost t c =
    ok_always c.taken.result _ (λ ref n h. omega (arith, cost_positive c.args.depth c.args.query.now (reverse c.args.ancestors.now.items) n h, (some_left c.is_spent.result _ c.is_spent.ensures c.if-is_spent.false)))

pub search-returns-in-Some-reason-clause-cost : goal.search-returns-in-Some-reason-clause-cost
search-returns-in-Some-reason-clause-cost t c =
    ok_always c.kept_alone.result _ (λ ref n h. omega (arith, cost_positive c.args.depth c.args.query.now (reverse c.args.ancestors.now.items) n h, (some_left c.is_spent.result _ c.is_spent.ensures c.if-is_spent.false), c.by_reason.ensures.same.left, c.kept_alone.ensures.on.1))

pub search-returns-then-keep_alone-clause-cost : goal.search-returns-then-keep_alone-clause-cost
search-returns-then-keep_alone-clause-cost t c ref n h =
    let q : Asked = c.args.query.now in
    let above : List Asked = reverse c.args.ancestors.now.items in
    let elsewhere : Reaches [] q → ⊥ = λ here. both_ways _ c.if-at_array.false (c.is_array-at_array.ensures.1 here) in
    let left : c.by_reason.new.run.left ≡ c.args.run.now.left - 1 = c.by_reason.ensures.same.left in
    let below : WhereEachRefutable q (c.args.depth - 1) above (λ m. c.args.run.now.left - 1 ≤ c.expand.new.run.left + m) = subst (λ (l : ℕ). WhereEachRefutable q (c.args.depth - 1) above (λ m. l ≤ c.expand.new.run.left + m)) left c.in-Ok-expand.ensures.cost in
    let own = own_ok c.args.depth q above c.args.run.now.left c.expand.new.run.left c.if-depth-eq0.false (some_left c.is_spent.result _ c.is_spent.ensures c.if-is_spent.false) (unshut-here _ _ _ c.deref.ensures.value c.in_default.ensures.shut) elsewhere below ref n h in
    let same : c.keep_alone.new.run.left ≡ c.expand.new.run.left = c.keep_alone.ensures.on.1 in
    omega (arith, own, same)

pub search-returns-in-Err-expand-clause-unrefuted : goal.search-returns-in-Err-expand-clause-unrefuted
search-returns-in-Err-expand-clause-unrefuted t c by =
    deeper_open c.args.depth c.args.query.now _ c.in-Err-expand.stop c.if-depth-eq0.false (c.in-Err-expand.ensures.unrefuted (c.by_reason.ensures.same.reasons ∙ by))

pub search-returns-in-Err-expand-clause-unsettled : goal.search-returns-in-Err-expand-clause-unsettled
search-returns-in-Err-expand-clause-unsettled t c =
    deeper_unsettled c.args.depth c.args.query.now _ c.in-Err-expand.stop c.if-depth-eq0.false c.in-Err-expand.ensures.unsettled

pub search-returns-in-Err-expand-clause-spent : goal.search-returns-in-Err-expand-clause-spent
search-returns-in-Err-expand-clause-spent t c =
    let q : Asked = c.args.query.now in
    let above : List Asked = reverse c.args.ancestors.now.items in
    let elsewhere : Reaches [] q → ⊥ = λ here. both_ways _ c.if-at_array.false (c.is_array-at_array.ensures.1 here) in
    if_spent c.in-Err-expand.stop _ _ (λ cost. own_spent c.args.run.now.reasons c.args.depth q above c.args.run.now.left c.if-depth-eq0.false (some_left c.is_spent.result _ c.is_spent.ensures c.if-is_spent.false) (unshut-here _ _ _ c.deref.ensures.value c.in_default.ensures.shut) elsewhere (λ counted m sums. let s = cost (subst (λ (r : Reasons). AreCounted r q (c.args.depth - 1) above) (sym c.by_reason.ensures.same.reasons) counted) m sums in omega (arith, s, c.by_reason.ensures.same.left))) c.in-Err-expand.ensures.spent

pub expand-returns-in-Err-search-clause-paid : goal.expand-returns-in-Err-search-clause-paid
expand-returns-in-Err-search-clause-paid t c by ps m g =
    let up = pushed c.args.ancestors.now.items _ c.args.query.now c.loop-unmove.invariant.kept in
    good_spent ps m c.args.query.now c.args.below _ c.loop-unmove.unmoves c.next.new.self c.loop-unmove.children c.loop-unmove.run c.args.run.now c.in-Some.unmove c.pred.result _ c.in-Err-search.stop c.lengthened.result c.pred.ensures up (listed_in _ _ _ _ _ c.loop-unmove.invariant.expands.parts c.in-Some.ensures) g (c.loop-unmove.invariant.well by ps m g) c.in-Some.ensures c.lengthened.ensures (c.in-Err-search.ensures.paid (c.loop-unmove.invariant.expands.on.reasons ∙ by))

pub expand-returns-in-Err-search-clause-small : goal.expand-returns-in-Err-search-clause-small
expand-returns-in-Err-search-clause-small t c by ps m g =
    let up = pushed c.args.ancestors.now.items _ c.args.query.now c.loop-unmove.invariant.kept in
    good_small ps m c.args.query.now c.args.below _ c.loop-unmove.unmoves c.next.new.self c.loop-unmove.children c.loop-unmove.run c.args.run.now c.in-Some.unmove c.pred.result _ c.in-Err-search.stop c.lengthened.result c.pred.ensures up (listed_in _ _ _ _ _ c.loop-unmove.invariant.expands.parts c.in-Some.ensures) g (c.loop-unmove.invariant.well by ps m g) c.in-Some.ensures c.lengthened.ensures (c.in-Err-search.ensures.small (c.loop-unmove.invariant.expands.on.reasons ∙ by))

pub expand-returns-in-Err-add-clause-small : goal.expand-returns-in-Err-add-clause-small
expand-returns-in-Err-add-clause-small t c by ps m g =
    let up = pushed c.args.ancestors.now.items _ c.args.query.now c.loop-unmove.invariant.kept in
    let room = good_room ps m c.args.query.now c.args.below _ c.loop-unmove.unmoves c.next.new.self c.loop-unmove.children c.loop-unmove.run c.search.new.run c.args.run.now c.in-Some.unmove c.in-Ok-search.found c.pred.result _ c.pred.ensures up (listed_in _ _ _ _ _ c.loop-unmove.invariant.expands.parts c.in-Some.ensures) g (c.loop-unmove.invariant.well by ps m g) c.in-Some.ensures (c.in-Ok-search.ensures.well (c.loop-unmove.invariant.expands.on.reasons ∙ by)) in
    if_large c.in-Err-add.stop _ ⊥ (λ (h : 500000 ≤ c.loop-unmove.children.lines + c.in-Ok-search.found.lines). omega (arith, h, room)) c.in-Err-add.ensures.too_large

pub expand-returns-clause-well : goal.expand-returns-clause-well
expand-returns-clause-well t c by ps m g =
    good_all ps m c.args.query.now c.args.below _ c.loop-unmove.unmoves c.loop-unmove.children c.loop-unmove.run c.args.run.now c.finish.result g (c.loop-unmove.invariant.well by ps m g) c.in_default.ensures.0 c.finish.ensures.tree c.finish.ensures.lean c.finish.ensures.lines

pub search-returns-then-is_spent-clause-paid : goal.search-returns-then-is_spent-clause-paid
search-returns-then-is_spent-clause-paid t c by ps n g = paid_at_none ps _ c.args.run.now g.fits (c.is_spent.ensures.0 c.if-is_spent.true)

pub search-returns-in-Some-clause-well : goal.search-returns-in-Some-clause-well
search-returns-in-Some-clause-well t c by ps n g =
    let q : Asked = c.args.query.now in
    let own = subst (λ (l : List Asked). (IsCovered q (reverse l) → ⊥) → (c.in-Some.found.lean ≡ 0) × IsEager (tree_of c.in-Some.found.node) q) c.deref.ensures.value c.in-Some.ensures.lone in
    let is = subst (λ (l : List Asked). IsRefutation c.in-Some.found q 0 (reverse l)) c.deref.ensures.value c.in-Some.ensures.shut in
    shut_well ps n q c.args.depth (reverse c.args.ancestors.now.items) c.args.run.now c.in-Some.found (some_left c.is_spent.result _ c.is_spent.ensures c.if-is_spent.false) g is c.in-Some.ensures.one c.in-Some.ensures.lined own

-- the tree that is kept for the query
kept-lined : (run : Run) (k : Kept) → KeepsRuleLines run.memo → Contains (values run.memo.trees) k → IsByRuleLines (tree_of k.node)
kept-lined run k keeps among = All-contains (λ x. IsByRuleLines (tree_of x.node)) (values run.memo.trees) k keeps among

pub search-returns-in-Some-find-clause-well : goal.search-returns-in-Some-find-clause-well
search-returns-in-Some-find-clause-well t c by =
    let lined = kept-lined c.args.run.now c.in-Some-find.kept.now (c.requires.lined by) c.in-Some-find.ensures.among.1 in
    if_ok_both c.taken.result _ _ _ (λ found tree numbers ps n g. kept_well ps n c.args.query.now c.args.depth (reverse c.args.ancestors.now.items) c.args.run.now found c.in-Some-find.kept.now (some_left c.is_spent.result _ c.is_spent.ensures c.if-is_spent.false) g c.requires.sound c.in-Some-find.ensures.among.0 c.in-Some-find.ensures.among.1 lined tree numbers.0 numbers.2) c.taken.ensures.tree c.taken.ensures.numbers

pub search-returns-in-Some-find-clause-lined : goal.search-returns-in-Some-find-clause-lined
search-returns-in-Some-find-clause-lined t c by =
    let own = kept-lined c.args.run.now c.in-Some-find.kept.now (c.requires.lined by) c.in-Some-find.ensures.among.1 in
    if_ok c.taken.result _ _ (λ found tree. subst IsByRuleLines (sym tree) own) c.taken.ensures.tree

pub search-returns-then-keep_alone-clause-well : goal.search-returns-then-keep_alone-clause-well
search-returns-then-keep_alone-clause-well t c by ps n g =
    let q : Asked = c.args.query.now in
    let above : List Asked = reverse c.args.ancestors.now.items in
    let elsewhere : Reaches [] q → ⊥ = λ here. both_ways _ c.if-at_array.false (c.is_array-at_array.ensures.1 here) in
    let missed : IsKeptLow c.args.run.now.memo q c.args.depth → ⊥ = λ h. true≢false (sym (c.in_default-find.ensures.complete h)) in
    let b = good_at ps n q c.args.depth above c.args.run.now c.if-depth-eq0.false g (unshut-here _ _ _ c.deref.ensures.value c.in_default.ensures.shut) elsewhere c.requires.sound missed in
    let same : c.by_reason.new.run ≡ visited c.args.run.now = (c.by_reason.ensures.lines by).1 in
    let well = c.in-Ok-expand.ensures.well (c.by_reason.ensures.same.reasons ∙ by) ps b.0 (subst (λ (r : Run). IsGoodBelow ps b.0 q (c.args.depth - 1) above r) (sym same) b.2) in
    let on = c.keep_alone.ensures.on in
    well_at ps n b.0 q c.args.depth above c.args.run.now c.expand.new.run c.keep_alone.new.run c.in-Ok-expand.found c.if-depth-eq0.false (some_left c.is_spent.result _ c.is_spent.ensures c.if-is_spent.false) b.1 g b.2 (subst (λ (r : Run). GoesWellBelow ps b.0 q (c.args.depth - 1) above c.in-Ok-expand.found r c.expand.new.run) same well) on.1 (c.keep_alone.ensures.kept c.if-keep_alone.true) on.0.mode

pub search-returns-in-Err-expand-clause-paid : goal.search-returns-in-Err-expand-clause-paid
search-returns-in-Err-expand-clause-paid t c by ps n g =
    let q : Asked = c.args.query.now in
    let above : List Asked = reverse c.args.ancestors.now.items in
    let elsewhere : Reaches [] q → ⊥ = λ here. both_ways _ c.if-at_array.false (c.is_array-at_array.ensures.1 here) in
    let missed : IsKeptLow c.args.run.now.memo q c.args.depth → ⊥ = λ h. true≢false (sym (c.in_default-find.ensures.complete h)) in
    let b = good_at ps n q c.args.depth above c.args.run.now c.if-depth-eq0.false g (unshut-here _ _ _ c.deref.ensures.value c.in_default.ensures.shut) elsewhere c.requires.sound missed in
    let same : c.by_reason.new.run ≡ visited c.args.run.now = (c.by_reason.ensures.lines by).1 in
    let paid = c.in-Err-expand.ensures.paid (c.by_reason.ensures.same.reasons ∙ by) ps b.0 (subst (λ (r : Run). IsGoodBelow ps b.0 q (c.args.depth - 1) above r) (sym same) b.2) in
    if_spent c.in-Err-expand.stop (IsPaid ps above (c.args.run.now.left - 1 + 1) c.args.run.now.memo) (IsPaid ps above c.args.run.now.left c.args.run.now.memo) (paid_at ps above c.args.run.now (some_left c.is_spent.result _ c.is_spent.ensures c.if-is_spent.false)) (subst (λ (r : Run). IfSpent c.in-Err-expand.stop (IsPaid ps above (r.left + 1) r.memo)) same paid)

pub search-returns-in-Err-expand-clause-small : goal.search-returns-in-Err-expand-clause-small
search-returns-in-Err-expand-clause-small t c by ps n g =
    let q : Asked = c.args.query.now in
    let above : List Asked = reverse c.args.ancestors.now.items in
    let elsewhere : Reaches [] q → ⊥ = λ here. both_ways _ c.if-at_array.false (c.is_array-at_array.ensures.1 here) in
    let missed : IsKeptLow c.args.run.now.memo q c.args.depth → ⊥ = λ h. true≢false (sym (c.in_default-find.ensures.complete h)) in
    let b = good_at ps n q c.args.depth above c.args.run.now c.if-depth-eq0.false g (unshut-here _ _ _ c.deref.ensures.value c.in_default.ensures.shut) elsewhere c.requires.sound missed in
    let same : c.by_reason.new.run ≡ visited c.args.run.now = (c.by_reason.ensures.lines by).1 in
    c.in-Err-expand.ensures.small (c.by_reason.ensures.same.reasons ∙ by) ps b.0 (subst (λ (r : Run). IsGoodBelow ps b.0 q (c.args.depth - 1) above r) (sym same) b.2)

pub expand-returns-clause-lined : goal.expand-returns-clause-lined
expand-returns-clause-lined t c by = subst IsByRuleLines (sym c.finish.ensures.tree) (c.loop-unmove.invariant.expands.lined by)

pub search-returns-then-at_array-clause-priced : goal.search-returns-then-at_array-clause-priced
search-returns-then-at_array-clause-priced t c by e = absurd (pricing.elsewhere c.args.query.now e (c.is_array-at_array.ensures.0 c.if-at_array.true))

pub search-returns-then-at_array-clause-unpriced : goal.search-returns-then-at_array-clause-unpriced
search-returns-then-at_array-clause-unpriced t c by =
    leaf_unpriced _ c.args.query.now c.new.ensures.items (λ e. pricing.elsewhere c.args.query.now e (c.is_array-at_array.ensures.0 c.if-at_array.true))

pub search-returns-in-Some-reason-clause-on : goal.search-returns-in-Some-reason-clause-on
search-returns-in-Some-reason-clause-on t c = over_balance c.args.run.now c.by_reason.new.run c.kept_alone.new.run c.by_reason.ensures.same c.kept_alone.ensures.on.0

pub search-returns-then-keep_alone-clause-on : goal.search-returns-then-keep_alone-clause-on
search-returns-then-keep_alone-clause-on t c =
    over_balance c.args.run.now c.by_reason.new.run c.keep_alone.new.run c.by_reason.ensures.same (further c.by_reason.new.run c.expand.new.run c.keep_alone.new.run c.in-Ok-expand.ensures.on c.keep_alone.ensures.on.0)

pub search-returns-else-keep_alone-clause-on : goal.search-returns-else-keep_alone-clause-on
search-returns-else-keep_alone-clause-on t c =
    over_balance c.args.run.now c.by_reason.new.run c.keep_alone.new.run c.by_reason.ensures.same (further c.by_reason.new.run c.expand.new.run c.keep_alone.new.run c.in-Ok-expand.ensures.on c.keep_alone.ensures.on.0)

pub search-returns-in-Err-expand-clause-on : goal.search-returns-in-Err-expand-clause-on
search-returns-in-Err-expand-clause-on t c = over_balance c.args.run.now c.by_reason.new.run c.expand.new.run c.by_reason.ensures.same c.in-Err-expand.ensures.on

pub expand-returns-in-Err-search-clause-unpriced : goal.expand-returns-in-Err-search-clause-unpriced
expand-returns-in-Err-search-clause-unpriced t c by lacks =
    let on = c.loop-unmove.invariant.expands.on in
    stop_unpriced c.in-Err-search.stop c.lengthened.result c.args.query.now c.pred.result c.in-Some.unmove c.pred.ensures lacks c.lengthened.ensures (c.in-Err-search.ensures.unpriced (on.reasons ∙ by))

pub expand-returns-in-Err-search-clause-on : goal.expand-returns-in-Err-search-clause-on
expand-returns-in-Err-search-clause-on t c = further c.args.run.now c.loop-unmove.run c.search.new.run c.loop-unmove.invariant.expands.on c.in-Err-search.ensures.on

pub expand-returns-in-Err-add-clause-on : goal.expand-returns-in-Err-add-clause-on
expand-returns-in-Err-add-clause-on t c = further c.args.run.now c.loop-unmove.run c.search.new.run c.loop-unmove.invariant.expands.on c.in-Ok-search.ensures.on

pub expand-returns-in-Err-search-clause-outsized : goal.expand-returns-in-Err-search-clause-outsized
expand-returns-in-Err-search-clause-outsized t c =
    let up = pushed c.args.ancestors.now.items _ c.args.query.now c.loop-unmove.invariant.kept in
    sized_spent c.args.query.now c.args.below _ c.loop-unmove.unmoves c.next.new.self c.loop-unmove.run.left c.args.run.now.left c.in-Some.unmove c.pred.result _ c.in-Err-search.stop c.lengthened.result c.pred.ensures up c.loop-unmove.invariant.sized c.in-Some.ensures c.lengthened.ensures c.in-Err-search.ensures.outsized

pub expand-returns-in-Err-add-clause-outsized : goal.expand-returns-in-Err-add-clause-outsized
expand-returns-in-Err-add-clause-outsized t c = if_spent c.in-Err-add.stop _ _ (λ (h : ⊥). absurd h) c.in-Err-add.ensures.unspent

pub expand-returns-clause-size : goal.expand-returns-clause-size
expand-returns-clause-size t c = sized_all c.args.query.now c.args.below _ c.loop-unmove.unmoves c.loop-unmove.run.left c.args.run.now.left c.loop-unmove.invariant.sized

pub search-returns-then-is_spent-clause-outsized : goal.search-returns-then-is_spent-clause-outsized
search-returns-then-is_spent-clause-outsized t c n h =
    omega (arith, size_positive c.args.depth c.args.query.now (reverse c.args.ancestors.now.items) n h, (c.is_spent.ensures.0 c.if-is_spent.true))

pub search-returns-in-Some-clause-size : goal.search-returns-in-Some-clause-size
search-returns-in-Some-clause-size t c n h =
    omega (arith, size_positive c.args.depth c.args.query.now (reverse c.args.ancestors.now.items) n h, (some_left c.is_spent.result _ c.is_spent.ensures c.if-is_spent.false))

pub search-returns-in-Some-find-clause-size : goal.search-returns-in-Some-find-clause-size
search-returns-in-Some-find-clause-size t c =
    ok_always c.taken.result _ (λ n h. omega (arith, size_positive c.args.depth c.args.query.now (reverse c.args.ancestors.now.items) n h, (some_left c.is_spent.result _ c.is_spent.ensures c.if-is_spent.false)))

pub search-returns-in-Some-reason-clause-size : goal.search-returns-in-Some-reason-clause-size
search-returns-in-Some-reason-clause-size t c =
    ok_always c.kept_alone.result _ (λ n h. omega (arith, size_positive c.args.depth c.args.query.now (reverse c.args.ancestors.now.items) n h, (some_left c.is_spent.result _ c.is_spent.ensures c.if-is_spent.false), c.by_reason.ensures.same.left, c.kept_alone.ensures.on.1))

pub search-returns-then-keep_alone-clause-size : goal.search-returns-then-keep_alone-clause-size
search-returns-then-keep_alone-clause-size t c n h =
    let q : Asked = c.args.query.now in
    let above : List Asked = reverse c.args.ancestors.now.items in
    let elsewhere : Reaches [] q → ⊥ = λ here. both_ways _ c.if-at_array.false (c.is_array-at_array.ensures.1 here) in
    let left : c.by_reason.new.run.left ≡ c.args.run.now.left - 1 = c.by_reason.ensures.same.left in
    let own = sized_ok c.args.depth q above c.args.run.now.left c.by_reason.new.run.left c.expand.new.run.left c.if-depth-eq0.false (some_left c.is_spent.result _ c.is_spent.ensures c.if-is_spent.false) left (unshut-here _ _ _ c.deref.ensures.value c.in_default.ensures.shut) elsewhere c.in-Ok-expand.ensures.size n h in
    let same : c.keep_alone.new.run.left ≡ c.expand.new.run.left = c.keep_alone.ensures.on.1 in
    omega (arith, own, same)

pub search-returns-in-Err-expand-clause-outsized : goal.search-returns-in-Err-expand-clause-outsized
search-returns-in-Err-expand-clause-outsized t c =
    let q : Asked = c.args.query.now in
    let above : List Asked = reverse c.args.ancestors.now.items in
    let elsewhere : Reaches [] q → ⊥ = λ here. both_ways _ c.if-at_array.false (c.is_array-at_array.ensures.1 here) in
    let left : c.by_reason.new.run.left ≡ c.args.run.now.left - 1 = c.by_reason.ensures.same.left in
    if_spent c.in-Err-expand.stop _ _ (outsized c.args.depth q above c.args.run.now.left c.by_reason.new.run.left c.if-depth-eq0.false (some_left c.is_spent.result _ c.is_spent.ensures c.if-is_spent.false) left (unshut-here _ _ _ c.deref.ensures.value c.in_default.ensures.shut) elsewhere) c.in-Err-expand.ensures.outsized

pub search-returns-then-at_array-clause-sketched : goal.search-returns-then-at_array-clause-sketched
search-returns-then-at_array-clause-sketched t c by seeking has = absurd (plain-unreached c.args.query.now has [] (c.is_array-at_array.ensures.0 c.if-at_array.true))
