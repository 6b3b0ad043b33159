use Rattle.std.proofs.Common.{◌≡◌, ◌≤◌, ◌∙◌, sym, arith}
use Rattle.std.specs.List.{Contains}
use Rattle.std.proofs.lemmas.Bool.{both_ways}
use Rattle.std.proofs.lemmas.List.Elements.{All-contains}
use Rattle.indexmap.specs.IndexMap.{values}
use Rattle.retro_search.proofs.Maps.Lookups.{found, missed}
use Rattle.retro_search.proofs.memos.Memo.find.Goals as goal
use Rattle.retro_search.proofs.memos.Memo.find.Goals.{else-kept-depth-via-then-kept-depth+else-is_same, else-kept-depth-via-else-kept-depth}

pub returns-else-kept-depth-clause-complete : goal.returns-else-kept-depth-clause-complete
returns-else-kept-depth-clause-complete c h =
    let f = found c.args.query.now c.args.self.now.trees.entries c.in-Some.kept.now (sym c.in-Some.ensures.value) in
    let own : c.in-Some.kept.now.query ≡ c.args.query.now = All-contains (λ e. e.1.query ≡ e.0) c.args.self.now.trees.entries (f.key, c.in-Some.kept.now) h.own f.there ∙ sym f.same in
    let m = c.in-Some.ensures.member in
    let among : Contains (values c.args.self.now.trees) c.in-Some.kept.now = (m.0, m.1.0, sym m.1.1) in
    let low : c.in-Some.kept.now.height ≤ c.args.depth = All-contains (λ k. k.query ≡ c.args.query.now → k.height ≤ c.args.depth) (values c.args.self.now.trees) c.in-Some.kept.now h.low among own in
    elim c.else-kept-depth.branch [
      | else-kept-depth-via-then-kept-depth+else-is_same w ↦ absurd (both_ways _ w.if-is_same.false (w.is_same.ensures.1 own))
      | else-kept-depth-via-else-kept-depth w ↦ absurd (omega (arith, low, w.if-kept-depth.false))
    ]

pub returns-in-None-clause-complete : goal.returns-in-None-clause-complete
returns-in-None-clause-complete c h =
    absurd (missed c.args.query.now c.args.self.now.trees.entries (sym c.in-None.ensures.value) h.there)
