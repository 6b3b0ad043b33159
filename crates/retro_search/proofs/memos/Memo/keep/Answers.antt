use Rattle.std.proofs.Common.{List, length, refl, sym, ap, ◌∙◌, subst, arith}
use Rattle.std.specs.List.{All}
use Rattle.std.specs.Map.{values_of}
use Rattle.cert_text.specs.Tree.{Tree}
use Rattle.cert_text.specs.Seen.{tree_of}
use Rattle.retro_search.specs.RuleLines.{IsByRuleLines}
use Rattle.query_base.specs.Asked.{Asked}
use Rattle.retro_search.specs.Kept.{IsKept, StandsAlone}
use Rattle.retro_search.specs.declared.memos.Kept.{Kept}
use Rattle.retro_search.proofs.Maps.Inserted.{all_inserted, few_inserted}
use Rattle.indexmap.proofs.CallerLemmas.{insert_entry-new}
use Rattle.retro_search.proofs.Maps.Lookups.{absent, eq}
use Rattle.retro_search.proofs.memos.Memo.keep.Goals as goal

pub returns-clause-sound : goal.returns-clause-sound
returns-clause-sound c =
    let kept : Kept = record { query = c.args.query.now; node = c.in_ok-copied.field-0; height = c.args.found.now.height; lines = c.args.found.now.lines } in
    let alone = subst (λ (t : Tree). StandsAlone t c.args.query.now c.args.found.now.height c.args.found.now.lines) (sym c.in_ok-copied.ensures) c.requires.alone in
    record {
      each = subst (λ (es : List (Asked × Kept)). All IsKept (values_of es)) (sym c.in-Ok.ensures.entries) (all_inserted _ IsKept _ c.args.query.now _ alone c.requires.sound.each);
      trees = omega (arith, ap length c.in-Ok.ensures.entries, few_inserted eq c.args.self.now.trees.entries c.args.query.now kept, c.if-len-ge-MOST_TREES.false);
      few = omega (arith, c.requires.sound.few, c.if-self-found.false);
    }

pub returns-clause-kept : goal.returns-clause-kept
returns-clause-kept c room =
    let kept : Kept = record { query = c.args.query.now; node = c.in_ok-copied.field-0; height = c.args.found.now.height; lines = c.args.found.now.lines } in
    record {
      kept = kept;
      entries = c.in-Ok.ensures.entries ∙ insert_entry-new eq c.args.self.now.trees c.args.query.now kept (absent c.args.query.now c.args.self.now.trees.entries room.absent);
      query_is = refl;
      tree = c.in_ok-copied.ensures;
      lines = refl;
    }

pub returns-clause-lined : goal.returns-clause-lined
returns-clause-lined c keeps lined =
    let kept : Kept = record { query = c.args.query.now; node = c.in_ok-copied.field-0; height = c.args.found.now.height; lines = c.args.found.now.lines } in
    let own : IsByRuleLines (tree_of c.in_ok-copied.field-0) = subst IsByRuleLines (sym c.in_ok-copied.ensures) lined in
    subst (λ (es : List (Asked × Kept)). All (λ k. IsByRuleLines (tree_of k.node)) (values_of es)) (sym c.in-Ok.ensures.entries) (all_inserted _ (λ (k : Kept). IsByRuleLines (tree_of k.node)) _ c.args.query.now kept own keeps)
