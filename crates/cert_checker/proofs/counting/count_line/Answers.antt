use Rattle.std.proofs.Common.{◌≡◌, ◌<◌, ◌∙◌, length, reverse, refl, sym, subst, arith, rules}
use Rattle.std.proofs.lemmas.List.{length-reverse}
use Rattle.cert_checker.specs.Counting.{AreCounts}
use Rattle.cert_checker.proofs.Counted.{IsPlain, counted_kid, counts_kept, counts_popped, if_counted, nodes_counted, sketch_counted}
use Rattle.cert_checker.proofs.Taking.{kid_room}
use Rattle.cert_checker.proofs.counting.count_line.Goals as goal

pub returns-in-Sketch-clause-step : goal.returns-in-Sketch-clause-step
returns-in-Sketch-clause-step c =
    let olds = reverse c.args.counts.now.items in
    let deep : c.len-depth.result ≡ length olds = omega (arith, length-reverse c.args.counts.now.items, c.len-depth.ensures.value) in
    let some : 0 < length olds = search rules in
    let kid = counted_kid c.args.sketching.now.units olds (reverse c.put_counts.new.counts.items) _ c.args.line.now _ _ some c.requires.open deep (sym c.read_kid_line.ensures ∙ c.in-Some.is) c.put_counts.ensures in
    sketch_counted c.count_sketch.result c.args.sketching.now.units c.count_sketch.new.sketching c.in-Sketch.head c.in-Some.body _ kid.0 (reverse c.put_counts.new.counts.items) c.in-Sketch.is kid.1 kid.2 c.count_sketch.ensures.due

pub returns-in-Sketch-clause-counts : goal.returns-in-Sketch-clause-counts
returns-in-Sketch-clause-counts c =
    let olds = reverse c.args.counts.now.items in
    let deep : c.len-depth.result ≡ length olds = omega (arith, length-reverse c.args.counts.now.items, c.len-depth.ensures.value) in
    let some : 0 < length olds = search rules in
    let room = kid_room _ (length olds) c.args.line.now _ _ deep (sym c.read_kid_line.ensures ∙ c.in-Some.is) in
    if_counted c.count_sketch.result (AreCounts (reverse c.put_counts.new.counts.items)) (counts_kept c.in-Some.body olds (reverse c.put_counts.new.counts.items) some c.requires.open room c.requires.counts c.put_counts.ensures)

pub returns-in-Sketch-clause-open : goal.returns-in-Sketch-clause-open
returns-in-Sketch-clause-open c = λ nodes. absurd (c.count_sketch.ensures.nodes nodes)

pub returns-in-Sketch-clause-few : goal.returns-in-Sketch-clause-few
returns-in-Sketch-clause-few c =
    let olds = reverse c.args.counts.now.items in
    let deep : c.len-depth.result ≡ length olds = omega (arith, length-reverse c.args.counts.now.items, c.len-depth.ensures.value) in
    let room = kid_room _ (length olds) c.args.line.now _ _ deep (sym c.read_kid_line.ensures ∙ c.in-Some.is) in
    c.count_sketch.ensures.few (rw c.in-Sketch.is at room)

pub returns-in_default : goal.returns-in_default
returns-in_default c =
    let olds = reverse c.args.counts.now.items in
    let deep : c.len-depth.result ≡ length olds = omega (arith, length-reverse c.args.counts.now.items, c.len-depth.ensures.value) in
    let some : 0 < length olds = search rules in
    let says = sym c.read_kid_line.ensures ∙ c.in-Some.is in
    let kid = counted_kid c.args.sketching.now.units olds (reverse c.put_counts-in-Some.new.counts.items) _ c.args.line.now _ _ some c.requires.open deep says c.put_counts-in-Some.ensures in
    let plain : IsPlain c.in-Some.body = search rules in
    let room = kid_room _ (length olds) c.args.line.now _ _ deep says in
    record {
      step = nodes_counted c.args.sketching.now.units c.args.sketching.now c.in-Some.body _ kid.0 (reverse c.put_counts-in-Some.new.counts.items) (reverse c.settle_counts.new.counts.items) plain refl kid.1 kid.2 c.settle_counts.ensures.due;
      counts = subst AreCounts (sym c.settle_counts.ensures.due) (counts_popped (reverse c.put_counts-in-Some.new.counts.items) (counts_kept c.in-Some.body olds (reverse c.put_counts-in-Some.new.counts.items) some c.requires.open room c.requires.counts c.put_counts-in-Some.ensures));
      «open» = λ _. c.settle_counts.ensures.open;
      few = tt;
      units = refl;
    }
