use Rattle.std.proofs.Common.{◌≡◌, ◌∙◌, [], ℕ, List, ap, cond, length, arith}
use Rattle.figures.specs.Figures.{figure_at}
use Rattle.prose_words.proofs.Squares.{flat_more, flat_whole}
use Rattle.sketch_words.proofs.Crowding.{lodges-told}
use Rattle.sketch_words.proofs.crowds.lodgers_list.Goals as goal
use Rattle.sketch_words.specs.Crowds.{is_lodger, named}

pub loop-i-preserved : goal.loop-i-preserved
loop-i-preserved c =
    let name : ℕ → List ℕ = λ i. cond (is_lodger c.args.odds c.args.figure.now (figure_at c.args.wide.now i)) (named c.args.diagram.now i (figure_at c.args.sketch.now i)) [] in
    let wanted : c.lodges_on-wanted.result ≡ is_lodger c.args.odds c.args.figure.now (figure_at c.args.wide.now c.loop-i.i) =
    c.lodges_on-wanted.ensures ∙ lodges-told c.args.odds c.args.figure.now c.array_of-first.result c.homes_on-homes.result c.get.result c.array_of-first.ensures c.homes_on-homes.ensures ∙ ap (is_lodger c.args.odds c.args.figure.now) c.get.ensures in
    rw (wanted, c.get-in-loop-i.ensures) at c.in_ok-push_named_if.ensures ∙ flat_more name [] _ _ c.loop-i.invariant

pub returns : goal.returns
returns c =
    let name : ℕ → List ℕ = λ i. cond (is_lodger c.args.odds c.args.figure.now (figure_at c.args.wide.now i)) (named c.args.diagram.now i (figure_at c.args.sketch.now i)) [] in
    flat_whole name [] _ _ (length c.args.wide.now) c.loop-i.invariant (omega arith)
