use Rattle.std.proofs.Common.{List, Bool, ap, refl, ◌∙◌}
use Rattle.std.proofs.lemmas.Result.{IfOk-equal}
use Rattle.sketch_sets.specs.Homes.{homes_on}
use Rattle.sketch_sets.specs.Remade.{set_of}
use Rattle.sketch_words.proofs.Crowding.{crowd-words}
use Rattle.sketch_words.proofs.crowds.push_crowd.Goals as goal
use Rattle.sketch_words.specs.Words.{set_words}

pub returns : goal.returns
returns c =
    IfOk-equal c.push_came.result c.push_came.new.out.items _ _ (rw (c.as_slice.ensures.value, c.as_slice-2.ensures.value, c.as_slice-3.ensures.value) at c.push_came.ensures)
    (crowd-words c.args.odds c.args.diagram.now c.args.sketch.now c.args.wide.now c.args.i c.args.figure.now c.array_of-first.result c.homes_on-homes.result c.get.result c.in_ok-names.names.items c.in_ok-home_list.home_list.items c.in_ok-squares.squares.items c.args.out.now.items _ c.array_of-first.ensures (c.homes_on-homes.ensures ∙ ap (homes_on c.array_of-first.result) c.figure.view_is) c.get.ensures c.in_ok-names.ensures c.in_ok-home_list.ensures (c.in_ok-squares.ensures ∙ ap (λ (l : List Bool). set_words l) (ap set_of c.figure.view_is)) refl)
